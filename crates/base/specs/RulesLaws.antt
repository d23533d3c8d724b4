-- Laws of a list of rules: where no rule is broken each holds; the code rule after rule is that of the list, and two lists one after the other
-- have the first code of both. They rest on the definitions alone.
use Rattle.std.specs.Prelude.{◌≡◌, refl, Bool, true, false, cond, ◌&&◌, List, [], ◌∷◌, ◌++◌, ◌⊎◌, ℕ, zero, suc, ◌<◌, ◌≤◌, T, eqb, leb, ltb}
use Rattle.std.proofs.Common.{sym, ap, ap₂, ◌∙◌, ⊎_elim, arith, ltb→lt}
use Rattle.std.proofs.Math.Facts.{and_yes, yes_and}
use borrow.Author.Tests.{leb-true, le-leb, eqb-false}
use Rattle.algebra.specs.EveryLaws.{both_true}
use Rattle.base.specs.Rules.{Rule, rule, first_broken, rules_before, next_code, first_code, inside, outcome}

-- ---- what the answer 0 says

-- each rule holds
abbrev pub Hold : List Rule → Type 0
Hold [] = Unit {0}
Hold (rule number holds ∷ rules) = (holds ≡ true) × Hold rules

-- the number of each rule passes a test
abbrev pub every_number : (ℕ → Bool) → List Rule → Bool
every_number test [] = true
every_number test (rule number holds ∷ rules) = test number && every_number test rules

-- that of the rules of two lists, one after the other
pub numbers_both : (test : ℕ → Bool) (rules more : List Rule) → T (every_number test rules) → T (every_number test more) → T (every_number test (rules ++ more))
numbers_both test [] more one two = two
numbers_both test (rule number holds ∷ rules) more one two =
    let (passes, rest) = and_yes (test number) (every_number test rules) one in
    yes_and (test number) (every_number test (rules ++ more)) passes (numbers_both test rules more rest two)

-- no rule has the number 0
abbrev pub numbered : List Rule → Bool
numbered [] = true
numbered (rule number holds ∷ rules) = ltb 0 number && numbered rules

pub numbered_every : (rules : List Rule) → T (every_number (ltb 0) rules) → T (numbered rules)
numbered_every [] above = tt
numbered_every (rule number holds ∷ rules) above =
    let (first, rest) = and_yes (ltb 0 number) (every_number (ltb 0) rules) above in
    yes_and (ltb 0 number) (numbered rules) first (numbered_every rules rest)

pub none_broken : (rules : List Rule) → T (numbered rules) → first_broken rules ≡ 0 → Hold rules
none_broken [] n e = tt
none_broken (rule number true ∷ rules) n e = (refl, none_broken rules (and_yes (ltb 0 number) (numbered rules) n).1 e)
none_broken (rule number false ∷ rules) n e =
    let above : 0 < number = ltb→lt 0 number (and_yes (ltb 0 number) (numbered rules) n).0 in absurd (omega arith)

pub all_hold : (rules : List Rule) → Hold rules → first_broken rules ≡ 0
all_hold [] h = refl
all_hold (rule number holds ∷ rules) h = ap (λ (b : Bool). cond b (first_broken rules) number) h.0 ∙ all_hold rules h.1

-- ---- the code's way: rule after rule

-- the code after each rule of a list, from a code on
abbrev pub checked : (code : ℕ) → List Rule → ℕ
checked code [] = code
checked code (rule number holds ∷ rules) = checked (next_code code number holds) rules

pub rule_by_rule : (rules : List Rule) → T (numbered rules) → checked 0 rules ≡ first_broken rules
unfolding next_code first_code
rule_by_rule [] n = refl
rule_by_rule (rule number true ∷ rules) n = rule_by_rule rules (and_yes (ltb 0 number) (numbered rules) n).1
rule_by_rule (rule zero false ∷ rules) n = absurd (and_yes (ltb 0 zero) (numbered rules) n).0
rule_by_rule (rule (suc number) false ∷ rules) n = stays number rules
  where
    stays : (code : ℕ) (rules : List Rule) → checked (suc code) rules ≡ suc code
    stays code [] = refl
    stays code (rule number holds ∷ rules) = stays code rules

-- a code after rules, the last rule first; `test` is what the code found of a rule
pub data CodeAfter : List Rule → ℕ → Type 0 where
  no_rule : CodeAfter [] 0
  next_rule : {before code number : ℕ} {test holds : Bool} {rules : List Rule} → code ≡ next_code before number test → test ≡ holds →
      CodeAfter rules before → CodeAfter (rule number holds ∷ rules) code

-- what the code found, where a part of the test is what a call answered
pub both_tests : {a b x y : Bool} → a ≡ x → b ≡ y → (a && b) ≡ (x && y)
both_tests e f = ap₂ ◌&&◌ e f

pub equal_tests : (x a b : ℕ) → a ≡ b → eqb x a ≡ eqb x b
equal_tests x a b e = ap (eqb x) e

pub most_tests : (x a b : ℕ) → a ≡ b → leb a x ≡ leb b x
most_tests x a b e = ap (λ (n : ℕ). leb n x) e

-- by these `search` finds that a code is the one after rules
pub ruleset rule-steps = (no_rule, next_rule, both_tests, equal_tests, most_tests)

-- the rules in the opposite order, before others
abbrev pub reversed : (rules others : List Rule) → List Rule
reversed [] others = others
reversed (first ∷ rules) others = reversed rules (first ∷ others)

-- the code after a list of rules
pub in_order : (rules : List Rule) → T (numbered rules) → {code : ℕ} → CodeAfter (reversed rules []) code → code ≡ first_broken rules
in_order rules n after = goes_through after [] ∙ ap (checked 0) (twice rules []) ∙ rule_by_rule rules n
  where
    goes_through : {done : List Rule} {code : ℕ} → CodeAfter done code → (rules : List Rule) → checked code rules ≡ checked 0 (reversed done rules)
    goes_through no_rule rules = refl
    goes_through (next_rule {before = before} {number = number} {holds = holds} e t after) rules =
        ap (λ (code : ℕ). checked code rules) (e ∙ ap (next_code before number) t) ∙ goes_through after (rule number holds ∷ rules)

    twice : (rules done : List Rule) → reversed (reversed rules done) [] ≡ reversed done rules
    twice [] done = refl
    twice (first ∷ rules) done = twice rules (first ∷ done)

-- one rule alone; `test` is what the code found
pub one_rule : (number : ℕ) {code : ℕ} {test holds : Bool} → code ≡ next_code 0 number test → test ≡ holds → code ≡ first_broken (rule number holds ∷ [])
unfolding next_code first_code
one_rule number e t = e ∙ ap (λ (b : Bool). cond b 0 number) t

-- ---- two lists of rules, one after the other: the first list's answer where it is not 0, else the second's

pub first_answers : {code : ℕ} (rules more : List Rule) → code ≡ first_broken rules → (code ≡ 0 → ⊥) → code ≡ first_broken (rules ++ more)
first_answers [] more e stopped = absurd (stopped e)
first_answers (rule number true ∷ rules) more e stopped = first_answers rules more e stopped
first_answers (rule number false ∷ rules) more e stopped = e

pub second_answers : (rules more : List Rule) → T (numbered rules) → first_broken rules ≡ 0 → first_broken (rules ++ more) ≡ first_broken more
second_answers rules more n e = all_pass rules (none_broken rules n e)
  where
    all_pass : (rules : List Rule) → Hold rules → first_broken (rules ++ more) ≡ first_broken more
    all_pass [] h = refl
    all_pass (rule number holds ∷ rules) h =
        ap (λ (b : Bool). cond b (first_broken (rules ++ more)) number) h.0 ∙ all_pass rules h.1

pub goes_on : (rules more : List Rule) → T (numbered rules) → {code answer : ℕ} → code ≡ first_broken rules → code ≡ 0 → answer ≡ first_broken more
    → answer ≡ first_broken (rules ++ more)
goes_on rules more n first none second = second ∙ sym (second_answers rules more n (sym first ∙ none))

pub codes_in_order : (rules more : List Rule) → T (numbered rules) → {code first second : ℕ} → code ≡ first_code first second
    → first ≡ first_broken rules → second ≡ first_broken more → code ≡ first_broken (rules ++ more)
unfolding first_code
codes_in_order rules more n e f g = e ∙ ap₂ first_code f g ∙ joined rules n
  where
    joined : (rules : List Rule) → T (numbered rules) → first_code (first_broken rules) (first_broken more) ≡ first_broken (rules ++ more)
    joined [] n = refl
    joined (rule number true ∷ rules) n = joined rules (and_yes (ltb 0 number) (numbered rules) n).1
    joined (rule zero false ∷ rules) n = absurd (and_yes (ltb 0 zero) (numbered rules) n).0
    joined (rule (suc number) false ∷ rules) n = refl

-- one rule more at the end
pub one_more_rule : (rules : List Rule) → T (numbered rules) → (number : ℕ) {before code : ℕ} {test holds : Bool} → before ≡ first_broken rules
    → code ≡ next_code before number test → test ≡ holds → code ≡ first_broken (rules ++ rule number holds ∷ [])
unfolding next_code
one_more_rule rules n number {holds = holds} f e t =
    codes_in_order rules (rule number holds ∷ []) n e f (ap (λ (b : Bool). cond b 0 number) t)

-- the answer 0 is that of both lists
pub both_accept : (rules more : List Rule) → T (numbered rules) → first_broken (rules ++ more) ≡ 0 →
    (first_broken rules ≡ 0) × (first_broken more ≡ 0)
both_accept rules more n e = by_first (first_broken rules) refl
  where
    by_first : (code : ℕ) → code ≡ first_broken rules → (first_broken rules ≡ 0) × (first_broken more ≡ 0)
    by_first zero f = (sym f, sym (second_answers rules more n (sym f)) ∙ e)
    by_first (suc code) f = absurd (omega (arith, first_answers rules more f (λ z. omega arith), e))

-- where the answer is 0 or a rule's number, every rule before the first with that number holds
pub before_holds : (number : ℕ) (rules : List Rule) → T (numbered rules) → (first_broken rules ≡ 0) ⊎ (first_broken rules ≡ number)
    → first_broken (rules_before number rules) ≡ 0
before_holds number [] n e = refl
before_holds number (rule other holds ∷ rules) n e =
    let (above, more) = and_yes (ltb 0 other) (numbered rules) n in
    by_number (eqb other number) refl (ltb→lt 0 other above) holds e (before_holds number rules more)
  where
    by_number : (same : Bool) → eqb other number ≡ same → 0 < other → (holds : Bool)
        → (cond holds (first_broken rules) other ≡ 0) ⊎ (cond holds (first_broken rules) other ≡ number)
        → ((first_broken rules ≡ 0) ⊎ (first_broken rules ≡ number) → first_broken (rules_before number rules) ≡ 0)
        → first_broken (cond same [] (rule other holds ∷ rules_before number rules)) ≡ 0
    by_number true t above holds e later = refl
    by_number false t above true e later = later e
    by_number false t above false e later = absurd (⊎_elim (λ z. omega arith) (eqb-false other number t) e)

-- ---- both tests of `inside`

module _ (low high x : ℕ) where
  pub inside_low : inside low high x ≡ true → low ≤ x
  unfolding inside
  inside_low e = leb-true low x (both_true (leb low x) (leb x high) e).0

  pub inside_high : inside low high x ≡ true → x ≤ high
  unfolding inside
  inside_high e = leb-true x high (both_true (leb low x) (leb x high) e).1

  pub inside_from : low ≤ x → x ≤ high → inside low high x ≡ true
  unfolding inside
  inside_from l h = rw (le-leb low x l, le-leb x high h)

-- ---- what stands in the end

pub outcome_made : {A : Type 0} (made lent : A) {code : ℕ} → code ≡ 0 → outcome code made lent ≡ made
outcome_made made lent e = ap (λ (code : ℕ). outcome code made lent) e

pub outcome_lent : {A : Type 0} (made lent : A) (code : ℕ) → (code ≡ 0 → ⊥) → outcome code made lent ≡ lent
outcome_lent made lent zero broken = absurd (broken refl)
outcome_lent made lent (suc code) broken = refl
