-- What the closure answers for a place is the test of its weight, and the places are all that are counted.
use Rattle.std.specs.Prelude.{◌≡◌, refl, Bool, true, false, ◌&&◌, ℕ, zero, suc, ◌+◌}
use Rattle.std.specs.List.{list_all, range_with_len}
use Rattle.std.proofs.Common.{sym, ap, ◌∙◌, arith, rules}
use Rattle.std.proofs.lemmas.Iterator.{YieldsList-from_range}
use Rattle.std.proofs.lemmas.Iterator.Search.{all_from_yields_List}
use borrow.Author.Tests.{tests}
use Rattle.algebra.specs.Every.{every}
use Rattle.algebra.specs.EveryLaws.{every_cong}
use Rattle.joined.specs.Joined.{joined_at}
use Rattle.join.specs.Answer.{fits, weights_fit}
use Rattle.join.proofs.checks.weights_fit.Goals as goal

both_assoc : (x y z : Bool) → (x && y) && z ≡ x && (y && z)
both_assoc true y z = refl
both_assoc false y z = refl

both_true : (x : Bool) → x ≡ x && true
both_true true = refl
both_true false = refl

-- the first test apart
every_first : (n : ℕ) (test : ℕ → Bool) → every (suc n) test ≡ test 0 && every n (λ i. test (suc i))
every_first zero test = both_true (test 0)
every_first (suc n) test = ap (λ (b : Bool). b && test (suc n)) (every_first n test) ∙ both_assoc (test 0) _ _

all-range : (test : ℕ → Bool) (a n : ℕ) → list_all test (range_with_len a n) ≡ every n (λ i. test (a + i))
all-range test a zero = refl
all-range test a (suc n) =
    ap (λ (b : Bool). test a && b) (all-range test (a + 1) n ∙ every_cong n _ _ (λ i l. ap test (omega arith)))
    ∙ ap (λ (k : ℕ). test k && every n (λ i. test (a + suc i))) (omega arith)
    ∙ sym (every_first n (λ i. test (a + i)))

pub returns : goal.returns
unfolding weights_fit
returns c =
    let a = c.args.filters.now in
    let count = c.args.count in
    let test : ℕ → Bool = λ p. fits (joined_at a.first a.first_kernel.now a.second a.second_kernel.now p) in
    let found = all_from_yields_List test _ _ c.all.result c.all.ensures.ran (YieldsList-from_range 0 count count (cc) (omega arith)) (λ x b q k. search (rules, tests)) in
    found ∙ all-range test 0 count ∙ every_cong count _ _ (λ i l. ap test (omega arith)) ∙ ap (λ (n : ℕ). every n test) c.requires
