-- Laws of a check that asks one rule after another: its answer has the number of the first rule that is broken. They rest on the definitions alone.
use Rattle.std.specs.Prelude.{◌≡◌, refl, Bool, true, false, cond, List, ◌++◌, ℕ, ◌<◌, T, Result, Ok, Err}
use Rattle.std.specs.Result.{IsErr, IsErrAnd, result_from_control_flow}
use Rattle.std.specs.Range.{range_inclusive_contains, range_inclusive_start, range_inclusive_end, range_inclusive_exhausted}
use Rattle.std.specs.contracts.prelude.UsizePartialOrd.TheImpl as usize_order
use Rattle.std.proofs.Common.{sym, ap, ◌∙◌, arith, Continue, Break}
use Rattle.base.specs.declared.rules.Refusal.{Refusal}
use Rattle.base.specs.declared.rules.Refusal.TheVariants.{Kind, Field, Channels, MapSize, KernelSide, Stride, Padding, Output, Crop, MapLength, KernelLength, OutputLength, ScratchLength, Peak, ValueAbove, Load, Index, WordCount, Residues, Levels, StepCount, Links, Added, BlankChannel, ValueBelow, Filter, JoinedSide, JoinedWeight, NoWindow}
use Rattle.base.specs.Rules.{Rule, first_broken, inside}
use Rattle.base.specs.RulesLaws.{numbered, both_tests, equal_tests, most_tests, first_answers, goes_on}
use Rattle.base.specs.Refusals.{number_of, required, code_of}

-- ---- no refusal has the number of a check that passes

pub number_above : (refusal : Refusal) → 0 < number_of refusal
number_above Kind = omega arith
number_above Field = omega arith
number_above Channels = omega arith
number_above MapSize = omega arith
number_above KernelSide = omega arith
number_above Stride = omega arith
number_above Padding = omega arith
number_above Output = omega arith
number_above Crop = omega arith
number_above MapLength = omega arith
number_above KernelLength = omega arith
number_above OutputLength = omega arith
number_above ScratchLength = omega arith
number_above Peak = omega arith
number_above ValueAbove = omega arith
number_above Load = omega arith
number_above Index = omega arith
number_above WordCount = omega arith
number_above Residues = omega arith
number_above Levels = omega arith
number_above StepCount = omega arith
number_above Links = omega arith
number_above Added = omega arith
number_above BlankChannel = omega arith
number_above ValueBelow = omega arith
number_above Filter = omega arith
number_above JoinedSide = omega arith
number_above JoinedWeight = omega arith
number_above NoWindow = omega arith

-- ---- one rule; `test` is what the code found of it, and `flow` is how `?` goes on with the answer

-- where it is kept, it holds, and the later rules decide
kept : (refusal : Refusal) {test : Bool} → Ok tt ≡ required refusal test → test ≡ true
unfolding required
kept refusal {test = true} e = refl
kept refusal {test = false} e = absurd (cc)

pub passes : (refusal : Refusal) (number : ℕ) (answer : Result (Unit {0}) Refusal) (flow : _) {test holds : Bool} {code rest : ℕ}
    → answer ≡ required refusal test → answer ≡ result_from_control_flow flow → flow ≡ Continue tt → test ≡ holds → code ≡ rest
    → code ≡ cond holds rest number
passes refusal number answer flow {rest = rest} e f g t r =
    r ∙ sym (ap (λ (b : Bool). cond b rest number) (sym t ∙ kept refusal (sym (f ∙ ap result_from_control_flow g) ∙ e)))

-- where it is broken, its number is the answer
broken_by : (refusal broken : Refusal) (rest number : ℕ) (test : Bool) → Err broken ≡ required refusal test → number_of refusal ≡ number
    → number_of broken ≡ cond test rest number
unfolding required
broken_by refusal broken rest number true e n = absurd (cc)
broken_by refusal broken rest number false e n = let same : broken ≡ refusal = cc in ap number_of same ∙ n

pub breaks : (refusal : Refusal) (number : ℕ) (answer : Result (Unit {0}) Refusal) (flow : _) (residual : _) (rest : ℕ) {test holds : Bool}
    → answer ≡ required refusal test → answer ≡ result_from_control_flow flow → flow ≡ Break residual → test ≡ holds → number_of refusal ≡ number
    → number_of residual.0 ≡ cond holds rest number
breaks refusal number answer flow residual rest e f g t n =
    broken_by refusal residual.0 rest number _ (sym (f ∙ ap result_from_control_flow g) ∙ e) n ∙ ap (λ (b : Bool). cond b rest number) t

-- what `?` hands on is the refusal that it met
pub handed_on : (result : Result (Unit {0}) Refusal) (broken : Refusal) {code : ℕ}
    → IsErr result × IsErrAnd result (λ (refusal : Refusal). refusal ≡ broken) → number_of broken ≡ code → code_of result ≡ code
handed_on (Ok passed) broken (fails, same) n = absurd same
handed_on (Err refusal) broken (fails, same) n = ap number_of same ∙ n

-- the last rule alone
pub answers : (refusal : Refusal) (number : ℕ) {test holds : Bool} {result : Result (Unit {0}) Refusal} → result ≡ required refusal test → test ≡ holds
    → number_of refusal ≡ number → code_of result ≡ cond holds 0 number
unfolding required
answers refusal number {test = true} e t n = ap code_of e ∙ ap (λ (b : Bool). cond b 0 number) t
answers refusal number {test = false} e t n = ap code_of e ∙ n ∙ ap (λ (b : Bool). cond b 0 number) t

-- a test by a range is that of `inside`
pub contains_inside : (range : _) (low high x : ℕ) {found : Bool} → found ≡ range_inclusive_contains (usize_order.partial_cmp-value).it range x
    → range_inclusive_start range ≡ low → range_inclusive_end range ≡ high → range_inclusive_exhausted range ≡ false → found ≡ inside low high x
unfolding inside
contains_inside range low high x found start end whole = grind arith

-- by these `search` finds that an answer is that of a list of rules
pub ruleset required-steps = (passes, breaks, answers, contains_inside, both_tests, equal_tests, most_tests)

-- ---- two lists of rules, one after the other: an answer of the first list that is a refusal, or that of the second

module _ (rules more : List Rule) where
  pub first_refuses : (broken : Refusal) → number_of broken ≡ first_broken rules → number_of broken ≡ first_broken (rules ++ more)
  first_refuses broken e = first_answers rules more e (λ z. omega (arith, number_above broken))

  pub second_decides : T (numbered rules) → {code : ℕ} → 0 ≡ first_broken rules → code ≡ first_broken more → code ≡ first_broken (rules ++ more)
  second_decides n passed e = goes_on rules more n passed refl e
