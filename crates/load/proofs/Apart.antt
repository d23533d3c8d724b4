-- A loop over the numbers q, q + S, q + 2S, .. below n: what it has added up so far is `apart` of the numbers before the next one. It rests on the
-- laws of sums and of remainders.
use mathlib.Core.Path.{◌≡◌, sym, ap, ◌∙◌}
use mathlib.Core.Bool.{cond}
use Prim.Native.Nat.{ℕ, ◌+◌, ◌-◌, ◌%◌, ◌<◌, ◌≤◌}
use native.Mathlib.Nat.{mod-lt, mod-eq_of_lt, mod-add-mod, mod-eq-sub-mod, add-mod_right}
use native.Mathlib.Decide.{dec_lt}
use native.Mathlib.Omega.{arith}
use borrow.Author.Tests.{eq-eqb, ne_eqb}
use lib.Dec.{eqb}
use Rattle.algebra.specs.Sum.{sum}
use Rattle.algebra.specs.SumLaws.{naturals, sum_zero, sum_split, sum_short, sum_single}
use Rattle.load.specs.Weights.{apart}

-- two numbers less than S apart leave different remainders
different : (i d S : ℕ) → 0 < d → d < S → (i + d) % S ≡ i % S → ⊥
different i d S low high e = go (dec_lt (i % S + d) S)
  where
    same : (i % S + d) % S ≡ i % S
    same = mod-add-mod i S d ∙ e

    go : Dec (i % S + d < S) → ⊥
    go (yes l) = omega (arith, sym same ∙ mod-eq_of_lt l)
    go (no h) =
        let under : i % S < S = mod-lt i (omega arith) in
        let past : S ≤ i % S + d = omega arith in
        let less : i % S + d - S < S = omega arith in
        omega (arith, sym same ∙ mod-eq-sub-mod past ∙ mod-eq_of_lt less)

-- b is the next of the numbers q, q + S, .., the first one not below n or one before it, and total is the sum over those before
pub record SummedTo (S q n : ℕ) (f : ℕ → ℕ) (b total : ℕ) : Type 0 where
  pub below : q < S
  pub rest : b % S ≡ q
  pub near : b < n + S
  pub sums : total ≡ apart S q b f

-- what another remainder takes out
out : (S q : ℕ) (f : ℕ → ℕ) (i : ℕ) → (i % S ≡ q → ⊥) → cond (eqb (i % S) q) (f i) 0 ≡ 0
out S q f i d = rw (ne_eqb (i % S) q d)

module _ {S q n : ℕ} {f : ℕ → ℕ} where
  pub summed_none : q < S → SummedTo S q n f q 0
  unfolding apart
  summed_none l = record {
    below = l;
    rest = mod-eq_of_lt l;
    near = omega arith;
    sums = sym (sum_zero naturals q _ (λ i li. out S q f i (λ e. omega (arith, e, mod-eq_of_lt {n = i} {m = S} (omega arith)))));
  }

  pub summed_next : {b total x : ℕ} → b < n → SummedTo S q n f b total → x ≡ f b → SummedTo S q n f (b + S) (total + x)
  unfolding apart
  summed_next {b} {total} {x} l s e = record {
    below = s.below;
    rest = add-mod_right b S ∙ s.rest;
    near = omega arith;
    sums = omega (arith, s.sums, e, more);
  }
    where
      first : cond (eqb ((b + 0) % S) q) (f (b + 0)) 0 ≡ f b
      first = let e : b + 0 ≡ b = omega arith in rw (e, eq-eqb (b % S) q s.rest)

      more : sum (b + S) (λ i. cond (eqb (i % S) q) (f i) 0) ≡ sum b (λ i. cond (eqb (i % S) q) (f i) 0) + f b
      more =
          sum_split naturals b S _
          ∙ ap (λ (k : ℕ). sum b (λ i. cond (eqb (i % S) q) (f i) 0) + k)
          (sum_single naturals S 0 _ (omega (arith, s.below)) (λ i l d. out S q f (b + i) (λ e. different b i S (omega arith) l (e ∙ sym s.rest))) ∙ first)

  -- where the next one is not below n, none of n is left
  pub summed_all : {b total : ℕ} → n ≤ b → SummedTo S q n f b total → total ≡ apart S q n f
  unfolding apart
  summed_all {b} past s = s.sums ∙ sum_short naturals n b _ past (λ i low high. out S q f i (λ e.
      let whole : i + (b - i) ≡ b = omega arith in
      different i (b - i) S (omega arith) (omega (arith, s.near)) (ap (λ (k : ℕ). k % S) whole ∙ s.rest ∙ sym e)))
