-- The loop of the twist: rows that are multiplied by their factors, one after another. It rests on the laws of a part that is lent.
use mathlib.Core.Path.{◌≡◌, refl, sym, ap, ◌∙◌, subst}
use mathlib.Core.List.{List}
use Prim.Native.Nat.{ℕ, ◌+◌, ◌*◌, ◌^◌, ◌<◌, ◌≤◌}
use native.Mathlib.Decide.{dec_lt}
use native.Mathlib.Omega.{arith}
use lib.ListN.{length, get_or}
use borrow.Rule.Slice.PartMut.{mid_of, put_mid}
use Rattle.algebra.specs.PlacesLaws.{get_d_put_mid, get_d_put_mid_before, get_d_put_mid_after}
use Rattle.algebra.specs.CongruenceLaws.{c_refl, ◌⨟◌, c_via, c_mul}
use Rattle.passes.specs.Halving.{word}
use Rattle.passes.specs.PartLaws.{part-word}
use Rattle.spectrum.specs.Product.{Settled}
use Rattle.row.specs.Powers.{row_root}
use Rattle.row.specs.Row.{frequency_of, Factors, Multiplied, Twisted}

-- the rows before `count` are done, and the others are as they were
pub record Twisting (unit count : ℕ) (xs ys : List ℕ) : Type 0 where
  pub done : Twisted unit count xs ys
  pub rest : (i : ℕ) → 16 * count ≤ i → get_or ys i 0 ≡ get_or xs i 0

pub twisting_none : (unit : ℕ) (xs : List ℕ) → Twisting unit 0 xs xs
twisting_none unit xs = record { done = λ r j l h. absurd (omega arith); rest = λ i l. refl }

module _ (unit count s : ℕ) (xs ys us fs : List ℕ) (es : s ≡ 16) (le : 16 * count + s ≤ length ys) (len : length us ≡ s)
    (before : Twisting unit count xs ys) (factors : Factors (unit * frequency_of count) fs)
    (made : Multiplied fs (mid_of (16 * count) s ys) us) where
  abbrev zs : List ℕ
  zs = put_mid (16 * count) s ys us

  after : (i : ℕ) → 16 * (count + 1) ≤ i → get_or zs i 0 ≡ get_or xs i 0
  after i l = get_d_put_mid_after 0 ys us (16 * count) s le len i (omega arith) ∙ before.rest i (omega arith)

  old : (j : ℕ) → j < 16 → get_or (mid_of (16 * count) s ys) j 0 ≡ word 16 count j xs
  old j l =
      part-word (16 * count) s ys le j (omega arith) ∙ before.rest (16 * count + j) (omega arith) ∙ ap (λ (i : ℕ). get_or xs i 0) (omega arith)

  new : (j : ℕ) → j < 16 → get_or us j 0 ≡ word 16 count j zs
  new j l = sym (get_d_put_mid 0 ys us (16 * count) s le len j (omega arith)) ∙ ap (λ (i : ℕ). get_or zs i 0) (omega arith)

  here : (j : ℕ) → j < 16 → Settled 4 (word 16 count j xs * row_root ^ (j * (unit * frequency_of count))) (word 16 count j zs)
  here j l = rw (← new j l) (record {
    value = (made j l).value ⨟ c_via (ap (λ (x : ℕ). x * get_or fs j 0) (old j l)) (c_mul (c_refl {a = word 16 count j xs}) (factors.value j l)) refl;
    bound = (made j l).bound;
  })

  pub twisting_more : Twisting unit (count + 1) xs zs
  twisting_more = record { done = λ r j lr lj. go r j lr lj (dec_lt r count); rest = after }
    where
      Done : ℕ → ℕ → Type 0
      Done r j = Settled 4 (word 16 r j xs * row_root ^ (j * (unit * frequency_of r))) (word 16 r j zs)

      go : (r j : ℕ) → r < count + 1 → j < 16 → Dec (r < count) → Done r j
      go r j lr lj (yes l) = rw (get_d_put_mid_before 0 ys us (16 * count) s le len (r * 16 + j) (omega arith)) (before.done r j l lj)
      go r j lr lj (no l) = let e : count ≡ r = omega arith in subst (λ (k : ℕ). Done k j) e (here j lj)
