-- Laws of `RowSpectrum`: words that hold the transform of 256 words. They may be changed to congruent ones and may move. They rest on fermat's laws of
-- a transform. A product added word by word, and the pair at the root, are in proofs/RootLaws.
use Rattle.std.specs.Prelude.{◌≡◌, refl, List, ℕ, ◌+◌, ◌*◌, ◌<◌, get_or}
use Rattle.std.proofs.Common.{sym, ◌∙◌, arith}
use Rattle.algebra.specs.Congruence.{Cong}
use Rattle.algebra.specs.CongruenceLaws.{c_eq, ◌⨟◌}
use Rattle.fermat.specs.Field.{modulus}
use Rattle.fermat.specs.TransformLaws.{power_sum_zero}
use Rattle.row.specs.Powers.{row_root}
use Rattle.row.specs.Row.{RowSpectrum}

-- words that are all 0 hold the transform of 0
pub row_none : {at : ℕ} {ys : List ℕ} → ((i : ℕ) → i < 256 → get_or ys (at + i) 0 ≡ 0) → RowSpectrum (λ i. 0) at ys
row_none none = record {
  entry = λ l k ll lk. c_eq (none (l * 16 + k) (omega arith) ∙ sym (power_sum_zero 256 row_root (λ i. 0) _ (λ i. refl)));
}

module _ {x : ℕ → ℕ} where
  -- congruent words, from another place on
  pub row_moved : {a b : ℕ} {xs ys : List ℕ} → RowSpectrum x a xs
      → ((i : ℕ) → i < 256 → Cong (modulus 4) (get_or ys (b + i) 0) (get_or xs (a + i) 0)) → RowSpectrum x b ys
  row_moved s same = record { entry = λ l k ll lk. same (l * 16 + k) (omega arith) ⨟ s.entry l k ll lk }

  -- the same words
  pub row_kept : {at : ℕ} {xs ys : List ℕ} → RowSpectrum x at xs
      → ((i : ℕ) → i < 256 → get_or ys (at + i) 0 ≡ get_or xs (at + i) 0) → RowSpectrum x at ys
  row_kept s same = row_moved s (λ i h. c_eq (same i h))
