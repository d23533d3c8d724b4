-- From the transform of a tile back to the tile: the inverse undoes the transform but for the factor N², and the residues take that away.
use mathlib.Core.Path.{◌≡◌, refl, sym, ap, ◌∙◌}
use mathlib.Core.List.{List}
use Prim.Native.Nat.{ℕ, suc, ◌+◌, ◌*◌, ◌^◌, ◌≤◌, ◌<◌}
use native.Mathlib.Nat.{zero-add}
use native.Mathlib.Numerals.{add-one}
use native.Mathlib.Omega.{arith}
use lib.ListN.{length, get_or}
use Rattle.algebra.specs.Congruence.{Cong}
use Rattle.algebra.specs.CongruenceLaws.{c_eq, c_refl, ◌⨟◌, c_add, c_mul}
use Rattle.fermat.specs.Field.{modulus, transform_length, inverse_of_two}
use Rattle.fermat.specs.Transform.{power_sum2}
use Rattle.fermat.specs.RootLaws.{Root}
use Rattle.fermat.specs.FieldLaws.{field_root}
use Rattle.fermat.specs.TransformLaws.{c_power_sum2}
use Rattle.fermat.specs.ConvolutionLaws.{c_undo2}
use Rattle.passes.specs.Order.{reversed}
use Rattle.passes.specs.Butterfly.{AtMost}
use Rattle.passes.specs.Halving.{word}
use Rattle.passes.specs.OrderLaws.{place_lt}
use Rattle.spectrum.specs.Tile.{TileForward, TileInverse, Spectrum, Recovered}
use Rattle.spectrum.specs.Product.{Settled, inverse_most, Reducible, OffsetResidue}
use Rattle.spectrum.specs.SpectrumLaws.{spectrum_moved}
use Rattle.spectrum.proofs.OffsetResidues.{field_reducible, field_residue}

-- s is 1/N
tile_undone : {m w v s t l n : ℕ} {z : ℕ → ℕ → ℕ} {xs : List ℕ} (ys : List ℕ) → Root m w v s t → l ≡ suc t
    → TileForward m w l n z 0 xs → TileInverse m v l n xs ys
    → (r j : ℕ) → r < 2 ^ l → j < 2 ^ l → Cong m (s * s * word n r j ys) (z r j)
tile_undone {m} {w} {v} {s} {t} {l} {n} {z} {xs} ys root e forward inverse r j lr lj =
    c_mul (c_refl {a = s * s})
    (inverse r j lr lj ⨟ c_power_sum2 (2 ^ l) v (λ k i. word n (reversed l i) (reversed l k) xs) (power_sum2 (2 ^ l) w z) r j entry)
    ⨟ undone r j lr lj
  where
    entry : (k i : ℕ) → k < 2 ^ l → i < 2 ^ l → Cong m (word n (reversed l i) (reversed l k) xs) (power_sum2 (2 ^ l) w z k i)
    entry k i lk li = c_eq (ap (λ (p : ℕ). get_or xs p 0) (sym (zero-add (reversed l i * n + reversed l k)))) ⨟ forward.entries k i lk li

    undone : (r j : ℕ) → r < 2 ^ l → j < 2 ^ l → Cong m (s * s * power_sum2 (2 ^ l) v (power_sum2 (2 ^ l) w z) r j) (z r j)
    undone = rw e (c_undo2 root z)

module _ (t : ℕ) where
  -- what the residues ask
  pub inverse_reducible : (ys : List ℕ) → 4 ≤ t → t ≤ 5 → AtMost (inverse_most t) ys → (i : ℕ) → i < length ys
      → Reducible (2 ^ t) (2 * (t + 1)) (get_or ys i 0)
  inverse_reducible ys low high most i h = field_reducible t low high _ (most i h)

  -- words brought down, then inverted, then residues
  pub recovered : (xs ss ys zs : List ℕ) → 4 ≤ t → t ≤ 5 → length xs ≡ transform_length t * transform_length t → length ys ≡ length xs
      → ((i : ℕ) → i < length xs → Settled t (get_or xs i 0) (get_or ss i 0))
      → TileInverse (modulus t) (inverse_of_two t) (t + 1) (transform_length t) ss ys
      → ((i : ℕ) → i < length ys → OffsetResidue (2 ^ t) (2 * (t + 1)) (get_or ys i 0) (get_or zs i 0)) → Recovered t xs zs
  recovered xs ss ys zs low high size same settled inverse residues z forward r j lr lj =
      field_residue t low high _ _ (residues (r * transform_length t + j) (omega (arith, place_lt r j lr lj)))
      ∙ (c_add (tile_undone ys (field_root t) (add-one t) down inverse r j lr lj) c_refl).same
    where
      down : Spectrum t z 0 ss
      down = spectrum_moved refl forward (λ i l. rw (zero-add i) (settled i (omega arith)).value)
