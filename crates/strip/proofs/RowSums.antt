-- What a kernel row adds to a strip. Where words represent its weights and what its window row shows, their circular sum represents it; where no
-- map row is met, it is 0. The sum over all kernel rows is the channel's. It rests on the folding of circular sums.
use mathlib.Core.Path.{◌≡◌, refl, sym, ap, ap₂, ◌∙◌}
use mathlib.Core.Bool.{false}
use mathlib.Core.List.{List}
use Prim.Native.Nat.{ℕ, ◌+◌, ◌-◌, ◌<◌, ◌≤◌}
use native.Mathlib.Numerals.{add-one}
use native.Mathlib.Omega.{arith}
use lib.IntN.{ℤ, pos, ◌+ℤ◌, +ℤ_assoc, *ℤ-zero}
use Rattle.algebra.specs.Residue.{Represents}
use Rattle.algebra.specs.Sum.{sum_z}
use Rattle.algebra.specs.SumLaws.{integers, sum_zero, sum_z_none, sum_z_last, plus_none_right}
use Rattle.algebra.specs.ResidueLaws.{represents_mul, represents_sum}
use Rattle.fermat.specs.Transform.{circular}
use Rattle.fermat.specs.FoldingLaws.{folding}
use Rattle.layer.specs.Direct.{plane_of}
use Rattle.layer.specs.Windows.{spread}
use Rattle.layer.specs.declared.shape.Layer.{Layer}
use Rattle.window.specs.Window.{spacing, edge, window_at, weight_at, channel_sum}
use Rattle.strip.specs.Rows.{row_sum, sum_up_to}
use Rattle.strip.specs.declared.origin.StripOrigin.{StripOrigin}

module _ (l : Layer) (map kernel : List ℤ) (m row column c a : ℕ) where
  -- words for both rows
  pub row_represents : {modulus : ℕ} (weight window : ℕ → ℕ) → l.side ≤ 256
      → ((b : ℕ) → b < l.side → Represents modulus (weight_at l kernel (plane_of l m c) a b) (weight b)) → ((b : ℕ) → l.side ≤ b → weight b ≡ 0)
      → ((v : ℕ) → v < 256 → Represents modulus (window_at l map c row column (l.side - 1 - a) v) (window v))
      → (j : ℕ) → l.side - 1 ≤ j → j < 256 → Represents modulus (row_sum l map kernel m row column c a j) (circular 256 weight window j)
  unfolding row_sum
  row_represents weight window short weights empty windows j low high =
      rw (folding 256 l.side short weight window empty j low high)
      (represents_sum l.side (λ b h. represents_mul (weights b h) (windows (j - b) (omega arith))))

  -- no map row is met
  pub row_left_out : spread (spacing l) (edge l) l.height (row + (l.side - 1 - a)) ≡ false
      → (j : ℕ) → row_sum l map kernel m row column c a j ≡ pos 0
  unfolding row_sum
  row_left_out none j = sum_zero integers l.side _ (λ b _. rw none (*ℤ-zero (weight_at l kernel (plane_of l m c) a b)))

-- all kernel rows
pub channel_rows : (l : Layer) (map kernel : List ℤ) (m row column c j : ℕ)
    → sum_z l.side (λ a. row_sum l map kernel m row column c a j) ≡ channel_sum l map kernel m row column c (l.side - 1) j
unfolding row_sum channel_sum
channel_rows l map kernel m row column c j = refl

-- ---- the sum over the map channels and kernel rows before

module _ (l : Layer) (map kernel : List ℤ) (s : StripOrigin) (j : ℕ) where
  pub none_summed : sum_up_to l map kernel s 0 0 j ≡ pos 0
  none_summed = ap₂ ◌+ℤ◌ (sum_z_none _) (sum_z_none _)

  pub row_summed : (c a : ℕ)
      → sum_up_to l map kernel s c (a + 1) j ≡ sum_up_to l map kernel s c a j +ℤ row_sum l map kernel s.channel s.row s.column c a j
  row_summed c a =
      let row : ℕ → ℤ = λ k. row_sum l map kernel s.channel s.row s.column c k j in
      let channels : ℤ = sum_z c (λ k. channel_sum l map kernel s.channel s.row s.column k (l.side - 1) j) in
      ap (λ (n : ℕ). channels +ℤ sum_z n row) (add-one a) ∙ ap (λ (z : ℤ). channels +ℤ z) (sum_z_last a row)
      ∙ sym (+ℤ_assoc channels (sum_z a row) (row a))

  pub channel_summed : (c : ℕ) → sum_up_to l map kernel s (c + 1) 0 j ≡ sum_up_to l map kernel s c l.side j
  channel_summed c =
      rw (
        add-one c,
        sum_z_last c (λ k. channel_sum l map kernel s.channel s.row s.column k (l.side - 1) j),
        sum_z_none,
        plus_none_right integers,
      )
      (ap (λ (z : ℤ). sum_z c (λ k. channel_sum l map kernel s.channel s.row s.column k (l.side - 1) j) +ℤ z)
      (sym (channel_rows l map kernel s.channel s.row s.column c j)))
