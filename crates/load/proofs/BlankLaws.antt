-- Laws of blank channels: a channel is blank exactly where the sum of all sizes is 0; its weights are 0, and with them its outputs, whatever the
-- map; one weight that is not 0 makes a channel that is not blank. They rest on the laws of `every` and of sums, and on the one form of both kinds.
use Rattle.std.specs.Prelude.{◌≡◌, refl, Bool, true, false, not, List, ℕ, ◌<◌, eqb, ℤ, pos, negsuc, nat_abs, ◌*ℤ◌}
use Rattle.std.proofs.Common.{ap, ◌∙◌, arith, eqb-true}
use Rattle.std.proofs.lemmas.Bool.{not-true}
use Rattle.std.proofs.Math.IntN.{zero-*ℤ}
use Rattle.algebra.specs.Planes.{cell}
use Rattle.algebra.specs.Sum.{sum}
use Rattle.algebra.specs.SumLaws.{integers, sum_zero}
use Rattle.algebra.specs.EveryLaws.{every_at, every_cong, every_zero}
use Rattle.layer.specs.declared.shape.Layer.{Layer}
use Rattle.layer.specs.Direct.{full_at, plane_of}
use Rattle.layer.specs.Windows.{weighed, met_by}
use Rattle.layer.proofs.WeighedLaws.{full_weighed}
use Rattle.load.specs.Load.{size_at, size_total}
use Rattle.load.specs.Blank.{blank, none_blank}

-- a weight of size 0 is 0
size_zero : (z : ℤ) → nat_abs z ≡ 0 → z ≡ pos 0
size_zero (pos n) e = ap pos e
size_zero (negsuc n) e = absurd (omega arith)

-- 0 times anything
zero_times : {weight : ℤ} (value : ℤ) → weight ≡ pos 0 → weight *ℤ value ≡ pos 0
zero_times value e = rw e (zero-*ℤ value)

module _ (l : Layer) (kernel : List ℤ) (m : ℕ) where
  -- the sum of all sizes tells
  pub blank_total : blank l kernel m ≡ eqb (size_total l kernel m) 0
  unfolding blank size_total
  blank_total =
      every_cong l.inputs _ _ (λ c _.
      every_cong l.side _ _ (λ a _. every_zero l.side (λ b. size_at l kernel m c a b))
      ∙ every_zero l.side (λ a. sum l.side (λ b. size_at l kernel m c a b)))
      ∙ every_zero l.inputs (λ c. sum l.side (λ a. sum l.side (λ b. size_at l kernel m c a b)))

  -- every weight of a blank channel is 0
  pub blank_weight : blank l kernel m ≡ true → (c a b : ℕ) → c < l.inputs → a < l.side → b < l.side
      → cell l.side l.side kernel (plane_of l m c) a b ≡ pos 0
  unfolding blank
  blank_weight e c a b hc ha hb =
      size_zero _ (eqb-true _ _ (every_at l.side _ (every_at l.side _ (every_at l.inputs _ e c hc) a ha) b hb))

  -- a channel that a weight other than 0 reaches is not blank
  pub weight_not_blank : (c a b : ℕ) → c < l.inputs → a < l.side → b < l.side
      → (cell l.side l.side kernel (plane_of l m c) a b ≡ pos 0 → ⊥) → blank l kernel m ≡ false
  weight_not_blank c a b hc ha hb some = go (blank l kernel m) refl
    where
      go : (test : Bool) → blank l kernel m ≡ test → blank l kernel m ≡ false
      go true e = absurd (some (blank_weight e c a b hc ha hb))
      go false e = e

  -- every output of a blank channel is 0, whatever the map
  pub blank_output : 0 < l.stride → blank l kernel m ≡ true → (map : List ℤ) (i j : ℕ) → full_at l map kernel m i j ≡ pos 0
  unfolding weighed
  blank_output strided e map i j =
      full_weighed l map kernel strided m i j
      ∙ sum_zero integers l.inputs _ (λ c hc. sum_zero integers l.side _ (λ a ha. sum_zero integers l.side _ (λ b hb.
      zero_times (met_by l map i j c a b) (blank_weight e c a b hc ha hb))))

-- rule 24, of one output channel
pub channel_not_blank : (l : Layer) (kernel : List ℤ) → none_blank l kernel ≡ true → (m : ℕ) → m < l.outputs → blank l kernel m ≡ false
unfolding none_blank
channel_not_blank l kernel e m h = not-true _ (every_at l.outputs (λ m. not (blank l kernel m)) e m h)
