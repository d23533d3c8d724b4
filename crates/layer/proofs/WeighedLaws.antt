-- Both direct sums as one form: the sum over the K by K weights of the C planes that reach an output channel, each weight times the value
-- that it meets. In CONV that value is one of the map; in TCONV it is one of the map with S − 1 zeros between its values.
use Rattle.std.specs.Prelude.{◌≡◌, refl, Bool, true, false, List, ℕ, ◌+◌, ◌*◌, ◌<◌, ℤ}
use Rattle.algebra.specs.Planes.{cell}
use Rattle.algebra.specs.SumLaws.{integers, sum_cong}
use Rattle.layer.specs.Windows.{weighed, spaced, met_by}
use Rattle.layer.specs.declared.shape.Layer.{Layer}
use Rattle.layer.specs.Shape.{is_conv}
use Rattle.layer.specs.Direct.{shifted, conv, tconv, full_at, plane_of}
use Rattle.layer.specs.WindowLaws.{exchange_product, spaced_window}

pub conv-weighed : (C H W K S P : ℕ) (map kernel : List ℤ) (m e f : ℕ)
    → conv C H W K S P map kernel m e f ≡ weighed C K kernel (λ c. m * C + c) (λ c a b. shifted H W map c P (e * S + a) P (f * S + b))
unfolding conv weighed
conv-weighed C H W K S P map kernel m e f = refl

pub tconv-weighed : (C M H W K S P : ℕ) → 0 < S → (map kernel : List ℤ) (m i j : ℕ)
    → tconv C M H W K S P map kernel m i j ≡ weighed C K kernel (λ c. c * M + m) (λ c a b. spaced H W S map c a (i + P) b (j + P))
unfolding tconv weighed
tconv-weighed C M H W K S P s map kernel m i j = sum_cong integers C _ _ (λ c l.
    exchange_product (spaced_window K H S (i + P) s) (spaced_window K W S (j + P) s) (cell H W map c) (cell K K kernel (c * M + m)))

pub full_weighed : (l : Layer) (map kernel : List ℤ) → 0 < l.stride → (m i j : ℕ)
    → full_at l map kernel m i j ≡ weighed l.inputs l.side kernel (plane_of l m) (met_by l map i j)
unfolding full_at met_by weighed
full_weighed l map kernel s m i j = go (is_conv l) refl
  where
    go : (test : Bool) → is_conv l ≡ test → full_at l map kernel m i j ≡ weighed l.inputs l.side kernel (plane_of l m) (met_by l map i j)
    go true e = rw e (conv-weighed l.inputs l.height l.width l.side l.stride l.padding map kernel m i j)
    go false e = rw e (tconv-weighed l.inputs l.outputs l.height l.width l.side l.stride l.padding s map kernel m i j)
