-- Buffers that are set to 0 place by place. It rests on the laws of places.
use mathlib.Core.Path.{◌≡◌, refl, sym, ◌∙◌}
use mathlib.Core.List.{List}
use Prim.Native.Nat.{ℕ, ◌+◌, ◌≤◌, ◌<◌}
use native.Mathlib.Omega.{arith}
use lib.ListN.{length, set, replicate, length-replicate, get_or-replicate}
use lib.Seq.{ext_get_or}
use Rattle.algebra.specs.Places.{Written, Run}
use Rattle.algebra.specs.PlacesLaws.{written_longer}
use Rattle.sequence.specs.Sequenced.{zeros}

module _ {A : Type 0} {zero : A} {xs ys : List A} where
  -- one place more
  pub zero_next : (i : ℕ) → i < length xs → Written zero (Run 0 i) (λ _. zero) xs ys → Written zero (Run 0 (i + 1)) (λ _. zero) xs (set ys i zero)
  zero_next i l w =
      let here : 0 + i ≡ i = omega arith in
      let longer = written_longer 0 i zero (omega arith) w refl in
      rw here at longer

  -- all places
  pub zero_all : (n : ℕ) → length xs ≤ n → Written zero (Run 0 n) (λ _. zero) xs ys → ys ≡ zeros zero xs
  zero_all n all w =
      ext_get_or zero ys (replicate (length xs) zero) (w.same_length ∙ sym (length-replicate (length xs) zero))
      (λ i l. w.here i (omega (arith, w.same_length)) (omega arith, omega (arith, w.same_length))
      ∙ sym (get_or-replicate (length xs) i zero zero (omega (arith, w.same_length))))
