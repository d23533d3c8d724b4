-- The full output of a layer by its kind.
use Rattle.std.specs.Prelude.{◌≡◌, List, ℕ, ℤ}
use Rattle.std.proofs.Common.{arith}
use borrow.Author.Tests.{eq-eqb, ne_eqb}
use Rattle.layer.specs.declared.shape.Layer.{Layer}
use Rattle.layer.specs.Direct.{conv, tconv, full_at}

module _ (l : Layer) (map kernel : List ℤ) (m i j : ℕ) where
  pub full_conv : l.kind ≡ 0
      → full_at l map kernel m i j ≡ conv l.inputs l.height l.width l.side l.stride l.padding map kernel m i j
  unfolding full_at
  full_conv e = rw eq-eqb

  pub full_tconv : l.kind ≡ 1
      → full_at l map kernel m i j ≡ tconv l.inputs l.outputs l.height l.width l.side l.stride l.padding map kernel m i j
  unfolding full_at
  full_tconv e = rw (ne_eqb l.kind 0 (λ z. omega arith))
