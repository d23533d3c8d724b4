-- A tile in every field up to F_5 meets what the transforms ask.
use Rattle.std.proofs.Common.{◌≡◌, refl, ℕ, ◌+◌, ◌*◌, ◌^◌, ◌≤◌, mul-le-mul, add-one, pow_mono, arith}
use Rattle.std.proofs.Math.Nat.{two-pow-succ}
use Rattle.fermat.specs.Field.{transform_length}
use Rattle.fermat.specs.FieldSizeLaws.{power_high}
use Rattle.passes.specs.Passes.{passes}
use Rattle.passes.specs.GridLaws.{row-passes}
use Rattle.spectrum.specs.Tile.{Square}
use Rattle.spectrum.specs.Product.{settled_most}

module _ (t : ℕ) (high : t ≤ 5) where
  pub tile_passes : passes (transform_length t) ≡ t + 1
  tile_passes = row-passes t high refl

  pub tile_square : {s c : ℕ} → s ≡ transform_length t * transform_length t → c ≤ settled_most t
      → Square s (transform_length t) (passes (transform_length t)) (2 ^ t) c
  tile_square {c = c} e most =
      let side : transform_length t ≤ 64 = pow_mono {i = t + 1} {j = 6} (omega arith) in
      let once : c * transform_length t ≤ settled_most t * 64 = mul-le-mul most side in
      let twice : c * transform_length t * transform_length t ≤ settled_most t * 64 * 64 = mul-le-mul once side in
      rw tile_passes (record {
        whole = e;
        side = refl;
        halvings = omega arith;
        period = rw add-one (omega (arith, two-pow-succ t));
        room = omega (arith, power_high t high);
      })
