use mathlib.Core.Path.{◌≡◌, sym, ap₂, ◌∙◌}
use mathlib.Core.List.{List}
use Prim.Native.Nat.{ℕ, ◌*◌}
use native.Mathlib.Nat.{mod-lt, div-lt_iff_lt-mul}
use native.Mathlib.Omega.{arith}
use lib.Arith.{digits_div, digits_mod}
use lib.IntN.{ℤ}
use Rattle.algebra.specs.Greatest.{greatest}
use Rattle.algebra.specs.GreatestLaws.{maxima, greatest_none, greatest_next}
use Rattle.algebra.specs.SumLaws.{sum_cong, sum_flat}
use Rattle.layer.specs.declared.shape.Layer.{Layer}
use Rattle.load.specs.Load.{group_total, greatest_group}
use Rattle.load.proofs.groups.greatest_group.Invariants.{total_at}
use Rattle.load.proofs.groups.greatest_group.Goals as goal

greatest_in_row : (l : Layer) (kernel : List ℤ) (m : ℕ) → greatest (l.stride * l.stride) (total_at l kernel m) ≡ greatest_group l kernel m
unfolding greatest_group
greatest_in_row l kernel m =
    sym (sum_flat maxima l.stride l.stride (total_at l kernel m))
    ∙ sum_cong maxima l.stride _ _ (λ p _. sum_cong maxima l.stride _ _ (λ q h.
    ap₂ (group_total l kernel m l.stride) (digits_div p h) (digits_mod p h)))

pub loop-i-init : goal.loop-i-init
loop-i-init c = (sym (greatest_none _), omega arith)

pub group_total-requires : goal.group_total-requires
group_total-requires c = (
  c.requires.0,
  c.requires.1,
  record {
    step_most = c.requires.0.stride_most;
    row_below = (div-lt_iff_lt-mul c.requires.0.stride_least).1 (omega arith);
    column_below = mod-lt c.loop-i.i c.requires.0.stride_least;
  },
)

pub loop-i-preserved : goal.loop-i-preserved
loop-i-preserved c =
    let a = c.args in
    let next = greatest_next c.loop-i.i (total_at a.layer a.kernel.now a.m) in
    (omega arith, omega arith)

pub returns : goal.returns
returns c =
    let done : c.loop-i.i ≡ c.args.layer.stride * c.args.layer.stride = omega arith in
    (rw (c.loop-i.invariant.0, done) (greatest_in_row c.args.layer c.args.kernel.now c.args.m), c.loop-i.invariant.1)
