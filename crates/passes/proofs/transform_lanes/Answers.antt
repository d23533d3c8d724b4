-- A turn computes the numbers of its pass as Call says, and LanePasses takes the state over the pass, by the law that ties the butterflies to the direction.
use mathlib.Core.Path.{◌≡◌, refl, ap, ◌∙◌}
use Prim.Native.Nat.{ℕ, ◌+◌, ◌*◌, ◌/◌, ◌^◌, ◌<◌}
use native.Mathlib.Nat.{two-pow-succ, div-one}
use native.Mathlib.Numerals.{add-one}
use native.Mathlib.Omega.{arith}
use Rattle.passes.specs.Passes.{passes}
use Rattle.passes.proofs.Levels.{level_lt, quotient, unit_most, room_left}
use Rattle.passes.proofs.LanePasses.{after_none, after_all, Call, pass_asks, after_more}
use Rattle.passes.proofs.transform_lanes.Given.{Over}
use Rattle.passes.proofs.transform_lanes.Goals as goal
use Rattle.passes.proofs.transform_lanes.Goals.{After-level-level, After-unit_of}

-- the level of a turn
low : (g : Over) (c : After-level-level g) → c.level-level.result < passes c.args.n
low g c =
    let count = passes c.args.n in
    omega (arith, c.level-level.ensures, level_lt g.T.Transform.direction c.loop-p.p count c.loop-p-test.true)

pub loop-p-init : goal.loop-p-init
loop-p-init g c =
    let a = c.args in
    (refl, omega arith, rw (div-one a.n) (after_none g.T.Transform.direction c.requires.grid.whole c.requires.at_most c.requires.pruned))

pub unit_of-requires : goal.unit_of-requires
unit_of-requires g c =
    let below = low g (goal.at.unit_of-requires g c).After-level-level in
    (omega (arith, below, c.requires.grid.short), omega (arith, unit_most c.args.residues.bounded c.requires.grid c.level-level.result below))

-- what is computed for the call of `pass`
module _ (g : Over) (c : After-unit_of g) where
  call : let a = c.args in let now = c.loop-p.residues in
      Call g.T.Transform.direction a.residues.bits a.n a.filled a.unit a.residues.bound c.loop-p.p g.T.Butterfly.step c.level-level.result
      c.min-rows.result c.unit_of.result now.bits now.bound
  call = record {
    step_is = g.met.T.Transform.steps;
    level_is = c.level-level.ensures;
    rows_are = c.min-rows.ensures;
    unit_is = c.unit_of.ensures;
    bits_are = c.loop-p.invariant.0;
    bound_is = c.loop-p.invariant.1;
  }

pub pass-requires : goal.pass-requires
pass-requires g c =
    let turn = (goal.at.pass-requires g c).After-unit_of in
    let asks = pass_asks c.args.residues.bounded c.requires.grid c.requires.pruned c.loop-p-test.true (call g turn) refl c.loop-p.invariant.2 in
    record { whole_blocks = asks.0; at_most = asks.1 }

pub doubled-residues-requires : goal.doubled-residues-requires
doubled-residues-requires g c =
    omega (arith, c.loop-p.invariant.1, room_left c.args.residues.bounded c.requires.grid c.loop-p.p c.loop-p-test.true)

pub loop-p-preserved : goal.loop-p-preserved
loop-p-preserved g c =
    let loop = c.loop-p in
    let most : ℕ = c.args.residues.bound in
    let twice : 2 * (most * 2 ^ loop.p) ≡ most * 2 ^ (loop.p + 1) = rw (add-one loop.p, two-pow-succ loop.p) (omega arith) in (
      c.doubled-residues.ensures.0 ∙ loop.invariant.0,
      c.doubled-residues.ensures.1 ∙ ap (λ (e : ℕ). 2 * e) loop.invariant.1 ∙ twice,
      after_more c.args.residues.bounded c.requires.grid c.requires.pruned c.loop-p-test.true (call g (goal.at.loop-p-preserved g c).After-unit_of) refl
          loop.invariant.2 c.pass.auto.words c.pass.ensures,
    )

pub returns : goal.returns
returns g c =
    let loop = c.loop-p in
    let count = passes c.args.n in
    let end : loop.p ≡ count = omega (arith, c.loop-p-test.false) in
    let one : c.args.n / 2 ^ count ≡ 1 = quotient c.args.residues.bounded c.requires.grid count 0 (omega arith) in
    let all = rw (end, one) at loop.invariant.2 in
    record { transformed = after_all g.T.Transform.direction c.requires.grid.power all; at_most_2 = all.most }
