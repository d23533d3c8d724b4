use mathlib.Core.Path.{◌≡◌, sym, ap, ◌∙◌}
use Prim.Native.Nat.{ℕ, ◌+◌, ◌*◌, ◌/◌, ◌%◌, ◌<◌, ◌≤◌}
use native.Mathlib.Nat.{div-lt_iff_lt-mul, div-add-mod', mod-lt}
use native.Mathlib.Omega.{arith}
use borrow.Author.Rules.{sfits_of}
use mir.Facts.{to_z-of_z}
use mir.Syntax.{w16}
use mir.Val.{to_z, of_z}
use Rattle.std.proofs.lemmas.Grind.{common_steps}
use Rattle.layer.specs.declared.shape.Layer.{Layer}
use Rattle.worst.specs.Worst.{value_for, value_at}
use Rattle.worst.specs.WorstLaws.{value_at_lem}
use Rattle.worst.proofs.values.write_row.Goals as goal
use Rattle.worst.proofs.values.write_row.Goals.{Start}

module _ (s : Start) where
  abbrev l : Layer
  l = s.args.layer

  some : 1 ≤ l.height
  some = s.requires.0.accepted.plan.shape.height_low

  -- the row's channel and its row there
  channel_in : s.args.line / l.height < l.inputs
  channel_in = (div-lt_iff_lt-mul some).1 s.requires.1

  row_in : s.args.line % l.height < l.height
  row_in = mod-lt s.args.line some

pub nonzero_div-c : goal.nonzero_div-c
nonzero_div-c c = omega (arith, some (goal.at.nonzero_div-c c).Start)

pub nonzero_rem-i : goal.nonzero_rem-i
nonzero_rem-i c = omega (arith, some (goal.at.nonzero_rem-i c).Start)

pub weight_met-requires : goal.weight_met-requires
weight_met-requires c =
    let s = (goal.at.weight_met-requires c).Start in
    (c.requires.0, channel_in s, row_in s, omega arith)

pub value_for-requires : goal.value_for-requires
value_for-requires c = c.requires.0.accepted.weights.peak_most

pub loop-j-preserved : goal.loop-j-preserved
loop-j-preserved c =
    let s = (goal.at.loop-j-preserved c).Start in
    let a = c.args in
    let weight = c.weight_met.result in
    let value = c.value_for.result in
    let word : to_z w16 (of_z w16 weight) ≡ weight = to_z-of_z {w = w16} (search sfits_of) in
    let made : to_z w16 (of_z w16 value) ≡ value = to_z-of_z {w = w16} (search sfits_of) in
    let is : to_z w16 (of_z w16 value) ≡ value_at (l s) a.kernel.now a.output (a.line * (l s).width + c.loop-j.j) =
    made ∙ c.value_for.ensures ∙ ap (value_for (l s).peak) (word ∙ c.weight_met.ensures)
    ∙ sym (value_at_lem (l s) a.kernel.now a.output (a.line / (l s).height) (a.line % (l s).height) c.loop-j.j (row_in s) (omega arith))
    ∙ ap (λ (n : ℕ). value_at (l s) a.kernel.now a.output (n * (l s).width + c.loop-j.j)) (div-add-mod' a.line (l s).height) in
    λ k h. grind (arith, common_steps, is, c.loop-j.invariant k)
