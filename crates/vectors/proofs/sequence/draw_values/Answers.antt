use mathlib.Core.Path.{◌≡◌, sym, ap, ap₂, ◌∙◌}
use Prim.Native.Nat.{ℕ, suc, ◌+◌, ◌*◌, ◌%◌, ◌<◌}
use native.Mathlib.Nat.{mod-lt}
use native.Mathlib.Omega.{arith}
use lib.IntN.{pos, ◌-ℤ◌}
use lib.ListN.{length}
use mir.Facts.{to_z-of_z, to_z_pos}
use mir.Syntax.{w16}
use mir.Val.{to_z, of_z}
use borrow.Author.Rules.{sfits_of}
use Rattle.algebra.specs.PlacesLaws.{table_of, written_nothing, written_longer}
use Rattle.algebra.specs.SignLaws.{difference_small}
use Rattle.vectors.specs.Sequence.{next_number, number_after, value_of}
use Rattle.vectors.specs.SequenceLaws.{number_none, number_next}
use Rattle.vectors.proofs.sequence.draw_values.Goals as goal
use Rattle.vectors.proofs.sequence.draw_values.Goals.{After-next-state}

pub loop-value-init : goal.loop-value-init
loop-value-init c = (sym (number_none c.args.seed), written_nothing (λ p h. omega arith))

module _ (c : After-next-state) where
  abbrev peak : ℕ
  peak = c.args.peak

  drawn_small : c.next-state.result % (2 * peak + 1) < 32768
  drawn_small =
      let l : 0 < 2 * peak + 1 = omega arith in omega (arith, mod-lt c.next-state.result l, c.requires)

  peak_small : peak < 32768
  peak_small = omega (arith, c.requires)

  -- the new number is the number after one step more
  number : c.next-state.result ≡ number_after (suc c.loop-value.value-index) c.args.seed
  number =
      c.next-state.ensures.0 ∙ ap next_number c.loop-value.invariant.0 ∙ sym (number_next c.loop-value.value-index c.args.seed)

pub overflow_cast-drawn : goal.overflow_cast-drawn
overflow_cast-drawn c = record { sfits = drawn_small c }

pub overflow_cast-value : goal.overflow_cast-value
overflow_cast-value c = record { sfits = peak_small c }

pub overflow_sub-value : goal.overflow_sub-value
overflow_sub-value c =
    let drawn : ℕ = c.next-state.result % (2 * peak c + 1) in
    rw (to_z_pos w16 (drawn_small c), to_z_pos w16 (peak_small c)) (record {
      sfits = omega (arith, difference_small drawn (peak c) 32767 (omega (arith, drawn_small c)) (omega (arith, peak_small c)));
    })

-- the value of the new number is what is written
written : (c : After-next-state) →
    let drawn : ℕ = c.next-state.result % (2 * peak c + 1) in
    to_z w16 (of_z w16 (to_z w16 drawn -ℤ to_z w16 (peak c))) ≡ value_of (peak c) (number_after (suc c.loop-value.value-index) c.args.seed)
written c =
    to_z-of_z (sfits_of {w = w16} (overflow_sub-value c).sfits)
    ∙ ap₂ ◌-ℤ◌ (to_z_pos w16 (drawn_small c)) (to_z_pos w16 (peak_small c))
    ∙ ap (value_of (peak c)) (number c)

pub loop-value-preserved : goal.loop-value-preserved
loop-value-preserved c =
    let loop = c.loop-value in
    let i = loop.value-index in
    let here : 0 + i ≡ i = omega arith in
    let next : i + 1 ≡ suc i = omega arith in
    let value = to_z w16 (of_z w16 (to_z w16 (c.next-state.result % (2 * peak c + 1)) -ℤ to_z w16 (peak c))) in
    let moved = ap (λ (k : ℕ). value_of (peak c) (number_after (suc k) c.args.seed)) (sym here) in
    let longer = written_longer 0 i value (omega arith) loop.invariant.1 (written c ∙ moved) in
    (rw next (number c), rw here at longer)

pub returns : goal.returns
returns c =
    let loop = c.loop-value in
    let w = loop.invariant.1 in
    let lent = c.args.values.now in
    let last : loop.value-index ≡ length lent = omega arith in
    record { value = rw last at loop.invariant.0; values_after = table_of (pos 0) (length lent) _ loop.values w.same_length (λ p l. w.here p l (omega arith, omega arith)) }
