-- 02, E11, of sequences: with 15 and 25 a sequence tells the first value of its first map that is beyond the first layer's peak, and the number is by its
-- side. It rests on the laws of these answers among any rules.
use Rattle.std.specs.Prelude.{◌≡◌, Bool, true, not, ℕ, T, ltb, ℤ, length}
use Rattle.std.proofs.Common.{sym, eqb-true}
use Rattle.std.proofs.Math.Path.{ap}
use mathlib.Core.List.{List, [], ◌++◌, append_assoc}
use Rattle.base.specs.Rules.{Rule, first_broken}
use Rattle.base.specs.RulesLaws.{numbered, numbers_both, none_broken, both_accept, numbered_every}
use Rattle.layer.specs.Planned.{Planned}
use Rattle.layer.specs.Shape.{map_count}
use Rattle.load.specs.Offender.{offender_of, Offends}
use Rattle.load.specs.OffenderLaws.{offends}
use Rattle.checks.specs.Checks.{map_value_rules, is_placed, offender_with}
use Rattle.checks.specs.OffenderLaws.{placeless, placeless_every}
use Rattle.checks.specs.BeyondLaws.{side_number, beyond_number, placed_passes, placed_beyond}
use Rattle.steps.specs.declared.step.Step.{Step}
use Rattle.steps.specs.declared.answer.Room.{Room}
use Rattle.steps.specs.Answer.{steps_rules, steps_code}
use Rattle.steps.specs.AnswerLaws.{steps_pass, steps_numbered}
use Rattle.steps.specs.LinkedLaws.{linked, layer_planned}
use Rattle.steps.specs.Lent.{room_rules, sequence_code, sequence_answer}

module _ (count : ℕ) (steps : ℕ → Step) (map kernels : List ℤ) (room : Room) where
  abbrev code : ℕ
  code = sequence_code count steps map kernels room

  abbrev rooms : List Rule
  rooms = room_rules count steps (length map) room

  -- the rules before 15
  abbrev earlier : List Rule
  earlier = steps_rules count steps kernels ++ rooms

  numbers : T (numbered earlier)
  numbers = numbered_every earlier (numbers_both (ltb 0) (steps_rules count steps kernels) rooms (steps_pass count steps kernels (ltb 0) (λ k. tt) tt tt) tt)

  other : T (placeless earlier)
  other =
      let test : ℕ → Bool = λ n. not (is_placed n) in
      placeless_every earlier (numbers_both test (steps_rules count steps kernels) rooms (steps_pass count steps kernels test (λ k. tt) tt tt) tt)

  is_code : code ≡ first_broken (earlier ++ (map_value_rules (steps 0).layer map ++ []))
  unfolding sequence_code
  is_code = ap first_broken (sym (append_assoc (steps_rules count steps kernels) rooms (map_value_rules (steps 0).layer map)))

  module _ (placed : is_placed code ≡ true) where
    passed : first_broken earlier ≡ 0
    passed = placed_passes (steps 0).layer map earlier [] numbers other tt is_code placed

    first_planned : Planned (steps 0).layer
    unfolding steps_code
    first_planned =
        let link = linked count steps kernels (both_accept (steps_rules count steps kernels) rooms (steps_numbered count steps kernels) passed).0 in
        layer_planned (link.layers 0 link.count_low)

    map-length : length map ≡ map_count (steps 0).layer
    map-length =
        let rest = (both_accept (steps_rules count steps kernels) rooms (steps_numbered count steps kernels) passed).1 in
        eqb-true _ _ (none_broken rooms tt rest).0

    -- the place is one of the first map's, the value there is beyond the peak on that side, and no value stored before it is
    pub sequence_offends : Offends (steps 0).layer map (sequence_answer count steps map kernels room).offender
    unfolding offender_with
    sequence_offends =
        rw placed
        (offends (steps 0).layer map map-length first_planned.shape.height_low first_planned.shape.width_low
        (placed_beyond (steps 0).layer map earlier [] numbers other tt is_code placed))

    -- 15 above the peak, 25 below its negative
    pub sequence_number : code ≡ side_number (offender_of (steps 0).layer map).side
    sequence_number =
        beyond_number (steps 0).layer map earlier [] numbers other tt is_code passed
        (placed_beyond (steps 0).layer map earlier [] numbers other tt is_code placed)
