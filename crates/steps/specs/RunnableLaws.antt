-- What the answer 0 to all rules of a sequence says. It rests on the laws of lists of rules.
use Rattle.std.specs.Prelude.{◌≡◌, ◌&&◌, List, ◌++◌, ℕ, ◌-◌, eqb, leb, ℤ, length}
use Rattle.std.proofs.Common.{eqb-true, leb-true}
use Rattle.algebra.specs.EveryLaws.{both_true}
use Rattle.base.specs.Rules.{first_broken}
use Rattle.base.specs.RulesLaws.{none_broken, both_accept}
use Rattle.layer.specs.Shape.{map_count, output_count}
use Rattle.checks.specs.Checks.{map_value_rules}
use Rattle.checks.specs.OffenderLaws.{both_within_lem}
use Rattle.steps.specs.declared.step.Step.{Step}
use Rattle.steps.specs.Answer.{steps_rules, steps_code}
use Rattle.steps.specs.AnswerLaws.{steps_numbered}
use Rattle.steps.specs.LinkedLaws.{linked}
use Rattle.steps.specs.declared.answer.Room.{Room}
use Rattle.steps.specs.Lent.{most_outputs, room_rules, sequence_code}
use Rattle.steps.specs.Runnable.{Roomy, Runnable}

-- 10, 12 and 13
roomy : (count : ℕ) (steps : ℕ → Step) (map : ℕ) (room : Room) → first_broken (room_rules count steps map room) ≡ 0
    → (map ≡ map_count (steps 0).layer) × Roomy count steps room.first room.output room.scratch room.last
roomy count steps map room e =
    let (map-fits, (buffers-fit, (scratch-fits, _))) = none_broken (room_rules count steps map room) tt e in
    let most = most_outputs count steps in
    let final = eqb room.last (output_count (steps (count - 1)).layer) in
    let (three, output) = both_true (final && leb most room.first && leb most room.second) (leb most room.output) buffers-fit in
    let (two, _) = both_true (final && leb most room.first) (leb most room.second) three in
    let (last, first) = both_true final (leb most room.first) two in (
      eqb-true _ _ map-fits,
      record {
        work_room = leb-true _ _ first;
        output_room = leb-true _ _ output;
        scratch_room = leb-true _ _ scratch-fits;
        final_length = eqb-true _ _ last;
      },
    )

pub runnable : (count : ℕ) (steps : ℕ → Step) (map kernels : List ℤ) (room : Room) → sequence_code count steps map kernels room ≡ 0
    → Runnable count steps map kernels room
unfolding steps_code sequence_code
runnable count steps map kernels room e =
    let rooms = room_rules count steps (length map) room in
    let values = map_value_rules (steps 0).layer map in
    let (first, rest) = both_accept (steps_rules count steps kernels) (rooms ++ values) (steps_numbered count steps kernels) e in
    let (second, third) = both_accept rooms values tt rest in
    let (above, (below, _)) = none_broken values tt third in
    let (map-length, lengths) = roomy count steps (length map) room second in
    record {
      link = linked count steps kernels first;
      first_map = record { map-length = map-length; values = both_within_lem (steps 0).layer map above below };
      roomy = lengths;
    }
