-- Two laws of whole sequences: one that is cut in two is the second part over the map that the first leaves, with the kernels that are left; so more than
-- eight layers are several sequences. And rows from the count on change nothing. It rests on the laws of weights and of answers.
use Rattle.std.specs.Prelude.{◌≡◌, List, ℕ, zero, suc, ◌+◌, ◌*◌, ◌<◌, ℤ, get_or, take, drop}
use Rattle.std.proofs.Common.{sym, ap, ◌∙◌, arith, drop-drop}
use Rattle.layer.specs.Shape.{kernel_count}
use Rattle.steps.specs.declared.step.Step.{Step}
use Rattle.steps.specs.declared.answer.Room.{Room}
use Rattle.steps.specs.Steps.{step_at, weights_before, kernel_at}
use Rattle.steps.specs.StepsLaws.{weights_after, weights_same, step_same}
use Rattle.steps.specs.Lent.{sequence_answer}
use Rattle.steps.specs.UnreadLaws.{answer_same}
use Rattle.sequence.specs.Sequence.{map_after}
use Rattle.sequence.specs.SequenceLaws.{map_none, map_next}

-- ---- cut in two after m steps

module _ (steps : ℕ → Step) (map kernels : List ℤ) (m : ℕ) where
  -- the steps after the first m, and their kernels
  abbrev pub steps_left : ℕ → Step
  steps_left i = steps (m + i)

  abbrev pub kernels_left : List ℤ
  kernels_left = drop (weights_before steps m) kernels

  kernel_left : (n : ℕ) → kernel_at steps kernels (m + n) ≡ kernel_at steps_left kernels_left n
  kernel_left n =
      ap (take (kernel_count (steps (m + n)).layer))
      (ap (λ (before : ℕ). drop before kernels) (weights_after steps m n) ∙ sym (drop-drop (weights_before steps_left n) (weights_before steps m) kernels))

  pub map_cut : (n : ℕ) → map_after steps map kernels (m + n) ≡ map_after steps_left (map_after steps map kernels m) kernels_left n
  map_cut zero =
      let none : m + 0 ≡ m = omega arith in
      rw none (sym (map_none steps_left (map_after steps map kernels m) kernels_left))
  map_cut (suc n) =
      let further : m + suc n ≡ m + n + 1 = omega arith in
      let one_more : suc n ≡ n + 1 = omega arith in
      rw (further, one_more, map_next steps map kernels (m + n), map_next steps_left (map_after steps map kernels m) kernels_left n, map_cut n, kernel_left n)

-- ---- rows from the count on

map_same : (steps other : ℕ → Step) (map kernels : List ℤ) (k : ℕ) → ((i : ℕ) → i < k → steps i ≡ other i)
    → map_after steps map kernels k ≡ map_after other map kernels k
map_same steps other map kernels zero same = map_none steps map kernels ∙ sym (map_none other map kernels)
map_same steps other map kernels (suc k) same =
    let one_more : suc k ≡ k + 1 = omega arith in
    rw (
      one_more,
      map_next steps map kernels k,
      map_next other map kernels k,
      map_same steps other map kernels k (λ i l. same i (omega arith)),
      weights_same steps other k (λ i l. same i (omega arith)),
      same k (omega arith),
    )

-- numbers that agree in the first `count` rows have the same answer and the same map
pub rows_unread : (count : ℕ) (numbers other : List ℕ) (map kernels : List ℤ) (room : Room)
    → ((p : ℕ) → p < 18 * count → get_or numbers p 0 ≡ get_or other p 0)
    → (sequence_answer count (step_at numbers) map kernels room ≡ sequence_answer count (step_at other) map kernels room)
    × (map_after (step_at numbers) map kernels count ≡ map_after (step_at other) map kernels count)
rows_unread count numbers other map kernels room same =
    (answer_same count (step_at numbers) (step_at other) steps map kernels room, map_same (step_at numbers) (step_at other) map kernels count steps)
  where
    steps : (k : ℕ) → k < count → step_at numbers k ≡ step_at other k
    steps k below = step_same numbers other k (λ i l. same (18 * k + i) (omega arith))
