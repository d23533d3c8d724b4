-- What the answers say: each layer that keeps its seven rules, the two layers that keep all, and the theorem of an accepted call.
use Rattle.std.specs.Prelude.{◌≡◌, true, List, ◌++◌, ℕ, ◌<◌, ℤ, length}
use Rattle.std.proofs.Common.{eqb-true}
use Rattle.algebra.specs.EveryLaws.{every_at}
use Rattle.base.specs.Rules.{first_broken}
use Rattle.base.specs.RulesLaws.{none_broken, inside_low, inside_high, outcome_made, both_accept}
use Rattle.layer.specs.declared.shape.Layer.{Layer}
use Rattle.layer.specs.Shape.{kernel_count}
use Rattle.joined.specs.Joinable.{Pair, Follows, Kept, Joinable}
use Rattle.joined.specs.Joined.{joined_layer, joined_at, joined_kernel, full_output}
use Rattle.join.specs.Answer.{filter_rules, pair_rules, fits, weights_fit, weight_rules, shape_rules, join_code, join_left}
use Rattle.joined.proofs.JoinLaw.{join_law}

-- ---- one layer

pub filter_kept : (l : Layer) (weights : ℕ) → first_broken (filter_rules l weights) ≡ 0 → Kept l weights
filter_kept l weights e =
    let (kind, (stride, (padding, (inputs, (outputs, (side, (count, _))))))) = none_broken (filter_rules l weights) tt e in
    record {
      filter = record {
        conv_kind = eqb-true _ _ kind;
        stride_one = eqb-true _ _ stride;
        unpadded = eqb-true _ _ padding;
        side_low = inside_low 1 11 l.side side;
      };
      inputs_low = inside_low 1 64 l.inputs inputs;
      inputs_high = inside_high 1 64 l.inputs inputs;
      outputs_low = inside_low 1 64 l.outputs outputs;
      outputs_high = inside_high 1 64 l.outputs outputs;
      side_high = inside_high 1 11 l.side side;
      weights_are = eqb-true _ _ count;
    }

-- ---- two layers

pub joinable : (first : Layer) (firstWeights : ℕ) (second : Layer) (secondWeights room : ℕ)
    → first_broken (shape_rules first firstWeights second secondWeights room) ≡ 0
    → Joinable first firstWeights second secondWeights × (room ≡ kernel_count (joined_layer first second))
joinable first firstWeights second secondWeights room e =
    let (both, pair) = both_accept (filter_rules first firstWeights ++ filter_rules second secondWeights) (pair_rules first second room) tt e in
    let (first-rules, second-rules) = both_accept (filter_rules first firstWeights) (filter_rules second secondWeights) tt both in
    let (channels, (count, _)) = none_broken (pair_rules first second room) tt pair in (
      record {
        first_kept = filter_kept first firstWeights first-rules;
        second_kept = filter_kept second secondWeights second-rules;
        channels = eqb-true _ _ channels;
      },
      eqb-true _ _ count,
    )

-- ---- all weights

-- rule 28, of one weight
pub weight_fit : (first : Layer) (firstKernel : List ℤ) (second : Layer) (secondKernel : List ℤ)
    → weights_fit first firstKernel second secondKernel ≡ true → {p : ℕ} → p < kernel_count (joined_layer first second)
    → fits (joined_at first firstKernel second secondKernel p) ≡ true
unfolding weights_fit
weight_fit first firstKernel second secondKernel e {p} l =
    every_at (kernel_count (joined_layer first second)) (λ q. fits (joined_at first firstKernel second secondKernel q)) e p l

-- ---- an accepted call

module _ (first : Layer) (firstKernel : List ℤ) (second : Layer) (secondKernel : List ℤ) (room : ℕ) where
  pub accepted : join_code first firstKernel second secondKernel room ≡ 0
      → (first_broken (shape_rules first (length firstKernel) second (length secondKernel) room) ≡ 0)
      × (weights_fit first firstKernel second secondKernel ≡ true)
  unfolding join_code
  accepted e =
      let shape = shape_rules first (length firstKernel) second (length secondKernel) room in
      let weights = weight_rules first firstKernel second secondKernel in
      let (kept, fit) = both_accept shape weights tt e in
      (kept, (none_broken weights tt fit).0)

-- The theorem of a call: with what an accepted call leaves in `joined` as its kernel, the joined layer has the outputs of the second layer
-- over those of the first, for every map.
pub join_accepted : (first : Layer) (firstKernel : List ℤ) (second : Layer) (secondKernel joined : List ℤ)
    → join_code first firstKernel second secondKernel (length joined) ≡ 0 → Follows first second → (map : List ℤ)
    → full_output (joined_layer first second) map (join_left first firstKernel second secondKernel joined)
    ≡ full_output second (full_output first map firstKernel) secondKernel
join_accepted first firstKernel second secondKernel joined e follows map =
    let kept = (accepted first firstKernel second secondKernel (length joined) e).0 in
    let (both, _) = joinable first (length firstKernel) second (length secondKernel) (length joined) kept in
    let pair : Pair first second = record { first_filter = both.first_kept.filter; second_filter = both.second_kept.filter; channels = both.channels } in
    let written : join_left first firstKernel second secondKernel joined ≡ joined_kernel first firstKernel second secondKernel = outcome_made _ _ e in
    rw written (join_law pair follows map firstKernel secondKernel)
