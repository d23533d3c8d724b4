-- The theorem of two filters joined: the outputs of the joined layer are those of the second layer over the outputs of the first, for every
-- map, with no crop. It rests on the law of one output in `JoinedLaws`.
use Rattle.std.specs.Prelude.{◌≡◌, List, ℕ, ◌+◌, ◌-◌, ◌<◌, ◌≤◌, ℤ}
use Rattle.std.proofs.Math.Path.{sym}
use Rattle.std.proofs.Common.{◌∙◌, eq-eqb}
use native.Mathlib.Omega.{arith}
use Rattle.algebra.specs.Planes.{stacked}
use Rattle.algebra.specs.PlacesLaws.{table_same}
use Rattle.algebra.specs.PlanesLaws.{stacked_same}
use Rattle.layer.specs.declared.shape.Layer.{Layer}
use Rattle.layer.specs.Shape.{conv_size, full_size, full_height, full_width}
use Rattle.layer.specs.Direct.{conv, full_at}
use Rattle.layer.specs.FullLaws.{full_conv}
use Rattle.joined.specs.Joinable.{Filter, Pair, Along, Follows}
use Rattle.joined.specs.Joined.{joined_layer, joined_at, joined_kernel, full_output}
use Rattle.joined.proofs.JoinedLaws.{conv_joined}

-- ---- one filter

module _ (l : Layer) (filter : Filter l) where
  filter_conv : (map kernel : List ℤ) (m i j : ℕ)
      → full_at l map kernel m i j ≡ conv l.inputs l.height l.width l.side 1 0 map kernel m i j
  filter_conv map kernel m i j = full_conv l map kernel m i j filter.conv_kind ∙ rw (filter.stride_one, filter.unpadded)

  filter_size : (size added : ℕ) → full_size l size added ≡ conv_size size l.side 1 0
  filter_size size added = rw (eq-eqb l.kind 0 filter.conv_kind, filter.stride_one, filter.unpadded)

  -- E is H − K + 1
  filter_count : (size added : ℕ) → l.side ≤ size → full_size l size added ≡ size - l.side + 1
  unfolding conv_size
  filter_count size added fits = filter_size size added ∙ omega arith

-- ---- two filters

module _ {first second : Layer} (pair : Pair first second) where
  joined_filter : Filter (joined_layer first second)
  joined_filter = record {
    conv_kind = pair.first_filter.conv_kind;
    stride_one = pair.first_filter.stride_one;
    unpadded = pair.first_filter.unpadded;
    side_low = omega (arith, pair.first_filter.side_low, pair.second_filter.side_low);
  }

  module _ {size added middle : ℕ} (along : Along first second size added middle) where
    middle_count : middle ≡ size - first.side + 1
    middle_count = along.is ∙ filter_count first pair.first_filter size added along.first_fits

    -- `more` is what the second layer adds, which makes no difference in CONV
    outputs_count : (more : ℕ) → full_size second middle more ≡ middle - second.side + 1
    outputs_count more = filter_count second pair.second_filter middle more along.second_fits

    joined_fits : first.side + second.side - 1 ≤ size
    joined_fits = omega (arith, middle_count, along.first_fits, along.second_fits)

    same_size : (more : ℕ) → full_size (joined_layer first second) size added ≡ full_size second middle more
    same_size more =
        filter_count (joined_layer first second) joined_filter size added joined_fits
        ∙ omega (arith, middle_count, outputs_count more, along.first_fits, along.second_fits, pair.second_filter.side_low)

    some_outputs : (more : ℕ) → 0 < full_size second middle more
    some_outputs more = omega (arith, outputs_count more)

    window_inside : (more e : ℕ) → e < full_size second middle more → e + (first.side + second.side - 1) ≤ size
    window_inside more e inside =
        omega (arith, middle_count, outputs_count more, along.first_fits, along.second_fits, pair.second_filter.side_low)

  module _ (follows : Follows first second) (map firstKernel secondKernel : List ℤ) where
    abbrev middle : List ℤ
    middle = full_output first map firstKernel

    abbrev joined : List ℤ
    joined = joined_kernel first firstKernel second secondKernel

    -- the first layer's outputs, in the figures of CONV
    abbrev convolved : List ℤ
    convolved =
        let E = conv_size first.height first.side 1 0 in
        let F = conv_size first.width first.side 1 0 in
        stacked first.outputs E F (conv first.inputs first.height first.width first.side 1 0 map firstKernel)

    middle_is : middle ≡ convolved
    middle_is =
        rw (filter_size first pair.first_filter first.height first.below, filter_size first pair.first_filter first.width first.beside)
        (table_same _ (λ p l. filter_conv first pair.first_filter map firstKernel _ _ _))

    second_over_middle : (m e f : ℕ) → full_at second middle secondKernel m e f
        ≡ conv first.outputs (conv_size first.height first.side 1 0) (conv_size first.width first.side 1 0) second.side 1 0
        convolved secondKernel m e f
    second_over_middle m e f =
        let down = follows.down.is ∙ filter_size first pair.first_filter first.height first.below in
        let across = follows.across.is ∙ filter_size first pair.first_filter first.width first.beside in
        filter_conv second pair.second_filter middle secondKernel m e f ∙ rw (← pair.channels, down, across, middle_is)

    -- one output
    pub join_output : (m e f : ℕ) → m < second.outputs → e < full_height second → f < full_width second
        → full_at (joined_layer first second) map joined m e f ≡ full_at second middle secondKernel m e f
    unfolding joined_at
    join_output m e f channel row column =
        filter_conv (joined_layer first second) joined_filter map _ m e f
        ∙ conv_joined first.side second.side first.inputs first.outputs second.outputs first.height first.width
        map firstKernel secondKernel pair.first_filter.side_low pair.second_filter.side_low m e f channel
        (window_inside follows.down second.below e row) (window_inside follows.across second.beside f column)
        ∙ sym (second_over_middle m e f)

    -- all of them
    pub join_law : full_output (joined_layer first second) map joined ≡ full_output second middle secondKernel
    join_law =
        rw (same_size follows.down second.below, same_size follows.across second.beside)
        (stacked_same second.outputs (full_height second) (full_width second)
        (some_outputs follows.down second.below) (some_outputs follows.across second.beside) join_output)
