-- What holds of the worst map: it is within the peak, and the output of the first channel with the greatest load, at the first whole window of the
-- crop, equals that load. It rests on the laws of the first greatest number, of whole windows, and of the map for one output.
use Rattle.std.specs.Prelude.{◌≡◌, true, List, ◌*◌, ◌<◌, ℤ}
use Rattle.std.proofs.Math.Path.{ap}
use Rattle.std.proofs.Common.{◌∙◌, div-add-mod', arith}
use Rattle.std.proofs.Math.Arith.{digits_lt, digits_div, digits_mod}
use Rattle.std.proofs.Math.IntN.{pos}
use Rattle.algebra.specs.EveryLaws.{both_true}
use Rattle.algebra.specs.GreatestLaws.{greatest_at, first_greatest_below, first_greatest_at, first_greatest_before}
use Rattle.layer.specs.declared.shape.Layer.{Layer}
use Rattle.layer.specs.Shape.{output_count}
use Rattle.layer.specs.Direct.{direct_at}
use Rattle.layer.specs.Planned.{InRange}
use Rattle.load.specs.Load.{load}
use Rattle.worst.specs.Window.{first_whole, has_whole}
use Rattle.worst.specs.Worst.{greatest_load, worst_channel, worst_place, worst_output, worst_map}
use Rattle.worst.specs.Reached.{Reached}
use Rattle.worst.specs.WindowLaws.{first_window, first_below, no_earlier}
use Rattle.worst.specs.WorstLaws.{map-length, map-within, reaches}

module _ (l : Layer) (r : InRange l) (kernel : List ℤ) (conv_kind : l.kind ≡ 0) (has : has_whole l ≡ true) where
  channel_in : worst_channel l kernel < l.outputs
  channel_in = first_greatest_below (load l kernel) l.outputs r.outputs_low

  place_kept : worst_place l kernel < output_count l
  place_kept = let flat : worst_place l kernel < l.outputs * (l.rows * l.columns) = digits_lt channel_in (first_below l has) in omega arith

  channel_load : load l kernel (worst_channel l kernel) ≡ greatest_load l kernel
  channel_load = first_greatest_at (load l kernel) l.outputs r.outputs_low

  equals : direct_at l (worst_map l kernel) kernel (worst_place l kernel) ≡ pos (greatest_load l kernel)
  unfolding direct_at
  equals =
      let w = both_true _ _ (first_window l has).inside in
      rw (digits_div (worst_channel l kernel) (first_below l has), digits_mod (worst_channel l kernel) (first_below l has))
      (reaches l kernel (worst_output l kernel) w.0 w.1 conv_kind r.stride_low ∙ ap pos channel_load)

  pub reached : Reached l kernel (worst_map l kernel)
  reached = record {
    size = map-length l kernel (worst_output l kernel);
    bounded = map-within l kernel (worst_output l kernel);
    kept = place_kept;
    equals = equals;
    channel_load = channel_load;
    most = greatest_at l.outputs (load l kernel);
    channel_first = first_greatest_before (load l kernel) l.outputs;
    window = first_window l has;
    window_first = λ i j w. omega (arith, no_earlier l w, div-add-mod' (first_whole l) l.columns);
  }
