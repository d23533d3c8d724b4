-- `wemsteky_worst_map` is the library's `worst_map` of the layer.
use Rattle.wemsteky.proofs.wemsteky_worst_map.Goals as goal

pub returns : goal.returns
returns c =
    rw c.layer_of.ensures at c.worst_map.ensures
