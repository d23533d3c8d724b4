-- `wemsteky_join` is the library's `join` of the two layers.
use Rattle.wemsteky.proofs.wemsteky_join.Goals as goal

pub returns : goal.returns
returns c =
    rw (c.layer_of.ensures, c.layer_of-2.ensures) at c.join.ensures
