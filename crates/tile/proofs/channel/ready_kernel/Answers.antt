-- Where the transform is not kept it is made; where it is, it is what was lent.
use Rattle.tile.proofs.channel.ready_kernel.Goals as goal

pub returns-else-not-kept : goal.returns-else-not-kept
returns-else-not-kept c = c.requires.kernel_ready c.if-not-kept.false
