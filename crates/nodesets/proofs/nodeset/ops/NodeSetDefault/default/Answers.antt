-- No word has a bit.
use Rattle.nodesets.proofs.nodeset.ops.NodeSetDefault.default.Goals as goal
use Rattle.nodesets.proofs.Words.{mem_zeros}

pub returns : goal.returns
returns c j = mem_zeros j
