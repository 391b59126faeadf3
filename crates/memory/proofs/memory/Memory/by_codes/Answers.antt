-- The new table held nothing.
use Rattle.memory.proofs.Filled.{filled}
use Rattle.memory.proofs.memory.Memory.by_codes.Goals as goal

pub returns : goal.returns
returns c = filled c.in_ok-wide.ensures c.copy_into.ensures
