-- The new table held nothing.
use Rattle.std.proofs.Common.{sym, subst}
use Rattle.memory.specs.Memories.{InTable}
use Rattle.memory.proofs.Filled.{filled}
use Rattle.memory.proofs.memory.Memory.ready_for_largest.Goals as goal

pub returns : goal.returns
returns c = λ code n x. subst (λ t. InTable t code n) (sym c.in-Indexed.is) (filled c.in-Some.ensures c.copy_into.ensures code n x)
