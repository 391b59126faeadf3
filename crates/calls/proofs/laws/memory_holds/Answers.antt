use Rattle.calls.proofs.Memory.{memory_holds, valued_again}
use Rattle.calls.proofs.laws.memory_holds.Goals as goal

pub returns : goal.returns
returns c = record { forms = memory_holds; positions = valued_again }
