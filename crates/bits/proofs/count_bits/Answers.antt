-- The count of the set bits is the length of their list, and at most 64.
use Rattle.std.proofs.Common.{arith}
use lib.Count.{ones-le}
use Rattle.bits.proofs.Counts.{ones_places}
use Rattle.bits.proofs.count_bits.Goals as goal

pub overflow_cast-result : goal.overflow_cast-result
overflow_cast-result c = omega (arith, ones-le 64 c.args.word)

pub returns : goal.returns
returns c = ones_places 64 c.args.word (omega arith)
