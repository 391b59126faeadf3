use Rattle.std.proofs.Common.{◌-◌, length}
use Rattle.lines.proofs.Underway.{Underway}
use Rattle.lines.proofs.reader.Reader.walk.Given as goal

abbrev pub invariant-loop-walk : goal.invariant-loop-walk
invariant-loop-walk g l = Underway l.initial.self l.self (g.W.Walk.stack l.initial.walk) (g.W.Walk.stack l.walk)

abbrev pub decreases-loop-walk : goal.decreases-loop-walk
decreases-loop-walk g l = length l.self.line.now - l.self.at
