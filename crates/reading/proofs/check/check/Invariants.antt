use Rattle.reading.proofs.Checked.{Taken}
use Rattle.reading.proofs.check.check.Given as goal

abbrev pub invariant-loop-place : goal.invariant-loop-place
invariant-loop-place l = Taken l.text l.place l.nest
