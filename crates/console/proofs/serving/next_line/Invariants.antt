-- No line break was found, and so much of the line was kept.
use Rattle.console.proofs.Lines.{Begun, Between}
use Rattle.console.proofs.serving.next_line.Given as goal

abbrev pub invariant-loop : goal.invariant-loop
invariant-loop g l = Between (g.B.Read.remaining l.initial.input) (g.B.Read.remaining l.input) (λ bytes rest. Begun bytes l.line.bytes.items rest)
