-- The lines so far are answered.
use Rattle.std.proofs.Common.{◌≡◌}
use Rattle.std.specs.Io.Buffered.{reader_remaining, writer_contents}
use Rattle.console.proofs.Sessions.{Serving}
use Rattle.console.proofs.serving.serve.Given as goal

abbrev pub invariant-loop : goal.invariant-loop
invariant-loop g l = (l.calculator.dictionary.room ≡ l.initial.calculator.dictionary.room)
    × Serving l.initial.calculator.dictionary.room l.initial.calculator.dictionary.rows (reader_remaining g.R.Read.remaining l.initial.input) (writer_contents g.W.Write.contents l.initial.output)
    l.calculator.dictionary.rows (reader_remaining g.R.Read.remaining l.input) (writer_contents g.W.Write.contents l.output)
