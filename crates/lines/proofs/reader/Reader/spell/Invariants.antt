use Rattle.lines.proofs.Passing.{Spelling}
use Rattle.lines.proofs.reader.Reader.spell.Given as goal

abbrev pub invariant-loop-byte : goal.invariant-loop-byte
invariant-loop-byte l = Spelling l.initial.self l.self l.bytes l.byte-index
