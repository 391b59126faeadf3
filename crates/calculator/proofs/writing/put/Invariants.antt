-- The parts so far are written.
use Rattle.std.proofs.Common.{◌≡◌, length, take}
use Rattle.dictionary.specs.Printing.{over}
use Rattle.calculator.proofs.Parts.{joined}
use Rattle.calculator.proofs.writing.put.Given as goal

abbrev pub invariant-loop-part : goal.invariant-loop-part
invariant-loop-part l = (l.end ≡ length (joined (take l.part-index l.fn.parts))) × (l.out ≡ over l.initial.out 0 (joined (take l.part-index l.fn.parts)))
