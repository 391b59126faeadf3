-- A fault in a text is at its own place, and places do not pass the text's end.
use Rattle.std.proofs.Common.{◌≡◌, ◌+◌, ◌^◌, ◌<◌, Err, rules}
use Rattle.reading.specs.Faults.{ReadFault, fault_place}
use Rattle.calculator.specs.declared.fault.CalculatorFault.TheVariants.{Text}
use Rattle.calculator.proofs.Subjects.{text_refused}
use Rattle.calculator.proofs.calculator.Calculator.enter_text.Goals as goal

pub returns-in_err-node-clause-entered : goal.returns-in_err-node-clause-entered
returns-in_err-node-clause-entered g c small =
    let d = c.args.self.now.dictionary in
    let start = c.args.text.now.place in
    let (f, was, is) : (f : ReadFault) × (c.read.result ≡ Err f) × (start + fault_place f < 2 ^ 64 → c.in_err-node.field-0.0 ≡ Text (start + fault_place f) f) = search rules in
    let e : c.from_residual.result ≡ Err c.in_err-node.field-0.0 = search rules in
    text_refused d.room d.rows c.read.new.dictionary.rows start c.args.text.now.bytes.now c.read.result f c.in_err-node.field-0.0 c.from_residual.result small c.read.ensures.reads was is e
