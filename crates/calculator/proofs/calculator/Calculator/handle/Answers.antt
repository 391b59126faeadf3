-- First a line that is too long, then a fault of the line, then what it asks.
use Rattle.std.proofs.Common.{◌≡◌, ◌≤◌, length, Err, rules}
use Rattle.lines.specs.Syntax.{spell}
use Rattle.calculator.specs.declared.fault.CalculatorFault.TheVariants.{Line}
use Rattle.calculator.proofs.Answering.{fault_handled, long_handled, right_handled}
use Rattle.calculator.proofs.calculator.Calculator.handle.Goals as goal

pub returns-then-line-gt-LONGEST_LINE-clause-handled : goal.returns-then-line-gt-LONGEST_LINE-clause-handled
returns-then-line-gt-LONGEST_LINE-clause-handled g c =
    let d = c.args.self.now.dictionary in
    long_handled d.room d.rows c.args.line.now c.args.out.now c.args.out.now d.rows c.if-line-gt-LONGEST_LINE.true

pub returns-in_err-question-clause-handled : goal.returns-in_err-question-clause-handled
returns-in_err-question-clause-handled g c =
    let d = c.args.self.now.dictionary in
    let e : c.from_residual.result ≡ Err (Line c.in_err-question.field-0.0) = search rules in
    fault_handled d.room d.rows c.args.line.now c.args.out.now c.args.out.now d.rows c.in_err-question.field-0.0 c.from_residual.result e c.if-line-gt-LONGEST_LINE.false c.in_err-question.ensures

pub returns-clause-handled : goal.returns-clause-handled
returns-clause-handled g c =
    let d = c.args.self.now.dictionary in
    let (l, right, described) = c.in_ok-question.ensures in
    let small : length (spell l) ≤ 1000 = rw right.spelt c.if-line-gt-LONGEST_LINE.false in
    right_handled d.room d.rows c.args.line.now c.args.out.now c.reply.new.out c.reply.new.self.dictionary.rows l c.reply.result c.if-line-gt-LONGEST_LINE.false right (c.reply.ensures.replied l described small)
