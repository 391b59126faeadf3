-- The subject is entered, and its value is written.
use Rattle.std.proofs.Common.{◌≡◌, Err, refl, rules}
use Rattle.lines.specs.Syntax.{value}
use Rattle.calculator.specs.Replies
use Rattle.calculator.specs.Replies.{value_place}
use Rattle.calculator.proofs.Replies.{passed_on, subject_in, value_replied}
use Rattle.calculator.proofs.calculator.Calculator.reply_value.Goals as goal

pub returns-in_err-node : goal.returns-in_err-node
returns-in_err-node g c =
    let d = c.args.self.now.dictionary in
    let z = c.in_err-node.ensures in
    let e : c.from_residual.result ≡ Err c.in_err-node.field-0.0 = search rules in
    record {
      replied = λ s x small. passed_on d.room d.rows c.args.out.now c.args.out.now c.enter_subject.new.self.dictionary.rows (value s) c.in_err-node.field-0.0 c.from_residual.result e refl
          (Replies.Replies.value_refused (z.entered value_place s x small));
      room = z.room;
    }

pub returns : goal.returns
returns g c =
    let d = c.args.self.now.dictionary in
    let z = c.in_ok-node.ensures in
    record {
      replied = λ s x small.
          let y = z.entered value_place s x small in
          value_replied d.room d.rows c.args.out.now c.write_value.new.out c.enter_subject.new.self.dictionary.rows s c.in_ok-node.node c.write_value.result y
          (c.write_value.ensures (subject_in y));
      room = z.room;
    }
