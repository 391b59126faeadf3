-- The one board of the subject.
use Rattle.std.proofs.Common.{◌≡◌, Err, refl, rules}
use Rattle.lines.specs.Syntax.{plain}
use Rattle.boards.specs.AnyBoards.{position}
use Rattle.calculator.proofs.Subjects.{one_refused, one_valued}
use Rattle.calculator.proofs.calculator.Calculator.enter_plain.Goals as goal

pub returns-in_err-setup : goal.returns-in_err-setup
returns-in_err-setup g c =
    let d = c.args.self.now.dictionary in
    let e : c.from_residual.result ≡ Err c.in_err-setup.field-0.0 = search rules in
    record {
      entered = λ b x. one_refused d.room d.rows c.args.place (plain b) c.args.place b refl c.in_err-setup.field-0.0 c.from_residual.result e (c.in_err-setup.ensures c.args.place b x);
      room = refl;
    }

pub returns : goal.returns
returns g c =
    let d = c.args.self.now.dictionary in
    record {
      entered = λ b x. one_valued d.room d.rows c.args.place (plain b) c.args.place b refl c.in_ok-setup.setup (c.in_ok-setup.ensures c.args.place b x)
          (position c.in_ok-setup.setup) (c.in_ok-setup.ensures c.args.place b x).0 _ _ (c.enter.ensures.valued);
      room = c.enter.ensures.room;
    }
