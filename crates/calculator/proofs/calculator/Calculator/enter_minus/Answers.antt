-- The one board of the subject.
use Rattle.std.proofs.Common.{◌≡◌, ◌+◌, length, Err, codes, refl, ap, subst, rules}
use Rattle.std.specs.Option.{option_map}
use Rattle.lines.specs.Syntax.{minus}
use Rattle.sums.specs.Sums
use Rattle.boards.specs.AnyBoards.{any_rules, position}
use Rattle.calculator.specs.Entering.{ValuedAt}
use Rattle.calculator.specs.Faults.{answer_of}
use Rattle.calculator.specs.Subjects.{negated}
use Rattle.calculator.proofs.Subjects.{one_refused, one_valued}
use Rattle.calculator.proofs.calculator.Calculator.enter_minus.Goals as goal

pub returns-in_err-setup : goal.returns-in_err-setup
returns-in_err-setup g c =
    let d = c.args.self.now.dictionary in
    let e : c.from_residual.result ≡ Err c.in_err-setup.field-0.0 = search rules in
    record {
      entered = λ b x. one_refused d.room d.rows c.args.place (minus b) (c.args.place + length (codes "(minus ")) b refl c.in_err-setup.field-0.0 c.from_residual.result e (c.in_err-setup.ensures (c.args.place + length (codes "(minus ")) b x);
      room = refl;
    }

pub returns : goal.returns
returns g c =
    let d = c.args.self.now.dictionary in
    record {
      entered = λ b x. one_valued d.room d.rows c.args.place (minus b) (c.args.place + length (codes "(minus ")) b refl c.in_ok-setup.setup (c.in_ok-setup.ensures (c.args.place + length (codes "(minus ")) b x)
          (negated (position c.in_ok-setup.setup)) (ap (option_map negated) (c.in_ok-setup.ensures (c.args.place + length (codes "(minus ")) b x).0) _ _
          (subst (λ z. ValuedAt (Sums.minus (any_rules z)) d.room d.rows c.args.place c.in_ok-setup.setup.code (answer_of c.enter.result) c.enter.new.self.dictionary.rows) c.new.ensures.made (c.enter.ensures.valued));
      room = c.enter.ensures.room;
    }
