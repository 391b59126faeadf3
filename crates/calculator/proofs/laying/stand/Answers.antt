-- Either test may refuse.
use Rattle.std.proofs.Common.{◌≡◌, Err, sym, subst, rules}
use Rattle.calculator.specs.Laying.{Stood}
use Rattle.calculator.proofs.Subjects.{stood_not, stood_illegal}
use Rattle.calculator.proofs.laying.stand.Goals as goal

pub returns-in_err-setup : goal.returns-in_err-setup
returns-in_err-setup c j b x =
    let e : c.from_residual.result ≡ Err c.in_err-setup.field-0.0 = search rules in
    subst (Stood j b) (sym e) (stood_not j b c.in_err-setup.field-0.0 (c.in_err-setup.ensures j b x))

pub returns-in_err-permit : goal.returns-in_err-permit
returns-in_err-permit c j b x =
    let e : c.from_residual-in_err-permit.result ≡ Err c.in_err-permit.field-0.0 = search rules in
    subst (Stood j b) (sym e) (stood_illegal j c.args.board.now.place b c.in_ok-setup.setup c.in_err-permit.field-0.0 x.begins (c.in_ok-setup.ensures j b x) c.in_err-permit.ensures)

pub returns : goal.returns
returns c j b x = (c.in_ok-setup.ensures j b x, c.in_ok-permit.ensures)
