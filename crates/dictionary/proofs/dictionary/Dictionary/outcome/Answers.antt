-- The first node is 0.
use Rattle.std.proofs.Common.{◌≡◌, Err, sym, subst, rules}
use Rattle.calls.specs.Asking.{TellsOutcome}
use Rattle.dictionary.specs.Faults.{answer_of}
use Rattle.dictionary.proofs.Asking.{tells, tells_not}
use Rattle.dictionary.proofs.Tied.{kept_inside}
use Rattle.dictionary.proofs.dictionary.Dictionary.outcome.Goals as goal

pub returns-in_err-compare : goal.returns-in_err-compare
returns-in_err-compare g c =
    let e : c.from_residual.result ≡ Err c.in_err-compare.field-0.0 = search rules in
    subst (λ r. TellsOutcome c.args.self.now.rows c.args.node (answer_of r)) (sym e) (tells_not _ _ _ c.in_err-compare.ensures)

pub returns : goal.returns
returns g c =
    rw c.from.ensures (tells c.args.self.now.rows c.self.inside.tables (kept_inside (g.S.Store.rows c.self.inside.store) (g.S.Store.room c.self.inside.store) c.args.self.now c.self.inside.tables c.self.view_is c.self.invariant.0) c.args.node c.in_ok-compare.field-0 c.in_ok-compare.ensures)
