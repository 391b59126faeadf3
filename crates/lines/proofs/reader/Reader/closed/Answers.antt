use Rattle.std.proofs.Common.{[], ◌∷◌, refl}
use Rattle.std.proofs.lemmas.Result.{err_from_is_err_and}
use Rattle.lines.specs.Machine.{just}
use Rattle.lines.proofs.Passing.{failed_under}
use Rattle.lines.proofs.Wholes.{closed_passed, closed_failed}
use Rattle.lines.proofs.reader.Reader.closed.Goals as goal

pub returns-in_err-piece : goal.returns-in_err-piece
returns-in_err-piece g c =
    let p = err_from_is_err_and c.from_residual.result c.from_residual.ensures.1 in
    rw (p.1, p.2) (failed_under (just 41 ∷ []) refl c.in_err-piece.ensures)

pub returns-in_err-expect : goal.returns-in_err-expect
returns-in_err-expect g c =
    let p = err_from_is_err_and c.from_residual-in_err-expect.result c.from_residual-in_err-expect.ensures.1 in
    rw (p.1, p.2) (closed_failed c.in_ok-piece.ensures.1 (c.in_err-expect.ensures (just 41) [] refl refl))

pub returns : goal.returns
returns g c =
    let a = c.in_ok-piece.ensures in
    (_, closed_passed a.1 (c.in_ok-expect.ensures (just 41) [] refl refl), (_, refl, a.2))
