use Rattle.std.proofs.Common.{[], refl, subst}
use Rattle.std.proofs.lemmas.Result.{err_from_is_err_and}
use Rattle.lines.specs.Machine.{just}
use Rattle.lines.proofs.Wholes.{first_failed, blank_failed, second_failed, last_failed, last_passed, second_place}
use Rattle.lines.proofs.reader.Reader.pair.Goals as goal

pub returns-in_err-first : goal.returns-in_err-first
returns-in_err-first g c =
    let p = err_from_is_err_and c.from_residual.result c.from_residual.ensures.1 in
    rw (p.1, p.2) (first_failed g.P.Piece.symbol g.Q.Piece.symbol g.Q.Piece.quiet c.in_err-first.ensures)

pub returns-in_err-expect : goal.returns-in_err-expect
returns-in_err-expect g c =
    let p = err_from_is_err_and c.from_residual-in_err-expect.result c.from_residual-in_err-expect.ensures.1 in
    rw (p.1, p.2) (blank_failed g.P.Piece.symbol g.Q.Piece.symbol g.Q.Piece.quiet c.in_ok-first.ensures.1 (c.in_err-expect.ensures (just 32) [] refl refl))

pub returns-in_err-second : goal.returns-in_err-second
returns-in_err-second g c =
    let p = err_from_is_err_and c.from_residual-in_err-second.result c.from_residual-in_err-second.ensures.1 in
    rw (p.1, p.2) (second_failed g.P.Piece.symbol g.Q.Piece.symbol g.Q.Piece.quiet c.in_ok-first.ensures.1 (c.in_ok-expect.ensures (just 32) [] refl refl) c.in_err-second.ensures)

pub returns-in_err-expect-2 : goal.returns-in_err-expect-2
returns-in_err-expect-2 g c =
    let p = err_from_is_err_and c.from_residual-in_err-expect-2.result c.from_residual-in_err-expect-2.ensures.1 in
    rw (p.1, p.2) (last_failed g.P.Piece.symbol g.Q.Piece.symbol g.Q.Piece.quiet c.in_ok-first.ensures.1 (c.in_ok-expect.ensures (just 32) [] refl refl) c.in_ok-second.ensures.1 (c.in_err-expect-2.ensures (just 41) [] refl refl))

pub returns : goal.returns
returns g c =
    let a = c.in_ok-first.ensures in
    let b = c.in_ok-expect.ensures (just 32) [] refl refl in
    let d = c.in_ok-second.ensures in
    let e = second_place g.P.Piece.symbol g.Q.Piece.symbol g.Q.Piece.quiet a.1 b in
    (_, last_passed g.P.Piece.symbol g.Q.Piece.symbol g.Q.Piece.quiet a.1 b d.1 (c.in_ok-expect-2.ensures (just 41) [] refl refl), (_, _, refl, a.2, subst (λ z. g.Q.Piece.tells z c.in_ok-second.second d.0) e d.2))
