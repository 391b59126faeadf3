use Rattle.std.proofs.Common.{[], sym, append-nil, arith}
use Rattle.std.proofs.lemmas.Result.{err_from_is_err_and}
use Rattle.lines.proofs.Nesting.{begins}
use Rattle.lines.proofs.Underway.{passed_order, part_described}
use Rattle.lines.proofs.Wholes.{text_of}
use Rattle.lines.proofs.reader.pieces.PartPiece.read.Goals as goal

pub returns-in_err-walk : goal.returns-in_err-walk
returns-in_err-walk c =
    let p = err_from_is_err_and c.from_residual.result c.from_residual.ensures.1 in
    rw (p.1, p.2) (rw (begins c.default.result c.default.ensures) at c.in_err-walk.ensures)

pub returns : goal.returns
returns c =
    let (w, p, (u, e, r)) = rw (begins c.default.result c.default.ensures) at c.in_ok-walk.ensures in
    let l = passed_order w p in
    (w, p, text_of _ _ w 125 (u, e, r) (part_described p w [] (sym (append-nil w)) c.part.result _ c.part.ensures.begins c.part.ensures.holds (omega arith)))
