use Rattle.std.proofs.Common.{[], ◌∷◌, length, ap, arith}
use Rattle.std.proofs.lemmas.List.{length-append}
use Rattle.std.proofs.lemmas.Result.{err_from_is_err_and}
use Rattle.lines.proofs.Underway.{passed_order, part_described}
use Rattle.lines.proofs.Wholes.{board_of}
use Rattle.lines.proofs.reader.Reader.items.Goals as goal

pub returns-in_err-walk : goal.returns-in_err-walk
returns-in_err-walk c =
    let p = err_from_is_err_and c.from_residual.result c.from_residual.ensures.1 in
    rw (p.1, p.2) (rw c.first_spot.ensures at c.in_err-walk.ensures)

pub returns : goal.returns
returns c =
    let (w, p, (u, e, r)) = rw c.first_spot.ensures at c.in_ok-walk.ensures in
    let l = passed_order w p in
    let k = ap length e in
    let m = length-append u (41 ∷ []) in
    (w, p, board_of c.args.kind c.args.place _ c.part-items.result w (u, e, r) (part_described p u (41 ∷ []) e c.part-items.result _ c.part-items.ensures.begins c.part-items.ensures.holds (omega arith)))
