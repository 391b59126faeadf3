use Rattle.std.proofs.lemmas.Result.{err_from_is_err_and}
use Rattle.lines.proofs.Wholes.{line_fails, more_bytes, right_line}
use Rattle.lines.proofs.parse.parse.Goals as goal

pub returns-in_err-question : goal.returns-in_err-question
returns-in_err-question c =
    let p = err_from_is_err_and c.from_residual.result c.from_residual.ensures.1 in
    let n = c.new-reader.ensures in
    rw (p.1, p.2) (line_fails _ n.line n.at c.in_err-question.ensures)

pub returns-in_err-end : goal.returns-in_err-end
returns-in_err-end c =
    let p = err_from_is_err_and c.from_residual-in_err-end.result c.from_residual-in_err-end.ensures.1 in
    let n = c.new-reader.ensures in
    let h = c.in_err-end.ensures in
    rw (p.1, p.2) (more_bytes _ n.line n.at c.in_ok-question.ensures.1 _ h.0 h.1)

pub returns : goal.returns
returns c =
    let n = c.new-reader.ensures in
    let (w, p, (l, e, d)) = c.in_ok-question.ensures in
    (l, right_line _ n.line n.at p l c.in_ok-end.ensures e, d n.at)
