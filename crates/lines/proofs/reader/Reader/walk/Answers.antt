use Rattle.std.proofs.Common.{refl, arith}
use Rattle.std.proofs.lemmas.Result.{err_from_is_err_and}
use Rattle.lines.proofs.Underway.{underway_start, underway_early, underway_refused, underway_more, underway_end}
use Rattle.lines.proofs.reader.Reader.walk.Goals as goal

pub loop-walk-init : goal.loop-walk-init
loop-walk-init g c = underway_start _ _

pub returns-in_err-peek : goal.returns-in_err-peek
returns-in_err-peek g c =
    let p = err_from_is_err_and c.from_residual.result c.from_residual.ensures.1 in
    let h = c.in_err-peek.ensures in
    rw (p.1, p.2) (underway_early c.loop-walk.invariant c.loop-walk.self refl _ (g.met.W.Walk.ongoing c.loop-walk.walk) h.0 h.1)

pub returns-in_err-step : goal.returns-in_err-step
returns-in_err-step g c =
    let p = err_from_is_err_and c.from_residual-in_err-step.result c.from_residual-in_err-step.ensures.1 in
    let h = c.in_ok-peek.ensures in
    rw (p.1, p.2) (underway_refused c.loop-walk.invariant c.loop-walk.self refl c.in_ok-peek.field-0 h.0 h.1 _ (g.met.W.Walk.ongoing c.loop-walk.walk) c.in_err-step.ensures)

pub loop-walk-smaller : goal.loop-walk-smaller
loop-walk-smaller g c = let l = c.in_ok-peek.ensures.0 in omega arith

pub loop-walk-preserved : goal.loop-walk-preserved
loop-walk-preserved g c =
    let h = c.in_ok-peek.ensures in
    underway_more c.loop-walk.invariant _ refl c.in_ok-peek.field-0 h.0 h.1 g.W.Walk.last (g.W.Walk.stack c.step.new.self) refl c.in_ok-step.field-0 c.in_ok-step.ensures c.if-is_continue.ensures (g.met.W.Walk.ongoing c.step.new.self).few

pub returns : goal.returns
returns g c =
    let h = c.in_ok-peek.ensures in
    underway_end c.loop-walk.invariant _ refl c.in_ok-peek.field-0 h.0 h.1 g.W.Walk.last (g.W.Walk.stack c.step.new.self) refl c.in_ok-step.field-0 c.in_ok-step.ensures c.if-is_continue.ensures
