-- A byte more, a fault, the last bracket, or the end of the text.
use Rattle.std.proofs.Common.{Err, sym, ap, ◌∙◌}
use Rattle.std.proofs.lemmas.Result.{err_from_is_err_and}
use Rattle.reading.proofs.Checked.{faulty, takes_not, takes_on, takes_last, takes_early, behind_whole, whole_text}
use Rattle.reading.proofs.check.check.Goals as goal

pub returns-in_err-take : goal.returns-in_err-take
returns-in_err-take c =
    let p = err_from_is_err_and c.from_residual.result c.from_residual.ensures.1 in
    let x = c.loop-place.invariant in
    faulty _ _ _ (p.1 ∙ ap Err p.2) (takes_not _ _ _ x c.loop-place-test.true _ (c.in_err-take.ensures.steps _ x.stands))

pub returns-then-behind-text : goal.returns-then-behind-text
returns-then-behind-text c =
    let x = c.loop-place.invariant in
    behind_whole _ _ (takes_last _ _ _ x c.loop-place-test.true c.take.new.self _ (c.in_ok-take.ensures.steps _ x.stands) (sym c.if-is_break.ensures)) c.if-behind-text.true

pub returns-then-is_break : goal.returns-then-is_break
returns-then-is_break c =
    let x = c.loop-place.invariant in
    whole_text _ _ (takes_last _ _ _ x c.loop-place-test.true c.take.new.self _ (c.in_ok-take.ensures.steps _ x.stands) (sym c.if-is_break.ensures)) c.if-behind-text.false

pub loop-place-preserved : goal.loop-place-preserved
loop-place-preserved c =
    let x = c.loop-place.invariant in
    takes_on _ _ _ x c.loop-place-test.true _ _ (c.in_ok-take.ensures.steps _ x.stands) (sym c.if-is_break.ensures)

pub returns : goal.returns
returns c = takes_early _ _ _ c.loop-place.invariant c.loop-place-test.false
