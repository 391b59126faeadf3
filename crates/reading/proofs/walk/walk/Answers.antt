-- The marks are taken in turn.
use Rattle.std.proofs.Common.{ℕ, ◌+◌, Err, sym, ap, ◌∙◌, subst, rules}
use Rattle.std.proofs.lemmas.Result.{err_from_is_err_and}
use Rattle.reading.specs.declared.frames.Frames.{Frames}
use Rattle.reading.specs.Held.{stack_of}
use Rattle.reading.specs.Walked.{Walked}
use Rattle.reading.proofs.Upto.{upto, some_mark, there_is, length_upto}
use Rattle.reading.proofs.Walking.{In, starts, few_open, some_open, at_open, at_bar, at_comma, at_close, at_stop, at_end, joined}
use Rattle.reading.proofs.walk.walk.Goals as goal
use Rattle.reading.proofs.walk.walk.Goals.{in-Open, in-Bar, in-Close+in_ok-node-in-Close, in-Comma}

pub loop-place-init : goal.loop-place-init
loop-place-init g c f w = starts _ _ _ f _ _ c.requires.none_open

pub unwrap-requires : goal.unwrap-requires
unwrap-requires g c = let (f, w) = c.requires.written in some_mark f _ w _ c.loop-place-test.true c.try_from.result c.try_from.ensures

pub open-requires : goal.open-requires
open-requires g c =
    let (f, w) = c.requires.written in
    let x = there_is f _ w _ c.loop-place-test.true c.try_from.result c.try_from.ensures c.unwrap.result _ c.unwrap.ensures c.in-Open.is in
    (search rules, few_open _ _ _ f _ _ (stack_of c.loop-place.frames) _ _ (c.loop-place.invariant f w) x)

pub unwrap-options-requires : goal.unwrap-options-requires
unwrap-options-requires g c =
    let (f, w) = c.requires.written in
    let x = there_is f _ w _ c.loop-place-test.true c.try_from.result c.try_from.ensures c.unwrap.result _ c.unwrap.ensures c.in-Close.is in
    some_open _ _ _ f _ _ _ _ _ (c.loop-place.invariant f w) x c.close.result c.close.ensures

pub returns-in_err-node-in-Close : goal.returns-in_err-node-in-Close
returns-in_err-node-in-Close g c f w =
    let x = there_is f _ w _ c.loop-place-test.true c.try_from.result c.try_from.ensures c.unwrap.result _ c.unwrap.ensures c.in-Close.is in
    let p = err_from_is_err_and c.from_residual.result c.from_residual.ensures.1 in
    subst (λ r. Walked g.C.Closing.closes c.args.closing.now f r c.close-in-Close.new.self) (sym (p.1 ∙ ap Err p.2))
    (at_stop _ _ _ f _ _ _ _ _ (c.loop-place.invariant f w) x c.close.result c.close.ensures c.unwrap-options.result c.unwrap-options.ensures _ _ c.in_err-node-in-Close.ensures (length_upto f _ w _ c.loop-place-test.true))

pub loop-place-preserved : goal.loop-place-preserved
loop-place-preserved g c f w =
    let i = c.loop-place.place in
    let fs = stack_of c.loop-place.frames in
    let t = c.loop-place.invariant f w in
    let k = g.T.Options.keeps in
    let r = g.C.Closing.closes in
    let s = c.args.closing.now in
    let last = c.loop-place.last in
    let d = c.loop-place.closing in
    let x = there_is f _ w i c.loop-place-test.true c.try_from.result c.try_from.ensures c.unwrap.result in
    let T = λ (d : g.row.C.Denot) (fs : Frames g.row.T.Denot) (l : ℕ). In k r s f (upto f (i + 1)) (stack_of fs) l d in
    elim c.match-unwrap.branch [
      | in-Open v ↦ joined T v.closing-is v.frames-is v.last-is (at_open k r s f i fs (stack_of v.open.new.self) last d t (x _ c.unwrap.ensures v.in-Open.is) v.open.ensures.0 v.open.ensures.1 v.open.ensures.2)
      | in-Bar v ↦ joined T v.closing-is v.frames-is v.last-is (at_bar k r s f i fs (stack_of v.bar.new.self) last d t (x _ c.unwrap.ensures v.in-Bar.is) v.bar.ensures)
      | in-Close+in_ok-node-in-Close v ↦ joined T v.closing-is v.frames-is v.last-is
          (at_close k r s f i fs (stack_of v.close.new.self) last d t (x _ c.unwrap.ensures v.in-Close.is) v.close.result v.close.ensures v.unwrap-options.result v.unwrap-options.ensures
          v.in_ok-node-in-Close.node v.close-in-Close.new.self (stack_of v.put.new.self) v.in_ok-node-in-Close.ensures v.put.ensures)
      | in-Comma v ↦ joined T v.closing-is v.frames-is v.last-is (at_comma k r s f i fs fs last d t (x _ c.unwrap.ensures v.in-Comma.is))
    ]

pub returns : goal.returns
returns g c f w = at_end _ _ _ f _ _ _ _ _ w c.loop-place-test.false (c.loop-place.invariant f w)
