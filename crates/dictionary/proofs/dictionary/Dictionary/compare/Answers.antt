-- The tables tell the order, and the store has their nodes.
use Rattle.std.proofs.Common.{inl, inr, arith}
use Rattle.dictionary.proofs.Asking.{compares, compares_not}
use Rattle.dictionary.proofs.dictionary.Dictionary.compare.Goals as goal
use Rattle.dictionary.proofs.dictionary.Dictionary.compare.Goals.{then-a-count-via-then-a-count, then-a-count-via-else-a-count+then-b-count}

pub returns-then-a-count : goal.returns-then-a-count
returns-then-a-count g c =
    let n = c.count-count.ensures.number in
    rw (← c.self.view_is)
    (compares_not (g.S.Store.rows c.self.inside.store) c.self.inside.tables c.self.invariant.0 c.args.a c.args.b
    (elim c.then-a-count.branch [ then-a-count-via-then-a-count w ↦ let h = w.if-a-count.true in inl (omega arith) | then-a-count-via-else-a-count+then-b-count w ↦ let h = w.if-b-count.true in inr (omega arith) ]))

pub returns : goal.returns
returns g c =
    let n = c.count-count.ensures.number in
    let h = c.if-a-count.false in
    let l = c.if-b-count.false in
    rw (← c.self.view_is)
    (compares (g.S.Store.rows c.self.inside.store) c.self.inside.tables c.self.invariant.0 c.args.a c.args.b (omega arith) (omega arith) c.is_as_good-above.result c.is_as_good-below.result
    c.by_play.result (rw (c.from-a.ensures, c.from-b.ensures) at c.is_as_good-above.ensures) (rw (c.from-a.ensures, c.from-b.ensures) at c.is_as_good-below.ensures) c.by_play.ensures.value)
