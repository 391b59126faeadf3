-- The mover at an index is the bit at that index, and its move is the successor.
use Rattle.std.proofs.Common.{Some, sym, ap, ◌∙◌}
use Rattle.toads.proofs.Holding.{mover_at, mover_none}
use Rattle.toads.proofs.strip.rules.StripRuleset.successor.Goals as goal

pub returns-in_err-place : goal.returns-in_err-place
returns-in_err-place c =
    let l = c.in_ok-lineup.lineup in
    let same = c.in_ok-lineup.ensures in
    c.from_residual-in_err-place.ensures
    ∙ rw (← same.0, ← same.1) (mover_none l.cells l.code c.args.side c.movers.result l.few c.movers.ensures l.legal c.args.index (sym c.in_err-place.was ∙ c.nth_bit.ensures))

pub moved-requires : goal.moved-requires
moved-requires c =
    let l = c.in_ok-lineup.lineup in
    (mover_at l.cells l.code c.args.side c.movers.result l.few c.movers.ensures l.legal c.args.index c.in_ok-place.place (sym c.in_ok-place.was ∙ c.nth_bit.ensures)).moves

pub returns : goal.returns
returns c =
    let l = c.in_ok-lineup.lineup in
    let same = c.in_ok-lineup.ensures in
    ap Some c.moved.ensures
    ∙ rw (← same.0, ← same.1) (mover_at l.cells l.code c.args.side c.movers.result l.few c.movers.ensures l.legal c.args.index c.in_ok-place.place (sym c.in_ok-place.was ∙ c.nth_bit.ensures)).leads
