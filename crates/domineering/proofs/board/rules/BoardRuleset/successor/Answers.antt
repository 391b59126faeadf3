-- The successor at an index fills the two cells of the domino at that index.
use Rattle.std.proofs.Common.{◌+◌, ◌<◌, Some, sym, ap, ◌∙◌, arith}
use Rattle.domineering.specs.Domineering.{reach}
use Rattle.domineering.specs.Size.{cells_high}
use Rattle.domineering.proofs.Masks.{put}
use Rattle.domineering.specs.Moves.{successor_none, successor_some, found_on}
use Rattle.domineering.proofs.board.rules.BoardRuleset.successor.Goals as goal

pub returns-in_err-first : goal.returns-in_err-first
returns-in_err-first c =
    let b = c.args.self.now in
    let told = c.in_ok-openings.ensures in
    c.from_residual-in_err-first.ensures
    ∙ sym (successor_none b.rows b.columns c.args.code b.small told.0 c.args.side c.in_ok-openings.openings told.1 c.args.index (sym c.nth_bit.ensures ∙ c.in_err-first.was))

-- the second cell of the domino is on the board
room : (c : goal.After-domino) → c.in_ok-first.first + reach c.args.side c.args.self.now.columns < 64
room c =
    let b = c.args.self.now in
    let told = c.in_ok-openings.ensures in
    let on = found_on b.rows b.columns c.args.code b.small told.0 c.args.side c.in_ok-openings.openings told.1 c.args.index c.in_ok-first.first (sym c.nth_bit.ensures ∙ c.in_ok-first.was) in
    omega (arith, on, cells_high b.rows b.columns b.small)

pub overflow_shl-result : goal.overflow_shl-result
overflow_shl-result c = omega (arith, room c)

pub returns : goal.returns
returns c =
    let b = c.args.self.now in
    let told = c.in_ok-openings.ensures in
    ap Some (put c.args.side b.columns c.args.code c.in_ok-first.first c.domino.result c.domino.ensures (room c) (omega arith))
    ∙ sym (successor_some b.rows b.columns c.args.code b.small told.0 c.args.side c.in_ok-openings.openings told.1 c.args.index c.in_ok-first.first (sym c.nth_bit.ensures ∙ c.in_ok-first.was))
