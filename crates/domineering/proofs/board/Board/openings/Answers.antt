-- A domino fits where its two cells are empty, which a shift of the empty cells finds at once.
use Rattle.std.proofs.Common.{arith}
use Rattle.domineering.specs.Size.{columns_high}
use Rattle.domineering.proofs.Masks.{upright_bit, flat_bit}
use Rattle.domineering.proofs.board.Board.openings.Goals as goal

pub overflow_shr-openings : goal.overflow_shr-openings
overflow_shr-openings c = let b = c.args.self.now in omega (arith, columns_high b.rows b.columns b.small)

pub returns-in-Left : goal.returns-in-Left
returns-in-Left c =
    let b = c.args.self.now in
    let told = c.in_ok-empty.ensures in
    rw c.in-Left.is (told.0, upright_bit b.rows b.columns c.args.code c.in_ok-empty.empty told.1)

pub returns-in-Right : goal.returns-in-Right
returns-in-Right c =
    let b = c.args.self.now in
    let told = c.in_ok-empty.ensures in
    rw c.in-Right.is (told.0, flat_bit b.rows b.columns c.args.code c.in_ok-empty.empty told.1 b.inner b.rowwise)
