-- A domino covers cell 0 and the cell that it reaches.
use Rattle.std.proofs.Common.{arith}
use Rattle.domineering.specs.Size.{columns_high}
use Rattle.domineering.proofs.Masks.{upright_domino, flat_domino}
use Rattle.domineering.proofs.board.Board.domino.Goals as goal

pub overflow_shl-result : goal.overflow_shl-result
overflow_shl-result c = let b = c.args.self.now in omega (arith, columns_high b.rows b.columns b.small)

pub returns-in-Left : goal.returns-in-Left
returns-in-Left c i = let b = c.args.self.now in rw c.in-Left.is (upright_domino b.columns (omega (arith, columns_high b.rows b.columns b.small)) i)

pub returns-in-Right : goal.returns-in-Right
returns-in-Right c i = rw c.in-Right.is (flat_domino i)
