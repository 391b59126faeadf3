-- The empty cells are the bits of the full board that the code lacks.
use Rattle.std.proofs.Common.{◌*◌, arith}
use Rattle.domineering.specs.Domineering.{legal, free}
use Rattle.domineering.proofs.Masks.{told_when, empty_bit}
use Rattle.domineering.proofs.board.Board.empty.Goals as goal

pub returns : goal.returns
returns c =
    let b = c.args.self.now in
    rw (c.then_some.ensures, c.is_legal.ensures) (told_when (legal b.rows b.columns c.args.code) (free (b.rows * b.columns) c.args.code) _ (empty_bit b.rows b.columns b.full c.args.code b.small b.whole (omega arith)))
