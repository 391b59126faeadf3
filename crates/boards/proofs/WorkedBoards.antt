-- The worked boards, by computation.
-- Assumes nothing.
use Rattle.std.proofs.Common.{refl}
use Rattle.lines.specs.Syntax.{numeral}
use Rattle.boards.specs.Worked.{WorkedBoards}

pub worked_boards : WorkedBoards
unfolding numeral
worked_boards = record {
  rows = record { spelt = refl; meant = refl };
  uneven = record { spelt = refl; meant = refl };
  strip = record { spelt = refl; meant = refl };
  edges = record { spelt = refl; meant = refl };
  far = record { spelt = refl; meant = refl };
}
