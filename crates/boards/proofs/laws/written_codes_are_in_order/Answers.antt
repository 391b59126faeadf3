-- The codes of written boards.
use Rattle.boards.proofs.Legal.{codes_below, rows_legal, cells_legal}
use Rattle.boards.proofs.laws.written_codes_are_in_order.Goals as goal

pub returns : goal.returns
returns c = record { below = codes_below; rows = rows_legal; cells = cells_legal }
