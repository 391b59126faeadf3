-- The worked boards.
use Rattle.boards.proofs.WorkedBoards.{worked_boards}
use Rattle.boards.proofs.laws.worked_boards_stand.Goals as goal

pub returns : goal.returns
returns c = worked_boards
