use Rattle.examples.proofs.Positions.{worked_positions}
use Rattle.examples.proofs.worked_positions_stand.Goals as goal

pub returns : goal.returns
returns c = worked_positions
