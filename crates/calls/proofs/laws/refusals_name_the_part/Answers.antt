use Rattle.calls.proofs.Positions.{order_law}
use Rattle.calls.proofs.Texts.{closings_parts}
use Rattle.calls.proofs.laws.refusals_name_the_part.Goals as goal

pub returns : goal.returns
returns c = (order_law, closings_parts)
