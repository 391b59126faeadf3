use Rattle.calls.proofs.LookUp.{look_up_finds_the_nodes}
use Rattle.calls.proofs.laws.look_up_finds_the_nodes.Goals as goal

pub returns : goal.returns
returns c = look_up_finds_the_nodes
