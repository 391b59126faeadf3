-- The test decides what is joined.
use Rattle.hackenbush.specs.Reaching.{reach_is_joined}
use Rattle.hackenbush.proofs.laws.reach_is_joined.Goals as goal

pub returns : goal.returns
returns c = reach_is_joined
