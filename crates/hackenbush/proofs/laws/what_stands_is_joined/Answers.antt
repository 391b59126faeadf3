-- What stands after the fall, and in a legal code, is joined.
use Rattle.hackenbush.specs.Standing.{fall_keeps_joined, legal_when_joined}
use Rattle.hackenbush.proofs.laws.what_stands_is_joined.Goals as goal

pub returns : goal.returns
returns c = record { falls = fall_keeps_joined; legal = legal_when_joined }
