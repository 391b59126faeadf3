use Rattle.calls.proofs.RunLaws.{numbers_tell_games}
use Rattle.calls.proofs.runs.numbers_tell_games.Goals as goal

pub returns : goal.returns
returns c = numbers_tell_games
