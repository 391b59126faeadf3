use Rattle.calls.proofs.RunLaws.{texts_tell_games, texts_are_canonical}
use Rattle.calls.proofs.runs.texts_tell_games.Goals as goal

pub returns : goal.returns
returns c = record { tell = texts_tell_games; canonical = texts_are_canonical }
