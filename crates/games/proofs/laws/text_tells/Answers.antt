use Rattle.games.proofs.Text.{bytes_injective}
use Rattle.games.proofs.laws.text_tells.Goals as goal

pub returns : goal.returns
returns c = bytes_injective
