use Rattle.stores.proofs.Lowest.{lowest_finds}
use Rattle.stores.proofs.laws.lowest_finds.Goals as goal

pub returns : goal.returns
returns c = lowest_finds
