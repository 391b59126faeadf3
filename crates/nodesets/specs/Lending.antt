-- A pair that lends the set of one side.
-- Assumes nothing.
use Rattle.std.specs.Borrow.{Lends, MutBor, Fml}
use Rattle.games.specs.declared.side.Side.{Side}
use Rattle.games.specs.declared.side.Side.TheVariants.{Left, Right}
use Rattle.nodesets.specs.declared.nodeset.NodeSet.{NodeSet}
use Rattle.nodesets.specs.declared.pair.Pair.{Pair}
use Rattle.nodesets.specs.contracts.pair.Pair as pair
use Rattle.nodesets.specs.contracts.nodeset.NodeSet as set

-- the pair with another set for the side
abbrev pub with_side : Pair → Side → NodeSet → Pair
with_side p Left s = record p { left = s }
with_side p Right s = record p { right = s }

-- the pair ends with the last set behind r on that side
abbrev pub LendsSide : MutBor Pair → Side → MutBor NodeSet → Fml
LendsSide p side r = Lends pair.the_row set.the_row p r (with_side p.now side)
