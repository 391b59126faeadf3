-- The two players, Left and Right, so that what holds of both is said once.
-- Assumes nothing.
use Rattle.games.specs.Form.{Form, Forms, form, lefts, rights}
pub use Rattle.games.specs.declared.side.Side.{Side}
pub use Rattle.games.specs.declared.side.Side.TheVariants.{Left, Right}

-- the other player
abbrev pub other : Side → Side
other Left = Right
other Right = Left

-- the options of a side
abbrev pub options : Side → Form → Forms
options Left g = lefts g
options Right g = rights g

-- g with other options on one side
abbrev pub with_options : Side → Forms → Form → Form
with_options Left xs g = form xs (rights g)
with_options Right xs g = form (lefts g) xs
