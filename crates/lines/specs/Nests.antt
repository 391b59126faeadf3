-- What is to come in a text.
-- Assumes nothing.
use Rattle.std.specs.Prelude.{List, ◌∷◌, map, reverse}
use Rattle.games.specs.declared.side.Side.TheVariants.{Left, Right}
use Rattle.calls.specs.declared.nest.Nest.{Nest}
use Rattle.calls.specs.declared.nest.TextSpot.{TextSpot}
use Rattle.calls.specs.declared.nest.TextSpot.TheVariants.{Form, Start, After}
use Rattle.lines.specs.Machine.{Symbol, text, in_left, after_left, in_right, after_right}

-- the symbol of a place
abbrev pub symbol : TextSpot → Symbol
symbol Form = text
symbol (Start Left) = in_left
symbol (Start Right) = in_right
symbol (After Left) = after_left
symbol (After Right) = after_right

-- those of the place where a reader stands, and of the brackets outside
abbrev pub stack : Nest → List Symbol
stack nest = symbol nest.spot ∷ map symbol (reverse nest.outside.items)
