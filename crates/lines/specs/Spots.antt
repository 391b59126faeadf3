-- The spots of a board's items, as symbols of the machine.
-- Assumes nothing.
use Rattle.std.specs.Prelude.{List, [], ◌∷◌}
use Rattle.lines.specs.Machine.{Symbol, just, squares, more_squares, cells, more_cells, from, from_digits, to, to_digits, colour, more_edges}
use Rattle.lines.specs.declared.spot.EdgeSpot.{EdgeSpot}
use Rattle.lines.specs.declared.spot.EdgeSpot.TheVariants.{From, Dash, FromDigits, To, Colour, ToDigits, MoreEdges}
use Rattle.lines.specs.declared.spot.Spot.{Spot}
use Rattle.lines.specs.declared.spot.Spot.TheVariants.{Square, MoreSquares, Cell, MoreCells, Edge}

abbrev pub edge_symbols : EdgeSpot → List Symbol
edge_symbols From = from ∷ []
edge_symbols Dash = just 45 ∷ to ∷ []
edge_symbols FromDigits = from_digits ∷ []
edge_symbols To = to ∷ []
edge_symbols Colour = colour ∷ []
edge_symbols ToDigits = to_digits ∷ []
edge_symbols MoreEdges = more_edges ∷ []

abbrev pub symbols : Spot → List Symbol
symbols Square = squares ∷ []
symbols MoreSquares = more_squares ∷ []
symbols Cell = cells ∷ []
symbols MoreCells = more_cells ∷ []
symbols (Edge spot) = edge_symbols spot
