-- What a written board stands for: the rules that it is played by, and the code of the position on it.
-- Assumes nothing.
use Rattle.std.specs.Prelude.{ℕ, ◌+◌, ◌-◌, ◌*◌, ◌^◌, Bool, true, cond, ◌&&◌, List, [], ◌∷◌, map, length, Some, None, Option, ◌==◌}
use Rattle.std.specs.List.{flat_map}
use Rattle.rulesets.specs.Rules.{Rules}
use Rattle.domineering.specs.Domineering.{domineering as domineering_rules, sized as rows_sized}
use Rattle.toads.specs.Cells.{digit_of}
use Rattle.toads.specs.declared.cell.Cell.{Cell as Held}
use Rattle.toads.specs.declared.cell.Cell.TheVariants.{Empty, Toad, Frog}
use Rattle.toads.specs.Toads.{toads as toads_rules}
use Rattle.toads.specs.Making.{sized as strip_sized}
use Rattle.hackenbush.specs.declared.edge.Edge.{Edge as Joint}
use Rattle.hackenbush.specs.declared.edge.Colour.{Colour as Paint}
use Rattle.hackenbush.specs.declared.edge.Colour.TheVariants.{Left, Right, Both}
use Rattle.hackenbush.specs.Hackenbush.{hackenbush as hackenbush_rules, fits}
use Rattle.lines.specs.Syntax.{Items, Square, vacant, filled, Cell, toad, frog, blank, Colour, for_left, for_right, for_both, Edge, Board, domineering, toads, hackenbush}

-- a position: the rules that it is played by, and its code
pub record Position : Type 0 where
  pub rules : Rules
  pub code : ℕ

-- all the items, in their order
abbrev pub all : {A : Type 0} → Items A → List A
all items = items.first ∷ items.more

-- Domineering: rows of one length; square i, counted row by row, is filled where bit i is 1 (`SquaresRead` and `RowsRead` in Laws)
abbrev pub even : ℕ → List (Items Square) → Bool
even c [] = true
even c (row ∷ rows) = length (all row) == c && even c rows

abbrev pub squares_of : List (Items Square) → List Square
squares_of rows = flat_map all rows

abbrev pub square_bit : Square → ℕ
square_bit vacant = 0
square_bit filled = 1

abbrev pub squares_code : List Square → ℕ
squares_code [] = 0
squares_code (s ∷ ss) = square_bit s + 2 * squares_code ss

-- rows of one length, 1 to 30 squares in all
abbrev pub rows_fit : Items (Items Square) → Bool
rows_fit rows = even (length (all rows.first)) (all rows) && rows_sized (length (all rows)) (length (all rows.first))

abbrev pub rows_position : Items (Items Square) → Position
rows_position rows = record { rules = domineering_rules (length (all rows)) (length (all rows.first)); code = squares_code (squares_of (all rows)) }

-- Toads-and-Frogs: base-4 digit i is cell i (`CellsRead` in Laws)
abbrev pub held : Cell → Held
held toad = Toad
held frog = Frog
held blank = Empty

abbrev pub cells_code : List Cell → ℕ
cells_code [] = 0
cells_code (c ∷ cs) = digit_of (held c) + 4 * cells_code cs

abbrev pub cells_position : Items Cell → Position
cells_position cells = record { rules = toads_rules (length (all cells)); code = cells_code (all cells) }

-- Hackenbush: the edges in their order, all of them standing (`EdgesStand` in Laws)
abbrev pub paint : Colour → Paint
paint for_left = Left
paint for_right = Right
paint for_both = Both

abbrev pub joint : Edge → Joint
joint edge = record { from = edge.from; to = edge.to; colour = paint edge.colour }

abbrev pub joints : Items Edge → List Joint
joints edges = map joint (all edges)

abbrev pub edges_position : Items Edge → Position
edges_position edges = record { rules = hackenbush_rules (joints edges); code = 2 ^ length (joints edges) - 1 }

-- what a board stands for: none where its size is beyond the rules
abbrev pub meaning : Board → Option Position
meaning (domineering rows) = cond (rows_fit rows) (Some (rows_position rows)) None
meaning (toads cells) = cond (strip_sized (length (all cells))) (Some (cells_position cells)) None
meaning (hackenbush edges) = cond (fits (joints edges)) (Some (edges_position edges)) None
