-- Boards worked by hand: what is written, and what it stands for.
-- Assumes nothing.
use Rattle.std.specs.Prelude.{◌≡◌, ℕ, List, [], ◌∷◌, Some, None, codes, Option}
use Rattle.domineering.specs.Domineering.{domineering as domineering_rules}
use Rattle.toads.specs.Toads.{toads as toads_rules}
use Rattle.hackenbush.specs.declared.edge.Colour.TheVariants.{Left, Right}
use Rattle.hackenbush.specs.Hackenbush.{hackenbush as hackenbush_rules}
use Rattle.lines.specs.Syntax.{vacant, filled, toad, frog, blank, for_left, for_right, for_both, Board, domineering, toads, hackenbush, items_of}
use Rattle.boards.specs.Boards.{Position, meaning}

-- the board is written so, and stands for this position, or for none
pub record Worked (board : Board) (text : List ℕ) (position : Option Position) : Type 0 where
  pub spelt : items_of board ≡ text
  pub meant : meaning board ≡ position

abbrev pub corner_filled : Board
corner_filled = domineering (record { first = record { first = filled; more = vacant ∷ [] }; more = record { first = vacant; more = vacant ∷ [] } ∷ [] })

abbrev pub uneven_rows : Board
uneven_rows = domineering (record { first = record { first = vacant; more = [] }; more = record { first = vacant; more = vacant ∷ [] } ∷ [] })

abbrev pub toad_meets_frog : Board
toad_meets_frog = toads (record { first = toad; more = frog ∷ blank ∷ [] })

abbrev pub stalk : Board
stalk = hackenbush (record { first = record { from = 0; to = 1; colour = for_left }; more = record { from = 1; to = 2; colour = for_right } ∷ [] })

abbrev pub far_vertex : Board
far_vertex = hackenbush (record { first = record { from = 0; to = 16; colour = for_both }; more = [] })

pub record WorkedBoards : Type 0 where
  pub rows : Worked corner_filled (codes "#./..") (Some (record { rules = domineering_rules 2 2; code = 1 }))
  pub uneven : Worked uneven_rows (codes "./..") None
  pub strip : Worked toad_meets_frog (codes "TF.") (Some (record { rules = toads_rules 3; code = 9 }))
  pub edges : Worked stalk (codes "0-1L,1-2R") (Some (record { rules = hackenbush_rules (record { from = 0; to = 1; colour = Left } ∷ record { from = 1; to = 2; colour = Right } ∷ []); code = 3 }))
  pub far : Worked far_vertex (codes "0-16B") None
