-- The calculator's lines: what a line says, and the bytes that spell it.
-- Assumes nothing.
use Rattle.std.specs.Prelude.{ℕ, zero, suc, ◌+◌, List, [], ◌∷◌, ◌++◌, map, codes}
use Rattle.std.specs.Int.Digits.{digits_of}
use Rattle.games.specs.Form.{Form}
use Rattle.games.specs.Text.{bytes}
use Rattle.games.specs.declared.side.Side.{Side}
use Rattle.games.specs.declared.side.Side.TheVariants.{Left, Right}

-- at least one item: a first one and a list of more
pub record Items (A : Type 0) : Type 0 where
  pub first : A
  pub more : List A

-- a square of a Domineering board
pub data Square : Type 0 where
  vacant filled : Square

-- a cell of a strip of Toads-and-Frogs
pub data Cell : Type 0 where
  toad frog blank : Cell

-- who may cut an edge of a Hackenbush picture
pub data Colour : Type 0 where
  for_left for_right for_both : Colour

-- an edge joins two vertices, which are any numbers
pub record Edge : Type 0 where
  pub from : ℕ
  pub to : ℕ
  pub colour : Colour

-- rows of squares, cells, or edges
pub data Board : Type 0 where
  domineering : Items (Items Square) → Board
  toads : Items Cell → Board
  hackenbush : Items Edge → Board

-- what is valued or compared
pub data Subject : Type 0 where
  plain : Board → Subject
  minus : Board → Subject
  sum : Board → Board → Subject
  written : Form → Subject

pub data Line : Type 0 where
  value : Subject → Line
  comparison : Subject → Subject → Line
  first_move : Side → Board → Line

-- items after a first one: the separator and then the item, for each
abbrev pub spell_more : {A : Type 0} → List ℕ → (A → List ℕ) → List A → List ℕ
spell_more separator spelt [] = []
spell_more separator spelt (x ∷ xs) = separator ++ (spelt x ++ spell_more separator spelt xs)

abbrev pub spell_items : {A : Type 0} → List ℕ → (A → List ℕ) → Items A → List ℕ
spell_items separator spelt items = spelt items.first ++ spell_more separator spelt items.more

-- a number in decimal digits, the highest first and no zero before it
unfoldable pub numeral : ℕ → List ℕ
numeral zero = codes "0"
numeral (suc n) = map (λ digit. 48 + digit) (digits_of 10 (suc n))

abbrev pub spell_square : Square → List ℕ
spell_square vacant = codes "."
spell_square filled = codes "#"

abbrev pub spell_row : Items Square → List ℕ
spell_row row = spell_items [] spell_square row

abbrev pub spell_cell : Cell → List ℕ
spell_cell toad = codes "T"
spell_cell frog = codes "F"
spell_cell blank = codes "."

abbrev pub spell_colour : Colour → List ℕ
spell_colour for_left = codes "L"
spell_colour for_right = codes "R"
spell_colour for_both = codes "B"

abbrev pub spell_edge : Edge → List ℕ
spell_edge edge = numeral edge.from ++ (codes "-" ++ (numeral edge.to ++ spell_colour edge.colour))

-- a board: its heading, its items, and the closing bracket
abbrev pub heading : Board → List ℕ
heading (domineering rows) = codes "(domineering "
heading (toads cells) = codes "(toads "
heading (hackenbush edges) = codes "(hackenbush "

abbrev pub items_of : Board → List ℕ
items_of (domineering rows) = spell_items (codes "/") spell_row rows
items_of (toads cells) = spell_items [] spell_cell cells
items_of (hackenbush edges) = spell_items (codes ",") spell_edge edges

abbrev pub spell_board : Board → List ℕ
spell_board board = heading board ++ (items_of board ++ codes ")")

abbrev pub spell_subject : Subject → List ℕ
spell_subject (plain board) = spell_board board
spell_subject (minus board) = codes "(minus " ++ (spell_board board ++ codes ")")
spell_subject (sum first second) = codes "(sum " ++ (spell_board first ++ (codes " " ++ (spell_board second ++ codes ")")))
spell_subject (written game) = codes "(form " ++ (bytes game ++ codes ")")

abbrev pub spell_side : Side → List ℕ
spell_side Left = codes "L"
spell_side Right = codes "R"

abbrev pub spell : Line → List ℕ
spell (value subject) = codes "(value " ++ (spell_subject subject ++ codes ")")
spell (comparison first second) = codes "(compare " ++ (spell_subject first ++ (codes " " ++ (spell_subject second ++ codes ")")))
spell (first_move side board) = codes "(move " ++ (spell_side side ++ (codes " " ++ (spell_board board ++ codes ")")))
