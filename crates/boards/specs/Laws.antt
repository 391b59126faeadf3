-- The theorems on boards, as statements that contracts name.
-- Assumes nothing.
use Rattle.std.specs.Prelude.{◌≡◌, ℕ, ◌+◌, ◌-◌, ◌*◌, ◌^◌, ◌<◌, Bool, true, false, List, Some, None, Option, nat_lt}
use Rattle.std.specs.List.{slice_get}
use Rattle.bits.specs.Bits.{bit}
use Rattle.bits.specs.Digits.{digit}
use Rattle.toads.specs.Cells.{digit_of}
use Rattle.sums.specs.Sums.{fits}
use Rattle.lines.specs.Syntax.{Items, Square, vacant, filled, Cell, Board, domineering, toads}
use Rattle.boards.specs.declared.board.AnyBoard.{AnyBoard}
use Rattle.boards.specs.Boards.{Position, all, even, squares_of, squares_code, held, cells_code, meaning}
use Rattle.boards.specs.AnyBoards.{any_rules}

-- there is a square, and it is filled
abbrev pub is_filled : Option Square → Bool
is_filled None = false
is_filled (Some vacant) = false
is_filled (Some filled) = true

-- Bit i of the code is 1 exactly where square i is filled.
abbrev pub SquaresRead : Type 0
SquaresRead = (squares : List Square) (i : ℕ) → bit (squares_code squares) i ≡ is_filled (slice_get squares i)

abbrev pub square_in : Option (Items Square) → ℕ → Option Square
square_in None x = None
square_in (Some row) x = slice_get (all row) x

-- In rows of c squares, square x of row y is square y × c + x of the board.
abbrev pub RowsRead : Type 0
RowsRead = (c : ℕ) (rows : List (Items Square)) → even c rows ≡ true → (x y : ℕ) → x < c
    → slice_get (squares_of rows) (y * c + x) ≡ square_in (slice_get rows y) x

abbrev pub cell_digit : Option Cell → ℕ
cell_digit None = 0
cell_digit (Some c) = digit_of (held c)

-- Base-4 digit i of the code is that of cell i.
abbrev pub CellsRead : Type 0
CellsRead = (cells : List Cell) (i : ℕ) → digit (cells_code cells) i ≡ cell_digit (slice_get cells i)

-- In the code of n standing edges bit i is 1 exactly where there is an edge i.
abbrev pub EdgesStand : Type 0
EdgesStand = (n i : ℕ) → bit (2 ^ n - 1) i ≡ nat_lt i n

-- The code of a written board is below the limit of its rules.
abbrev pub CodesBelow : Type 0
CodesBelow = (board : Board) (p : Position) → meaning board ≡ Some p → p.code < p.rules.limit

-- Written rows and written cells are legal positions.
-- A written picture is one where every edge is joined to the ground (`LegalWhenJoined` of Hackenbush's Laws).
abbrev pub RowsLegal : Type 0
RowsLegal = (rows : Items (Items Square)) (p : Position) → meaning (domineering rows) ≡ Some p
    → p.rules.legal p.code ≡ true

abbrev pub CellsLegal : Type 0
CellsLegal = (cells : Items Cell) (p : Position) → meaning (toads cells) ≡ Some p
    → p.rules.legal p.code ≡ true

-- Any two boards can be added: their sum keeps to the bounds of a ruleset.
abbrev pub BoardsFit : Type 0
BoardsFit = (a b : AnyBoard) → fits (any_rules a) (any_rules b) ≡ true
