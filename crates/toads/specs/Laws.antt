-- The theorems on strips, as statements that contracts name.
-- Assumes nothing.
use Rattle.std.specs.Prelude.{◌≡◌, ℕ, true, ◌≢◌, List, map, length, None}
use Rattle.bits.specs.Digits.{digit}
use Rattle.games.specs.declared.side.Side.{Side}
use Rattle.toads.specs.Cells.{Empty}
use Rattle.toads.specs.Toads.{cells, legal, holds, piece, can_move, target, after}
use Rattle.toads.specs.Strips.{first_wrong, code_of, char_digit}

-- What a move does, from the code before it to the code after it: the piece has gone from cell i into the cell that was empty, and no other cell changes.
pub record MovesPiece (n : ℕ) (s : Side) (i code next : ℕ) : Type 0 where
  pub stood : holds n code (piece s) i ≡ true
  pub was_empty : holds n code Empty (target n code s i) ≡ true
  pub left_empty : holds n next Empty i ≡ true
  pub now_there : holds n next (piece s) (target n code s i) ≡ true
  pub others : (k : ℕ) → k ≢ i → k ≢ target n code s i → digit next k ≡ digit code k

abbrev pub MoveReads : ℕ → Type 0
MoveReads n = (code : ℕ) (s : Side) (i : ℕ) → can_move n code s i ≡ true → MovesPiece n s i code (after n code s i)

-- The code of a text of cells is legal, and its cells are those of the text.
abbrev pub CodeReads : List ℕ → Type 0
CodeReads text = first_wrong text ≡ None → (legal (length text) (code_of text) ≡ true) × (cells (length text) (code_of text) ≡ map char_digit text)
