-- The cells of a strip, as characters and as digits.
-- Assumes nothing.
use Rattle.std.specs.Prelude.{◌≡◌, ℕ, ◌<◌, cond, Some, None, Ok, Err, Option, Result, ◌==◌}
use Rattle.std.specs.Option.{ok_or}
use Rattle.toads.specs.declared.cell.NoCell.{NoCell}
pub use Rattle.toads.specs.declared.cell.Cell.{Cell}
pub use Rattle.toads.specs.declared.cell.Cell.TheVariants.{Empty, Toad, Frog}

-- the characters T, F and . (84, 70 and 46) stand for toad, frog and empty
abbrev pub cell_of : ℕ → Option Cell
cell_of c = cond (c == 84) (Some Toad) (cond (c == 70) (Some Frog) (cond (c == 46) (Some Empty) None))

-- the base-4 digit by which a code holds a cell
abbrev pub digit_of : Cell → ℕ
digit_of Empty = 0
digit_of Toad = 1
digit_of Frog = 2

-- a character is read as its cell, and refused when it stands for none
abbrev pub char_read : ℕ → Result Cell NoCell
char_read c = ok_or (cell_of c) (record {})

-- a digit is read as the cell that has it, and refused above 2
abbrev pub DigitRead : ℕ → Result Cell NoCell → Type 0
DigitRead d (Ok x) = digit_of x ≡ d
DigitRead d (Err _) = 2 < d
