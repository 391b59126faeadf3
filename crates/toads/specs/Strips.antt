-- The text of a strip: one character for each cell.
-- Assumes nothing.
use Rattle.std.specs.Prelude.{◌≡◌, ℕ, Bool, suc, ◌+◌, ◌*◌, true, false, cond, List, [], ◌∷◌, length, is_some, Some, None, Ok, Err, Option, Result}
use Rattle.std.specs.Option.{option_map}
use Rattle.std.specs.Result.{is_err}
use Rattle.toads.specs.declared.text.TextFault.{TextFault}
use Rattle.toads.specs.declared.text.TextFault.TheVariants.{Character, Size}
use Rattle.toads.specs.declared.text.Position.{Position}
use Rattle.toads.specs.Cells.{Cell, cell_of, char_read, digit_of}
use Rattle.toads.specs.Toads.{toads}
use Rattle.toads.specs.Making.{sized, strip_rules}

-- the character stands for no cell
abbrev pub no_cell : ℕ → Bool
no_cell c = is_err (char_read c)

-- the place of the first character that stands for no cell
abbrev pub first_wrong : List ℕ → Option ℕ
first_wrong [] = None
first_wrong (c ∷ cs) = cond (is_some (cell_of c)) (option_map suc (first_wrong cs)) (Some 0)

-- the digit of a character's cell
abbrev pub digit_or_none : Option Cell → ℕ
digit_or_none None = 0
digit_or_none (Some x) = digit_of x

abbrev pub char_digit : ℕ → ℕ
char_digit c = digit_or_none (cell_of c)

-- the code of a text: its first character is the lowest digit
abbrev pub code_of : List ℕ → ℕ
code_of [] = 0
code_of (c ∷ cs) = char_digit c + 4 * code_of cs

-- Reading a text: a wrong character is told by its place; then a size beyond 1 to 12 is refused; else the strip has the text's length, and the code its cells.
abbrev pub Read : List ℕ → Result Position TextFault → Type 0
Read text (Ok p) = (first_wrong text ≡ None) × (sized (length text) ≡ true) × (strip_rules p.strip ≡ toads (length text)) × (p.code ≡ code_of text)
Read text (Err (Character i)) = first_wrong text ≡ Some i
Read text (Err Size) = (first_wrong text ≡ None) × (sized (length text) ≡ false)

-- the refusal numbers: 6 for a wrong character, 10 for the size
abbrev pub text_fault_number : TextFault → ℕ
text_fault_number (Character i) = 6
text_fault_number Size = 10
