-- What the calculator leaves in a buffer.
-- Assumes nothing.
use Rattle.std.specs.Prelude.{◌≡◌, ℕ, ◌<◌, ◌≤◌, List, ◌++◌, length, drop, Ok, Err, Result}
use Rattle.calls.specs.Rows.{Rows}
use Rattle.lines.specs.Syntax.{Line}
use Rattle.calculator.specs.declared.fault.BufferFault.{BufferFault}
use Rattle.calculator.specs.declared.fault.BufferFault.TheVariants.{Short}
use Rattle.calculator.specs.declared.fault.CalculatorFault.{CalculatorFault}
use Rattle.calculator.specs.Faults.{number_of, place_of}
use Rattle.calculator.specs.Replies.{fault_text, value_text, Replies, Answers}

-- the text is at the front of the buffer, which is behind it as it was
abbrev pub AtFront : List ℕ → List ℕ → List ℕ → Type 0
AtFront before text after = after ≡ text ++ drop (length text) before

-- the value of a node is written, or is too long and refused with 5 at 0
abbrev pub WroteValue : Rows → ℕ → List ℕ → List ℕ → Result ℕ CalculatorFault → Type 0
WroteValue rows n before after (Ok l) = (l ≡ length (value_text rows n)) × (l ≤ 4096)
    × AtFront before (value_text rows n) after
WroteValue rows n before after (Err f) = (number_of f ≡ 5) × (place_of f ≡ 0)
    × (4096 < length (value_text rows n)) × (after ≡ before)

-- what is asked for is written, and its length told; or there is a fault to be written, and nothing was
pub data Replied (capacity : ℕ) (rows : Rows) (l : Line) (before after : List ℕ) (later : Rows) : Result ℕ CalculatorFault → Type 0 where
  told : {n : ℕ} (t : List ℕ) → Replies capacity rows l t later → n ≡ length t → length t ≤ 4096
      → AtFront before t after → Replied capacity rows l before after later (Ok n)
  faulty : (f : CalculatorFault) → Replies capacity rows l (fault_text (number_of f) (place_of f)) later
      → after ≡ before → Replied capacity rows l before after later (Err f)

-- the same of any line
pub data Handled (capacity : ℕ) (rows : Rows) (line before after : List ℕ) (later : Rows) : Result ℕ CalculatorFault → Type 0 where
  told : {n : ℕ} (t : List ℕ) → Answers capacity rows line t later → n ≡ length t → length t ≤ 4096
      → AtFront before t after → Handled capacity rows line before after later (Ok n)
  faulty : (f : CalculatorFault) → Answers capacity rows line (fault_text (number_of f) (place_of f)) later
      → after ≡ before → Handled capacity rows line before after later (Err f)

-- A line is answered: a buffer under 4,096 bytes is refused and left; else the answer is at its front, its length is told, and the rest is left.
pub data Answered (capacity : ℕ) (rows : Rows) (line before after : List ℕ) (later : Rows) : Result ℕ BufferFault → Type 0 where
  too_short : length before < 4096 → after ≡ before → later ≡ rows
      → Answered capacity rows line before after later (Err Short)
  written : {n : ℕ} (t : List ℕ) → 4096 ≤ length before → Answers capacity rows line t later → n ≡ length t
      → AtFront before t after → Answered capacity rows line before after later (Ok n)
