-- Setting up the boards of a line.
-- Assumes nothing.
use Rattle.std.specs.Prelude.{◌≡◌, ℕ, true, false, ◌⊎◌, is_some, Some, None, Ok, Err, Result}
use Rattle.lines.specs.Syntax.{Board}
use Rattle.boards.specs.Boards.{meaning}
use Rattle.boards.specs.AnyBoards.{any_rules, position}
use Rattle.boards.specs.declared.setup.Setup.{Setup}
use Rattle.calculator.specs.declared.fault.CalculatorFault.{CalculatorFault}
use Rattle.calculator.specs.declared.fault.CalculatorFault.TheVariants.{Illegal}
use Rattle.calculator.specs.Faults.{number_of, place_of}
use Rattle.calculator.specs.Subjects.{is_legal}

-- the board at this place is set up as the position that it stands for, or refused with 10 there
abbrev pub Laid : ℕ → Board → Result Setup CalculatorFault → Type 0
Laid place b (Ok s) = meaning b ≡ Some (position s)
Laid place b (Err f) = (meaning b ≡ None) × (number_of f ≡ 10) × (place_of f ≡ place)

-- the position is legal, or refused with 4 at this place
abbrev pub Permitted : Setup → ℕ → Result (Unit {0}) CalculatorFault → Type 0
Permitted s place (Ok u) = (any_rules s.board).legal s.code ≡ true
Permitted s place (Err f) = ((any_rules s.board).legal s.code ≡ false) × (f ≡ Illegal place)

-- set up and legal
abbrev pub Stood : ℕ → Board → Result Setup CalculatorFault → Type 0
Stood place b (Ok s) = (meaning b ≡ Some (position s)) × ((any_rules s.board).legal s.code ≡ true)
Stood place b (Err f) = (place_of f ≡ place)
    × (((number_of f ≡ 10) × (meaning b ≡ None)) ⊎ ((number_of f ≡ 4) × (is_some (meaning b) ≡ true) × (is_legal (meaning b) ≡ false)))

-- the first of two boards that is refused: sizes come first
pub data RefusedBoth (i : ℕ) (a : Board) (j : ℕ) (b : Board) : ℕ → ℕ → Type 0 where
  first_size : meaning a ≡ None → RefusedBoth i a j b 10 i
  second_size : is_some (meaning a) ≡ true → meaning b ≡ None → RefusedBoth i a j b 10 j
  first_position : is_some (meaning a) ≡ true → is_some (meaning b) ≡ true → is_legal (meaning a) ≡ false
      → RefusedBoth i a j b 4 i
  second_position : is_some (meaning a) ≡ true → is_some (meaning b) ≡ true → is_legal (meaning a) ≡ true
      → is_legal (meaning b) ≡ false → RefusedBoth i a j b 4 j

-- two boards are set up and legal, or one is refused
abbrev pub StoodBoth : ℕ → Board → ℕ → Board → Result (Setup × Setup) CalculatorFault → Type 0
StoodBoth i a j b (Ok s) = Stood i a (Ok s.0) × Stood j b (Ok s.1)
StoodBoth i a j b (Err f) = RefusedBoth i a j b (number_of f) (place_of f)

-- the positions of two boards that were set up are legal
abbrev pub BothLegal : Result (Setup × Setup) CalculatorFault → Type 0
BothLegal (Ok s) = ((any_rules s.0.board).legal s.0.code ≡ true)
    × ((any_rules s.1.board).legal s.1.code ≡ true)
BothLegal (Err f) = Unit {0}
