-- The faults that the calculator writes: their numbers and places.
-- Assumes nothing.
use Rattle.std.specs.Prelude.{ℕ, Ok, Err, Result}
use Rattle.rulesets.specs.Faults as Rulesets
use Rattle.dictionary.specs.Faults as Dictionaries
use Rattle.calls.specs.Answers.{Answer, told, refused_at}
use Rattle.calls.specs.Faults as Calls
use Rattle.valuing.specs.Answers as Valuing
use Rattle.reading.specs.Faults.{read_number}
use Rattle.calculator.specs.declared.fault.BufferFault.{BufferFault}
use Rattle.calculator.specs.declared.fault.BufferFault.TheVariants.{Short}
use Rattle.calculator.specs.declared.fault.CalculatorFault.{CalculatorFault}
use Rattle.calculator.specs.declared.fault.CalculatorFault.TheVariants.{LongLine, Line, Board, Illegal, Position, Text, Dictionary, Print}

-- 13 for a line that is too long, 4 for a position that is not legal, and any other fault by its own number
abbrev pub number_of : CalculatorFault → ℕ
number_of LongLine = 13
number_of (Line f) = Calls.number_of f
number_of (Board i f) = Rulesets.fault_number f
number_of (Illegal i) = 4
number_of (Position i f) = Valuing.number_of f
number_of (Text i f) = read_number f
number_of (Dictionary f) = Dictionaries.number_of f
number_of (Print f) = Dictionaries.print_fault_number f

-- its place in the line: a line that is too long at 1,000, an answer that does not fit at 0
abbrev pub place_of : CalculatorFault → ℕ
place_of LongLine = 1000
place_of (Line f) = Calls.place_of f
place_of (Board i f) = i
place_of (Illegal i) = i
place_of (Position i f) = i
place_of (Text i f) = i
place_of (Dictionary f) = 0
place_of (Print f) = 0

-- what is told, or a refusal by its number and place
abbrev pub answer_of : {A : Type 0} → Result A CalculatorFault → Answer A
answer_of (Ok x) = told x
answer_of (Err f) = refused_at (number_of f) (place_of f)

-- a buffer that is too short is refused with 14
abbrev pub buffer_fault_number : BufferFault → ℕ
buffer_fault_number Short = 14
