-- The faults of a text, in the words of the calls.
-- Assumes nothing.
use Rattle.std.specs.Prelude.{ℕ, Ok, Err, Result}
use Rattle.calls.specs.Answers.{Answer, told, refused_at}
use Rattle.calls.specs.Faults.{number_of, place_of}
use Rattle.dictionary.specs.declared.fault.DictionaryFault.{DictionaryFault}
use Rattle.dictionary.specs.Faults
use Rattle.reading.specs.declared.fault.FormFault.{FormFault}
use Rattle.reading.specs.declared.fault.FormFault.TheVariants.{Text, Bracket}
use Rattle.reading.specs.declared.fault.NoRow.{NoRow}

-- why a text is not read: its own fault, or a bracket that is not sealed
abbrev pub ReadFault : Type 0
ReadFault = FormFault DictionaryFault

-- why a text is not found: its own fault, or a bracket that is no row
abbrev pub LookUpFault : Type 0
LookUpFault = FormFault NoRow

-- the place of the text's fault, or of the closing bracket
abbrev pub fault_place : {E : Type 0} → FormFault E → ℕ
fault_place (Text f) = place_of f
fault_place (Bracket p f) = p

-- reading passes on the fault of the text, or of a closing bracket that is not sealed
abbrev pub read_number : ReadFault → ℕ
read_number (Text f) = number_of f
read_number (Bracket p f) = Faults.number_of f

abbrev pub read_answer : Result ℕ ReadFault → Answer ℕ
read_answer (Ok n) = told n
read_answer (Err f) = refused_at (read_number f) (fault_place f)

-- look-up passes on the fault of the text; 9 for a closing bracket whose form is no node's
abbrev pub look_up_number : LookUpFault → ℕ
look_up_number (Text f) = number_of f
look_up_number (Bracket p f) = 9

abbrev pub look_up_answer : Result ℕ LookUpFault → Answer ℕ
look_up_answer (Ok n) = told n
look_up_answer (Err f) = refused_at (look_up_number f) (fault_place f)
