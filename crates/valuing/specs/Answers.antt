-- What valuing answers, in the words of the calls.
-- Assumes nothing.
use Rattle.std.specs.Prelude.{ℕ, Ok, Err, Result}
use Rattle.calls.specs.Answers.{Answer, told, refused, refused_at}
use Rattle.dictionary.specs.Faults
use Rattle.valuing.specs.declared.fault.ValueFault.{ValueFault}
use Rattle.valuing.specs.declared.fault.ValueFault.TheVariants.{Illegal, Position}

-- 4 for a code that is not legal, and a fault of the dictionary by its own number
abbrev pub number_of : ValueFault → ℕ
number_of Illegal = 4
number_of (Position c f) = Faults.number_of f

-- a refusal by its number, with the position's code where one was not sealed
abbrev pub refusal : {A : Type 0} → ValueFault → Answer A
refusal Illegal = refused 4
refusal (Position c f) = refused_at (Faults.number_of f) c

abbrev pub answer_at : {A : Type 0} → Result A ValueFault → Answer A
answer_at (Ok n) = told n
answer_at (Err f) = refusal f
