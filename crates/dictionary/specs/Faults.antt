-- What a call of the dictionary answers, in the words of the calls.
-- Assumes nothing.
use Rattle.std.specs.Prelude.{ℕ, Ok, Err, Result}
use Rattle.sealing.specs.declared.seal.SealFault.{SealFault}
use Rattle.sealing.specs.declared.seal.SealFault.TheVariants
use Rattle.stores.specs.Faults
use Rattle.calls.specs.Answers.{Answer, told, refused}
use Rattle.dictionary.specs.declared.fault.DictionaryFault.{DictionaryFault}
use Rattle.dictionary.specs.declared.fault.DictionaryFault.TheVariants.{Unknown, Wide, Store}
use Rattle.dictionary.specs.declared.fault.PrintFault.{PrintFault}
use Rattle.dictionary.specs.declared.fault.PrintFault.TheVariants.{Long, Unknown as NoNode}

-- 1 for a number that is not a node's, 2 for a form that is too wide, and a fault of the store by its own number
abbrev pub number_of : DictionaryFault → ℕ
number_of Unknown = 1
number_of Wide = 2
number_of (Store f) = Faults.number_of f

-- a refused seal, as a fault of the dictionary
abbrev pub seal_fault : SealFault → DictionaryFault
seal_fault TheVariants.Unknown = Unknown
seal_fault TheVariants.Wide = Wide

-- what is told, or a refusal by its number
abbrev pub answer_of : {A : Type 0} → Result A DictionaryFault → Answer A
answer_of (Ok x) = told x
answer_of (Err f) = refused (number_of f)

-- 1 for a number that is not a node's, and 5 for a text that is too long
abbrev pub print_fault_number : PrintFault → ℕ
print_fault_number NoNode = 1
print_fault_number Long = 5

-- what print tells, or a refusal by its number
abbrev pub print_answer : Result ℕ PrintFault → Answer ℕ
print_answer (Ok n) = told n
print_answer (Err f) = refused (print_fault_number f)
