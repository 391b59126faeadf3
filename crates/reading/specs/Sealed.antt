-- A bracket that closes is sealed.
-- Assumes nothing.
use Rattle.std.specs.Prelude.{◌≡◌, ℕ, Ok, Err, Result}
use Rattle.games.specs.Numbered.{Lists}
use Rattle.calls.specs.Sealing.{SealsNumbers}
use Rattle.calls.specs.Sound.{Sound}
use Rattle.dictionary.specs.declared.fault.DictionaryFault.{DictionaryFault}
use Rattle.dictionary.specs.Faults.{answer_of}
use Rattle.dictionary.specs.Holding.{Holding}
use Rattle.reading.specs.declared.fault.FormFault.TheVariants.{Bracket}
use Rattle.reading.specs.Faults.{ReadFault}

-- what sealing answers for the bracket that closes at a place
abbrev pub placed : ℕ → Result ℕ DictionaryFault → Result ℕ ReadFault
placed place (Ok n) = Ok n
placed place (Err f) = Err (Bracket place f)

-- The bracket with the numbers l, which closes at the place, is sealed.
pub record Closed (before : Holding) (l : Lists) (place : ℕ) (r : Result ℕ ReadFault) (after : Holding) : Type 0 where
  pub answer : Result ℕ DictionaryFault
  pub seals : SealsNumbers before.room before.rows l (answer_of answer) after.rows
  pub is : r ≡ placed place answer
  pub room : after.room ≡ before.room
  pub sound : Sound before.rows
