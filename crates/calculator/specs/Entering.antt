-- Valuing a position that stands at a place of the line.
-- Assumes nothing.
use Rattle.std.specs.Prelude.{◌≡◌, ℕ, List}
use Rattle.rulesets.specs.Rules.{Rules}
use Rattle.calls.specs.Rows.{Rows}
use Rattle.calls.specs.Answers.{Answer}
use Rattle.calls.specs.Entering.{Entry}
use Rattle.calls.specs.Positions.{Values}
use Rattle.calls.specs.Reading.{Reads}
use Rattle.calculator.specs.Subjects.{at_place, from_place}

-- the position is valued, and a refusal stands at the place
pub record ValuedAt (R : Rules) (capacity : ℕ) (rows : Rows) (place code : ℕ) (a : Answer ℕ) (after : Rows) : Type 0 where
  pub plain : Answer ℕ
  pub entries : List Entry
  pub holds : Values R capacity rows code plain after entries
  pub answers : a ≡ at_place place plain

-- a text that begins at the place is read, and a refusal has its own place
pub record ReadAt (capacity : ℕ) (rows : Rows) (place : ℕ) (text : List ℕ) (a : Answer ℕ) (after : Rows) : Type 0 where
  pub plain : Answer ℕ
  pub entries : List Entry
  pub holds : Reads capacity rows text plain after entries
  pub answers : a ≡ from_place place plain
