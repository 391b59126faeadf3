-- A position is valued, with some entries made.
-- Assumes nothing.
use Rattle.std.specs.Prelude.{ℕ, List}
use Rattle.rulesets.specs.Rules.{Rules, game}
use Rattle.calls.specs.Answers.{Answer}
use Rattle.calls.specs.Entering.{Entry, Enters}
use Rattle.calls.specs.Positions.{Values, order}
use Rattle.calls.specs.Rows.{Rows}

-- the game of a position is entered
pub record Entered (R : Rules) (capacity : ℕ) (rows : Rows) (code : ℕ) (a : Answer ℕ) (after : Rows) : Type 0 where
  pub entries : List Entry
  pub holds : Enters capacity rows (game R code) (order R code) a after entries

-- a code is valued
pub record Valued (R : Rules) (capacity : ℕ) (rows : Rows) (code : ℕ) (a : Answer ℕ) (after : Rows) : Type 0 where
  pub entries : List Entry
  pub holds : Values R capacity rows code a after entries
