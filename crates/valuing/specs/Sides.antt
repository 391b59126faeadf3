-- The successors of a side are valued in order.
-- Assumes nothing.
use Rattle.std.specs.Prelude.{◌≡◌, ℕ, Bool, true, ◌↔◌, List, take, Some, Ok, Err, Result}
use Rattle.std.specs.List.{slice_get}
use Rattle.games.specs.declared.side.Side.{Side}
use Rattle.rulesets.specs.Rules.{Rules}
use Rattle.calls.specs.Entering.{Entry}
use Rattle.calls.specs.Rows.{Rows, ◌among◌}
use Rattle.calls.specs.Valuing.{Valuing}
use Rattle.valuing.specs.declared.fault.ValueFault.{ValueFault}
use Rattle.valuing.specs.Answers.{refusal}
use Rattle.valuing.specs.Valued.{Entered}

-- the numbers of the list are those of the set
abbrev pub Are : List ℕ → (ℕ → Bool) → Type 0
Are ns p = (k : ℕ) → (k among ns) ↔ (p k ≡ true)

-- the successors ms have been valued, and their numbers are those of the set
pub record SoFar (R : Rules) (c : ℕ) (a : Rows) (ms : List ℕ) (p : ℕ → Bool) (b : Rows) : Type 0 where
  pub numbers : List ℕ
  pub are : Are numbers p
  pub entries : List Entry
  pub holds : Valuing R c a ms numbers b entries

-- all successors of the side have been valued, or those before one that was refused
pub data Turned (R : Rules) (c : ℕ) (a : Rows) (s : Side) (code : ℕ) (q : ℕ → Bool) (b : Rows) : Result (Unit {0}) ValueFault → Type 0 where
  all : SoFar R c a (R.moves s code) q b → Turned R c a s code q b (Ok tt)
  stopped : {f : ValueFault} (i m : ℕ) (p : ℕ → Bool) (d : Rows) → SoFar R c a (take i (R.moves s code)) p d
      → Some m ≡ slice_get (R.moves s code) i → Entered R c d m (refusal f) b
      → Turned R c a s code q b (Err f)
