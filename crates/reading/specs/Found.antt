-- A bracket that closes is looked up, and what a look-up finds.
-- Assumes nothing.
use Rattle.std.specs.Prelude.{◌≡◌, ℕ, ◌<◌, ◌↔◌, List, length, Ok, Result}
use Rattle.std.specs.Option.{ok_or}
use Rattle.games.specs.Numbered.{Lists}
use Rattle.games.specs.Text.{bytes}
use Rattle.stores.specs.Rows.{lowest}
use Rattle.calls.specs.Rows.{Rows, node}
use Rattle.calls.specs.Sound.{Sound}
use Rattle.calls.specs.Texts.{Shallow}
use Rattle.reading.specs.declared.fault.FormFault.TheVariants.{Bracket}
use Rattle.reading.specs.Faults.{LookUpFault}

-- the form of the bracket that closes at the place is no node's
abbrev pub missing : ℕ → LookUpFault
missing place = Bracket place (record {})

-- The bracket with the numbers l, which closes at the place, is looked for among the rows, which stay.
pub record Found (before : Rows) (l : Lists) (place : ℕ) (r : Result ℕ LookUpFault) (after : Rows) : Type 0 where
  pub is : r ≡ ok_or (lowest before l) (missing place)
  pub rows : after ≡ before
  pub sound : Sound before

-- a text nested at most 96 deep is found exactly when it is the text of a node, and then that node is told
abbrev pub FindsNodes : Rows → List ℕ → Result ℕ LookUpFault → Type 0
FindsNodes rows t r = Shallow t → (n : ℕ) → (r ≡ Ok n) ↔ ((n < length rows) × (bytes (node rows n) ≡ t))
