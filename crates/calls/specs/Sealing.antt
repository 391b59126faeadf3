-- Sealing a form, and sealing two sets of numbers.
-- Assumes nothing.
use Rattle.std.specs.Prelude.{ℕ, suc, ◌<◌, ◌≤◌, [], ◌∷◌, ◌++◌, length}
use Rattle.games.specs.Form.{Form, Forms, ∅, ◌&◌, lefts, rights}
use Rattle.games.specs.Numbered.{Lists, form_by}
use Rattle.games.specs.Order.{◌≈◌}
use Rattle.games.specs.Canon.{Canonical}
use Rattle.calls.specs.Rows.{Rows, node, Below}
use Rattle.calls.specs.Answers.{Answer, told, refused}

-- h is the canonical form of g: there is exactly one
pub record CanonicalFormOf (g h : Form) : Type 0 where
  pub is_canonical : Canonical h
  pub same_value : h ≈ g

-- how many forms stand in a list
abbrev pub count : Forms → ℕ
count ∅ = 0
count (x & xs) = suc (count xs)

-- at most 16 options on each side
pub record Narrow (h : Form) : Type 0 where
  pub on_left : count (lefts h) ≤ 16
  pub on_right : count (rights h) ≤ 16

-- no node equals g in value
abbrev pub New : Rows → Form → Type 0
New rows g = (n : ℕ) → n < length rows → ¬ (node rows n ≈ g)

-- The form g is sealed in the rows of a store of the given capacity: the number told, or 2 or 3, and the rows after.
-- All goes by the value of g alone (`SealingGoesByValue` in Laws).
pub data Seals (capacity : ℕ) (rows : Rows) (g : Form) : Answer ℕ → Rows → Type 0 where
  -- a node that equals g is told, and nothing is added
  found : (n : ℕ) → n < length rows → node rows n ≈ g → Seals capacity rows g (told n) rows
  -- else the row whose form is the canonical form of g is appended
  added : New rows g → (r : Lists) → Below (length rows) r → CanonicalFormOf g (form_by (node rows) r)
      → Narrow (form_by (node rows) r) → length rows < capacity
      → Seals capacity rows g (told (length rows)) (rows ++ r ∷ [])
  -- unless it is too wide, or the store is full
  too_wide : New rows g → (h : Form) → CanonicalFormOf g h → ¬ Narrow h
      → Seals capacity rows g (refused 2) rows
  no_place : New rows g → (h : Form) → CanonicalFormOf g h → Narrow h → capacity ≤ length rows
      → Seals capacity rows g (refused 3) rows

-- Two sets of numbers are sealed: the form whose options are those nodes' forms is sealed, unless a number is not a node's.
-- (The sets are given as lists: neither order nor repeats matter, `SealingGoesByMembers` in Laws.)
pub data SealsNumbers (capacity : ℕ) (rows : Rows) (d : Lists) : Answer ℕ → Rows → Type 0 where
  unknown : ¬ Below (length rows) d → SealsNumbers capacity rows d (refused 1) rows
  known : {a : Answer ℕ} {after : Rows} → Below (length rows) d
      → Seals capacity rows (form_by (node rows) d) a after → SealsNumbers capacity rows d a after
