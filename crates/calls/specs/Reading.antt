-- The calls on a text: reading it into a dictionary, and looking it up in a frozen one.
-- Assumes nothing.
use Rattle.std.specs.Prelude.{◌≡◌, ℕ, ◌<◌, List, [], ◌∷◌, ◌++◌, length, slice_index}
use Rattle.std.specs.List.{AllByRecursion}
use Rattle.games.specs.Form.{Form}
use Rattle.calls.specs.Rows.{Rows, node}
use Rattle.calls.specs.Answers.{Answer, told, refused_at}
use Rattle.calls.specs.Entering.{Entry, parts, Enters}
use Rattle.calls.specs.Texts.{Written, Fault, closings}

-- Read: a text with a fault is refused before anything is sealed; else its form is entered as written, each part at its closing bracket.
pub data Reads (capacity : ℕ) (rows : Rows) (t : List ℕ) : Answer ℕ → Rows → List Entry → Type 0 where
  faulty : {f place : ℕ} → Fault t f place → Reads capacity rows t (refused_at f place) rows []
  well : {a : Answer ℕ} {after : Rows} {es : List Entry} (g : Form) → Written t g
      → Enters capacity rows g (closings 0 t) a after es → Reads capacity rows t a after es

-- node n's form is g, as written: the two lists are the same, and not only the values
-- (so g's lists of numbers are row n: `RowsAsWritten` in Laws)
pub record Stands (rows : Rows) (g : Form) (n : ℕ) : Type 0 where
  pub inside : n < length rows
  pub as_written : node rows n ≡ g

-- g is the form of some node
pub record Listed (rows : Rows) (g : Form) : Type 0 where
  pub at : ℕ
  pub stands : Stands rows g at

-- Look-up: a text with a fault is refused as in reading; else the number of its form is told, as written,
-- or the first closing bracket is refused whose form is no node's.
pub data LooksUp (rows : Rows) (t : List ℕ) : Answer ℕ → Type 0 where
  faulty : {f place : ℕ} → Fault t f place → LooksUp rows t (refused_at f place)
  listed : (g : Form) (n : ℕ) → Written t g → Stands rows g n → LooksUp rows t (told n)
  missing : (g h : Form) (before behind : List Form) → Written t g → parts g ≡ before ++ h ∷ behind
      → AllByRecursion (Listed rows) before → ¬ Listed rows h
      → LooksUp rows t (refused_at 9 (slice_index (closings 0 t) (length before)))
