-- A text is read, with some entries made.
-- Assumes nothing.
use Rattle.std.specs.Prelude.{◌≡◌, ℕ, ◌<◌, List, length, Ok, Result}
use Rattle.games.specs.Text.{bytes}
use Rattle.calls.specs.Answers.{Answer}
use Rattle.calls.specs.Entering.{Entry}
use Rattle.calls.specs.Reading.{Reads}
use Rattle.calls.specs.Rows.{Rows, node}
use Rattle.calls.specs.Runs.{Past, Call, grown}
use Rattle.calls.specs.Texts.{Shallow}
use Rattle.reading.specs.Faults.{ReadFault}

pub record TextRead (capacity : ℕ) (rows : Rows) (t : List ℕ) (a : Answer ℕ) (after : Rows) : Type 0 where
  pub entries : List Entry
  pub holds : Reads capacity rows t a after entries

-- Read is a call of a run, whatever the calls so far have left, so long as the rows are theirs: the run gains just the entries that are made.
abbrev pub ReadSteps : ℕ → Rows → List ℕ → Answer ℕ → Rows → Type 0
ReadSteps capacity rows t a after = (p : Past) → p.rows ≡ rows → (es : List Entry)
    × Reads capacity rows t a after es × Call capacity p (grown p after es)

-- the text of a node, nested at most 96 deep, is read as that node, and no row is added
abbrev pub ReadsBack : Rows → List ℕ → Result ℕ ReadFault → Rows → Type 0
ReadsBack rows t r after = (n : ℕ) → n < length rows → bytes (node rows n) ≡ t → Shallow t → (r ≡ Ok n)
    × (after ≡ rows)
