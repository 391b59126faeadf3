-- What print answers, and what it leaves in the buffer.
-- Assumes nothing.
use Rattle.std.specs.Prelude.{◌≡◌, ℕ, ◌+◌, List, ◌++◌, map, length, take, drop}
use Rattle.games.specs.declared.side.Side.{Side}
use Rattle.games.specs.Numbered.{list_of, each}
use Rattle.games.specs.Text.{byte, texts}
use Rattle.stores.specs.Rows.{row_at}
use Rattle.calls.specs.Rows.{Rows, node}
use Rattle.calls.specs.Answers.{Answer, told, refused, refused_at}
use Rattle.calls.specs.Asking.{Prints}
use Rattle.calls.specs.Runs.{Past, Call, printing}

-- The buffer has what print writes at its front, nothing where print refuses, and is behind that as it was.
pub record Printed (rows : Rows) (n : ℕ) (before : List ℕ) (a : Answer ℕ) (after : List ℕ) : Type 0 where
  pub text : List ℕ
  pub prints : Prints rows n (length before) a text
  pub front : after ≡ text ++ drop (length text) before

-- Print is a call of a run, whatever the calls so far have left, so long as the rows are theirs: the text that the run notes is the front of the buffer
abbrev pub PrintSteps : Rows → ℕ → Answer ℕ → List ℕ → Type 0
PrintSteps rows n (told size) after = (capacity : ℕ) (p : Past) → p.rows ≡ rows
    → Call capacity p (printing p n (take size after))
PrintSteps rows n (refused k) after = (capacity : ℕ) (p : Past) → p.rows ≡ rows → Call capacity p p
PrintSteps rows n (refused_at k place) after = ⊥

-- the texts of a node's options on a side, joined by commas
abbrev pub options_text : Rows → Side → ℕ → List ℕ
options_text rows s n = map byte (texts (each (node rows) (list_of s (row_at rows n))))

-- a list with another written over it from a place on
abbrev pub over : List ℕ → ℕ → List ℕ → List ℕ
over xs place ys = take place xs ++ (ys ++ drop (place + length ys) xs)
