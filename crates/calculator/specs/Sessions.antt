-- A line has one answer, and lines are answered alike whatever the store.
-- Assumes nothing.
use Rattle.std.specs.Prelude.{◌≡◌, ℕ, List, [], ◌∷◌}
use Rattle.calls.specs.Rows.{Rows}
use Rattle.calls.specs.Sound.{Sound}
use Rattle.calculator.specs.Replies.{Answers}

-- A line has one answer, and leaves the rows in one way.
abbrev pub OneAnswer : Type 0
OneAnswer = (capacity : ℕ) (rows after later : Rows) (line t u : List ℕ) → Sound rows
    → Answers capacity rows line t after → Answers capacity rows line u later → (t ≡ u) × (after ≡ later)

-- some lines, answered one after the other
pub data Session (capacity : ℕ) : Rows → List (List ℕ) → List (List ℕ) → Rows → Type 0 where
  over : {rows : Rows} → Session capacity rows [] [] rows
  next : {rows between after : Rows} {line t : List ℕ} {lines ts : List (List ℕ)}
      → Answers capacity rows line t between → Session capacity between lines ts after
      → Session capacity rows (line ∷ lines) (t ∷ ts) after

-- Two calculators that begin with room for as many rows, over stores alike or not, answer the same lines alike.
abbrev pub SameAnswers : Type 0
SameAnswers = (capacity : ℕ) (after later : Rows) (lines ts us : List (List ℕ))
    → Session capacity [] lines ts after → Session capacity [] lines us later → (ts ≡ us) × (after ≡ later)
