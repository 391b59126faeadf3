-- What is done for a line is some calls of a run.
-- Assumes nothing.
use Rattle.std.specs.Prelude.{◌≡◌, ℕ, List}
use Rattle.calls.specs.Rows.{Rows}
use Rattle.calls.specs.Runs.{Past, Calls}
use Rattle.calculator.specs.Replies.{Answers}

-- Whatever the calls so far have left, so long as the rows are theirs, a line is answered by some more calls, which leave the rows that the answer leaves.
-- So what holds of all lists of calls (`OneGameOneNumberOneText` in the specs of drafts) holds of all sessions.
abbrev pub LinesAreCalls : Type 0
LinesAreCalls = (capacity : ℕ) (rows after : Rows) (line t : List ℕ) → Answers capacity rows line t after
    → (p : Past) → p.rows ≡ rows → (q : Past) × Calls capacity p q × (q.rows ≡ after)
