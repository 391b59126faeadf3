-- Value and first move are calls of a run, whatever the calls so far have left, so long as the rows are theirs: the run gains just the entries that are made.
-- Assumes nothing.
use Rattle.std.specs.Prelude.{◌≡◌, ℕ, List, Option}
use Rattle.games.specs.declared.side.Side.{Side}
use Rattle.rulesets.specs.Rules.{Rules}
use Rattle.calls.specs.Answers.{Answer}
use Rattle.calls.specs.Entering.{Entry}
use Rattle.calls.specs.Positions.{FirstMoves, Values}
use Rattle.calls.specs.Rows.{Rows}
use Rattle.calls.specs.Runs.{Past, Call, grown}

-- the value of a code
abbrev pub ValueSteps : Rules → ℕ → Rows → ℕ → Answer ℕ → Rows → Type 0
ValueSteps R capacity rows code a after = (p : Past) → p.rows ≡ rows → (es : List Entry)
    × Values R capacity rows code a after es × Call capacity p (grown p after es)

-- a first move of a side
abbrev pub FirstMoveSteps : Rules → ℕ → Rows → Side → ℕ → Answer (Option ℕ) → Rows → Type 0
FirstMoveSteps R capacity rows s code a after = (p : Past) → p.rows ≡ rows → (es : List Entry)
    × FirstMoves R capacity rows s code a after es × Call capacity p (grown p after es)
