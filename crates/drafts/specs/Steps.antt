-- Each call is a call of a run: whatever the calls so far have left, so long as the rows are theirs, and a draft of theirs has what the draft holds.
-- (Print is in the dictionary's specs, `PrintSteps`.)
-- Assumes nothing.
use Rattle.std.specs.Prelude.{◌≡◌, ℕ, suc, ◌<◌, List, Option}
use Rattle.games.specs.declared.side.Side.{Side}
use Rattle.games.specs.Numbered.{Lists}
use Rattle.rulesets.specs.Rules.{Rules, Lawful}
use Rattle.calls.specs.Rows.{Rows}
use Rattle.calls.specs.Answers.{Answer}
use Rattle.calls.specs.Drafts.{Puts}
use Rattle.calls.specs.Runs.{Past, Call, grown, holding, opened, abandoned, sealed}
use Rattle.reading.specs.TextRead.{TextRead}
use Rattle.valuing.specs.Moved.{Moved}
use Rattle.valuing.specs.Valued.{Valued}
use Rattle.drafts.specs.declared.draft.Draft.{Draft}
use Rattle.drafts.specs.Holding.{Holds}

-- A call of a run leads from p to q: the store has the rows of q, and the draft holds what draft i of q has.
pub record Step (capacity : ℕ) (p q : Past) (i : ℕ) (store : Rows) (d : Draft) : Type 0 where
  pub call : Call capacity p q
  pub rows : q.rows ≡ store
  pub draft : Holds d (q.drafts i)

-- Open is shown no slip, and hands one out
abbrev pub OpenSteps : Draft → Type 0
OpenSteps after = (capacity : ℕ) (p : Past) (i : ℕ) → Step capacity p (opened p i) i p.rows after

-- Put is shown a slip that is not spent
abbrev pub PutSteps : Draft → Side → ℕ → Answer (Unit {0}) → Draft → Type 0
PutSteps before s n a after = (capacity : ℕ) (p : Past) (i : ℕ) → 0 < p.slips → Holds before (p.drafts i)
    → (d : Lists) × Puts s n (p.drafts i) a d × Step capacity p (holding p i d p.slips) i p.rows after

-- Abandon spends a slip
abbrev pub AbandonSteps : Draft → Type 0
AbandonSteps after = (capacity : ℕ) (p : Past) (i slips : ℕ) → p.slips ≡ suc slips
    → Step capacity p (abandoned p i slips) i p.rows after

-- Seal spends a slip
abbrev pub SealSteps : ℕ → Rows → Draft → Answer ℕ → Rows → Draft → Type 0
SealSteps capacity before d a after e = (p : Past) (i slips : ℕ) → p.rows ≡ before → p.slips ≡ suc slips
    → Holds d (p.drafts i)
    → Step capacity p (sealed p i slips a after) i after e

-- Value, first move and read, by what their contracts say: each is a call of a run, with just the entries that it made.
pub record SealingCallsStep : Type 0 where
  pub value : (R : Rules) → Lawful R
      → (capacity : ℕ) (rows after : Rows) (code : ℕ) (a : Answer ℕ) (v : Valued R capacity rows code a after)
      → (p : Past) → p.rows ≡ rows → Call capacity p (grown p after v.entries)
  pub first_move : (R : Rules) → Lawful R
      → (capacity : ℕ) (rows after : Rows) (s : Side) (code : ℕ) (a : Answer (Option ℕ)) (m : Moved R capacity rows s code a after)
      → (p : Past) → p.rows ≡ rows → Call capacity p (grown p after m.entries)
  pub read : (capacity : ℕ) (rows after : Rows) (t : List ℕ) (a : Answer ℕ) (r : TextRead capacity rows t a after)
      → (p : Past) → p.rows ≡ rows → Call capacity p (grown p after r.entries)
