-- A first move is told, with some entries made.
-- Assumes nothing.
use Rattle.std.specs.Prelude.{◌≡◌, ℕ, ◌<◌, Bool, true, false, List, length, Some, None, Option, slice_index}
use Rattle.games.specs.declared.outcome.Outcome.{Outcome}
use Rattle.games.specs.declared.outcome.Outcome.TheVariants.{Zero, Fuzzy, Positive, Negative}
use Rattle.games.specs.declared.side.Side.{Side}
use Rattle.games.specs.declared.side.Side.TheVariants.{Left, Right}
use Rattle.rulesets.specs.Rules.{Rules}
use Rattle.rulesets.specs.Winning.{mover_wins}
use Rattle.calls.specs.Answers.{Answer, told, refused, refused_at}
use Rattle.calls.specs.Entering.{Entry}
use Rattle.calls.specs.Positions.{FirstMoves}
use Rattle.calls.specs.Rows.{Rows}

-- the side, moving second, wins a game of the outcome
abbrev pub won_by : Side → Outcome → Bool
won_by s Zero = true
won_by s Fuzzy = false
won_by Left Positive = true
won_by Right Positive = false
won_by Left Negative = false
won_by Right Negative = true

-- the move found before, or else this one if it wins
abbrev pub earlier_of : Option ℕ → ℕ → Bool → Option ℕ
earlier_of (Some k) i wins = Some k
earlier_of None i true = Some i
earlier_of None i false = None

-- this move if it wins, or else the one found before
abbrev pub later_of : Option ℕ → ℕ → Bool → Option ℕ
later_of found i true = Some i
later_of found i false = found

-- the successors of a side are valued, and a winning one is told
pub record Moved (R : Rules) (capacity : ℕ) (rows : Rows) (s : Side) (code : ℕ) (a : Answer (Option ℕ)) (after : Rows) : Type 0 where
  pub entries : List Entry
  pub holds : FirstMoves R capacity rows s code a after entries

-- a move that is told is the earliest that wins: from no successor before it does the mover, now second, win
abbrev pub Earliest : Rules → Side → ℕ → Answer (Option ℕ) → Type 0
Earliest R s code (told None) = Unit {0}
Earliest R s code (told (Some i)) = (j : ℕ) → j < i → mover_wins R s (slice_index (R.moves s code) j) ≡ false
Earliest R s code (refused k) = Unit {0}
Earliest R s code (refused_at k place) = Unit {0}

-- a move that is told is the last that wins: from no successor behind it does the mover, now second, win
abbrev pub Latest : Rules → Side → ℕ → Answer (Option ℕ) → Type 0
Latest R s code (told None) = Unit {0}
Latest R s code (told (Some i)) = (j : ℕ) → i < j → j < length (R.moves s code) → mover_wins R s (slice_index (R.moves s code) j) ≡ false
Latest R s code (refused k) = Unit {0}
Latest R s code (refused_at k place) = Unit {0}
