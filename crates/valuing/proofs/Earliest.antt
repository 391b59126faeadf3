-- The move that is kept is the earliest that wins.
-- Assumes nothing.
use Rattle.std.proofs.Common.{◌≡◌, ℕ, ◌+◌, ◌<◌, Bool, true, false, List, length, get_or, Some, None, Option, sym, below_more}
use Rattle.games.specs.declared.side.Side.{Side}
use Rattle.rulesets.specs.Rules.{Rules}
use Rattle.rulesets.specs.Winning.{mover_wins}
use Rattle.calls.specs.Answers.{told}
use Rattle.calls.specs.Rows.{Rows}
use Rattle.valuing.specs.declared.fault.ValueFault.{ValueFault}
use Rattle.valuing.specs.declared.fault.ValueFault.TheVariants.{Illegal, Position}
use Rattle.valuing.specs.Answers.{refusal}
use Rattle.valuing.specs.Moved.{Earliest, earlier_of}
use Rattle.valuing.proofs.Trying.{Best, Trying}

-- the moves before k, whatever the turn
abbrev pub Before : ℕ → ℕ → ℕ → Type 0
Before i k j = j < k

pub best_more : (R : Rules) (s : Side) (ms : List ℕ) (i : ℕ) (w : Option ℕ) (r : Bool) → i < length ms → r ≡ mover_wins R s (get_or ms i 0) → Best Before R s ms i w → Best Before R s ms (i + 1) (earlier_of w i r)
best_more R s ms i (Some k) r l e b = b
best_more R s ms i None true l e b = (l, sym e, b)
best_more R s ms i None false l e b = below_more _ _ b (sym e)

earliest_at : (R : Rules) (s : Side) (code i : ℕ) (w : Option ℕ) → Best Before R s (R.moves s code) i w → Earliest R s code (told w)
earliest_at R s code i None b = tt
earliest_at R s code i (Some k) b = b.2

pub no_earliest : (R : Rules) (s : Side) (code : ℕ) (f : ValueFault) → Earliest R s code (refusal f)
no_earliest R s code Illegal = tt
no_earliest R s code (Position z f) = tt

pub tried_earliest : (R : Rules) (s : Side) (code i : ℕ) (w : Option ℕ) (c₀ c : ℕ) (a b : Rows) (ok : Type 0) → Trying Before R s (R.moves s code) i w c₀ c a b ok → Earliest R s code (told w)
tried_earliest R s code i w c₀ c a b ok t = earliest_at R s code i w t.so_far.best
