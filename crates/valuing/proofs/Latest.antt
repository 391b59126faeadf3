-- The move that is kept is the last that wins.
-- Assumes nothing.
use Rattle.std.proofs.Common.{◌≡◌, ℕ, ◌+◌, ◌<◌, ◌≤◌, Bool, true, false, List, length, get_or, Some, None, Option, sym, arith, below_more}
use Rattle.games.specs.declared.side.Side.{Side}
use Rattle.rulesets.specs.Rules.{Rules}
use Rattle.rulesets.specs.Winning.{mover_wins}
use Rattle.calls.specs.Answers.{told}
use Rattle.calls.specs.Rows.{Rows}
use Rattle.valuing.specs.declared.fault.ValueFault.{ValueFault}
use Rattle.valuing.specs.declared.fault.ValueFault.TheVariants.{Illegal, Position}
use Rattle.valuing.specs.Answers.{refusal}
use Rattle.valuing.specs.Moved.{Latest, later_of}
use Rattle.valuing.proofs.Trying.{Best, Trying}

-- of the moves tried in i turns, those behind k
abbrev pub Behind : ℕ → ℕ → ℕ → Type 0
Behind i k j = (k < j) × (j < i)

-- none stands behind the move of the turn itself
wins_now : (R : Rules) (s : Side) (ms : List ℕ) (i : ℕ) → i < length ms → true ≡ mover_wins R s (get_or ms i 0) → Best Behind R s ms (i + 1) (Some i)
wins_now R s ms i l e = (l, sym e, λ j z. absurd (omega arith))

pub best_later : (R : Rules) (s : Side) (ms : List ℕ) (i : ℕ) (w : Option ℕ) (r : Bool) → i < length ms → r ≡ mover_wins R s (get_or ms i 0) → Best Behind R s ms i w → Best Behind R s ms (i + 1) (later_of w i r)
best_later R s ms i w true l e b = wins_now R s ms i l e
best_later R s ms i None false l e b = below_more _ _ b (sym e)
best_later R s ms i (Some k) false l e b = (b.0, b.1, λ j z. below_more (λ n. k < n → mover_wins R s (get_or ms n 0) ≡ false) i (λ n h g. b.2 n (g, h)) (λ g. sym e) j z.1 z.0)

latest_at : (R : Rules) (s : Side) (code i : ℕ) (w : Option ℕ) → length (R.moves s code) ≤ i → Best Behind R s (R.moves s code) i w → Latest R s code (told w)
latest_at R s code i None h b = tt
latest_at R s code i (Some k) h b = λ j later below. b.2 j (later, omega arith)

pub no_latest : (R : Rules) (s : Side) (code : ℕ) (f : ValueFault) → Latest R s code (refusal f)
no_latest R s code Illegal = tt
no_latest R s code (Position z f) = tt

pub tried_latest : (R : Rules) (s : Side) (code i : ℕ) (w : Option ℕ) (c₀ c : ℕ) (a b : Rows) (ok : Type 0) → length (R.moves s code) ≤ i → Trying Behind R s (R.moves s code) i w c₀ c a b ok → Latest R s code (told w)
tried_latest R s code i w c₀ c a b ok h t = latest_at R s code i w h t.so_far.best
