-- Bytes taken one by one, each from the state that the bytes before it led to, until one is refused.
-- Assumes nothing.
use Rattle.std.specs.Prelude.{ℕ, List, [], ◌∷◌, Some, None, Option}

abbrev pub step_from : {S : Type 0} → (S → ℕ → Option S) → Option S → ℕ → Option S
step_from step None b = None
step_from step (Some s) b = step s b

abbrev pub run : {S : Type 0} → (S → ℕ → Option S) → Option S → List ℕ → Option S
run step q [] = q
run step q (b ∷ t) = run step (step_from step q b) t
