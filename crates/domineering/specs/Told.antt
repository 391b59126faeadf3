-- A mask of cells that is told for a legal code alone.
-- Assumes nothing.
use Rattle.std.specs.Prelude.{◌≡◌, ℕ, Bool, true, false, Some, None, Option}
use Rattle.bits.specs.Bits.{bit}

-- none for an illegal code, else the mask of the cells that pass the test
abbrev pub Told : Bool → (ℕ → Bool) → Option ℕ → Type 0
Told legal p None = legal ≡ false
Told legal p (Some mask) = (legal ≡ true) × ((i : ℕ) → bit mask i ≡ p i)
