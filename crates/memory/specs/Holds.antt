-- What a table holds.
-- Assumes nothing.
use Rattle.std.specs.Prelude.{◌≡◌, ℕ, suc, ◌⊎◌, List, Some, None, Option, slice_index, slice_index_or}
use Rattle.memory.specs.declared.slot.Slot.{Slot}

-- a place that is free, and one with a code and its number
abbrev pub free : Slot
free = record { code = 0; number = None }

abbrev pub holding : ℕ → ℕ → Slot
holding code n = record { code = code; number = Some n }

-- some place has the code with the number
abbrev pub Among : List Slot → ℕ → ℕ → Type 0
Among slots code n = (i : ℕ) × (slice_index_or slots i free ≡ holding code n)

-- the place of the code has one more than the number
abbrev pub At : List ℕ → ℕ → ℕ → Type 0
At numbers code n = slice_index numbers code ≡ suc n

-- a number that is told is one that is held
abbrev pub Recalls : (ℕ → Type 0) → Option ℕ → Type 0
Recalls held None = Unit {0}
Recalls held (Some n) = held n

-- what is held afterwards was held before, or is the number noted
abbrev pub More : (ℕ → ℕ → Type 0) → ℕ → ℕ → (ℕ → ℕ → Type 0) → Type 0
More before code n after = (c m : ℕ) → after c m → before c m ⊎ ((c ≡ code) × (m ≡ n))

-- what is held afterwards was held before, or by another
abbrev pub Joined : (ℕ → ℕ → Type 0) → (ℕ → ℕ → Type 0) → (ℕ → ℕ → Type 0) → Type 0
Joined other before after = (c m : ℕ) → after c m → before c m ⊎ other c m
