-- New tables hold nothing.
-- Assumes nothing.
use Rattle.std.specs.Prelude.{ℕ, Some, None, vec_items, Option}
use Rattle.memory.specs.declared.direct.Direct.{Direct}
use Rattle.memory.specs.declared.slots.Slots.{Slots}
use Rattle.memory.specs.Holds.{Among, At}

-- a table that was made has no place that is taken
abbrev pub AllFree : Option Slots → Type 0
AllFree None = Unit {0}
AllFree (Some s) = (code n : ℕ) → Among (vec_items s.slots) code n → ⊥

-- a table that was made has no number
abbrev pub NothingNoted : Option Direct → Type 0
NothingNoted None = Unit {0}
NothingNoted (Some d) = (code n : ℕ) → At (vec_items d.numbers) code n → ⊥
