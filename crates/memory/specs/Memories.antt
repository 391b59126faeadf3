-- What a memory holds, in a table of either kind.
-- Assumes nothing.
use Rattle.std.specs.Prelude.{ℕ, Some, None, vec_items, Option}
use Rattle.memory.specs.declared.memory.Memory.{Memory}
use Rattle.memory.specs.declared.slots.Slots.{Slots}
use Rattle.memory.specs.declared.table.Table.{Table}
use Rattle.memory.specs.declared.table.Table.TheVariants.{Hashed, Indexed}
use Rattle.memory.specs.Holds.{Among, At}

-- the table holds the number for the code
abbrev pub InTable : Table → ℕ → ℕ → Type 0
InTable (Hashed s) code n = Among (vec_items s.slots) code n
InTable (Indexed d) code n = At (vec_items d.numbers) code n

-- the memory holds the number for the code
abbrev pub Holds : Memory → ℕ → ℕ → Type 0
Holds m = InTable m.table

-- what is held afterwards was held before
abbrev pub HoldsLess : Memory → Memory → Type 0
HoldsLess before after = (code n : ℕ) → Holds after code n → Holds before code n

-- a table that was made holds no more than the hashed one
abbrev pub HoldsOf : Slots → Option Table → Type 0
HoldsOf s None = Unit {0}
HoldsOf s (Some t) = (code n : ℕ) → InTable t code n → Among (vec_items s.slots) code n
