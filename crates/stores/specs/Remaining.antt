-- What is left of a walk over a node's options.
-- Assumes nothing.
use Rattle.std.specs.Prelude.{ℕ, List, drop}
use Rattle.games.specs.Numbered.{list_of}
use Rattle.stores.specs.Rows.{Rows, row_at}
use Rattle.stores.specs.declared.options.Options.{Options}

-- the side's options from the walk's index on, where `rows` is what the store holds
abbrev pub options_left : {S : Type 0} → (S → Rows) → Options S → List ℕ
options_left rows o = drop o.index (list_of o.side (row_at (rows o.store.now) o.node))
