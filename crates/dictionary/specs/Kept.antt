-- What ties the store of a dictionary to its tables.
-- Assumes nothing.
use Rattle.std.specs.Prelude.{◌≡◌, ℕ, true, ◌↔◌, Option}
use Rattle.games.specs.declared.side.Side.{Side}
use Rattle.games.specs.Numbered.{Lists, list_of}
use Rattle.nodesets.specs.Pairs.{Sets}
use Rattle.sealing.specs.declared.tables.Tables.{Tables}
use Rattle.sealing.specs.Seals.{row_of, rows_of}
use Rattle.stores.specs.Rows.{row_of_lists}
use Rattle.calls.specs.Rows.{Rows, ◌among◌}

-- the store holds the rows that the tables describe
abbrev pub Kept : Rows → Tables → Type 0
Kept rows t = rows ≡ rows_of t

-- the two lists have just the numbers of the two sets
abbrev pub ListsOf : Sets → Lists → Type 0
ListsOf o l = (s : Side) (k : ℕ) → (k among list_of s l) ↔ (o s k ≡ true)

-- the row of two sets of nodes, each in listing order, if neither has more than 16
abbrev pub row_for : Tables → Sets → Option Lists
row_for t o = row_of_lists (row_of t o).left (row_of t o).right
