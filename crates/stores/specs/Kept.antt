-- What the list that every store keeps stands for.
-- Assumes nothing.
use Rattle.std.specs.Prelude.{ℕ, map, vec_items}
use Rattle.stores.specs.Rows.{Rows}
use Rattle.stores.specs.Reading.{lists_of}
use Rattle.stores.specs.declared.row_list.RowList.{RowList}

-- its rows
abbrev pub rows_in : RowList → Rows
rows_in l = map lists_of (vec_items l.rows)

-- how many rows it can hold
abbrev pub room_of : RowList → ℕ
room_of l = l.capacity
