-- What a store answers to calls, one after another: told by its rows, its capacity and the calls alone.
-- Assumes nothing.
use Rattle.std.specs.Prelude.{◌≡◌, ℕ, List, [], ◌∷◌, length, Ok, Err, vec_items, Result, Vec}
use Rattle.std.specs.declared.alloc.AllocError.{AllocError}
use Rattle.std.specs.declared.alloc.Global.{Global}
use Rattle.std.specs.List.{slice_get}
use Rattle.games.specs.Numbered.{list_of}
use Rattle.stores.specs.Reading.{lists_of}
use Rattle.stores.specs.Rows.{Rows, append_answer, append_rows, lowest, row_at}
use Rattle.store_runs.specs.declared.call.StoreCall.{StoreCall}
use Rattle.store_runs.specs.declared.call.StoreCall.TheVariants.{Capacity, Count, ListLen, OptionAt, Find, Append, Clear}
use Rattle.store_runs.specs.declared.call.StoreAnswer.{StoreAnswer}
use Rattle.store_runs.specs.declared.call.StoreAnswer.TheVariants.{Size, Number, Appended, Done}

-- the answer to one call
abbrev pub answer_to : Rows → ℕ → StoreCall → StoreAnswer
answer_to rows room Capacity = Size room
answer_to rows room Count = Size (length rows)
answer_to rows room (ListLen s n) = Size (length (list_of s (row_at rows n)))
answer_to rows room (OptionAt s n i) = Number (slice_get (list_of s (row_at rows n)) i)
answer_to rows room (Find r) = Number (lowest rows (lists_of r))
answer_to rows room (Append r) = Appended (append_answer rows room (lists_of r))
answer_to rows room Clear = Done

-- the rows after one call
abbrev pub rows_after : Rows → ℕ → StoreCall → Rows
rows_after rows room Capacity = rows
rows_after rows room Count = rows
rows_after rows room (ListLen s n) = rows
rows_after rows room (OptionAt s n i) = rows
rows_after rows room (Find r) = rows
rows_after rows room (Append r) = append_rows rows room (lists_of r)
rows_after rows room Clear = []

-- the answers to calls, each made after the one before
abbrev pub answers_to : Rows → ℕ → List StoreCall → List StoreAnswer
answers_to rows room [] = []
answers_to rows room (c ∷ cs) = answer_to rows room c ∷ answers_to (rows_after rows room c) room cs

-- the rows after all of them
abbrev pub rows_at_end : Rows → ℕ → List StoreCall → Rows
rows_at_end rows room [] = rows
rows_at_end rows room (c ∷ cs) = rows_at_end (rows_after rows room c) room cs

-- a run on one store: the answers and what the store holds then. Without memory for the answers nothing is done
abbrev pub Replayed : Rows → ℕ → List StoreCall → Result (Vec StoreAnswer Global) AllocError → Rows → ℕ → Type 0
Replayed rows room calls (Ok v) after room' = (vec_items v ≡ answers_to rows room calls) × (after ≡ rows_at_end rows room calls) × (room' ≡ room)
Replayed rows room calls (Err e) after room' = (after ≡ rows) × (room' ≡ room)

-- of a run on two stores, the answers of the first and those of the second
abbrev pub first_of : {A : Type 0} → Result (A × A) AllocError → Result A AllocError
first_of (Ok p) = Ok p.0
first_of (Err e) = Err e

abbrev pub second_of : {A : Type 0} → Result (A × A) AllocError → Result A AllocError
second_of (Ok p) = Ok p.1
second_of (Err e) = Err e

-- two stores have answered alike, and hold the same rows
abbrev pub Alike : Result (Vec StoreAnswer Global × Vec StoreAnswer Global) AllocError → Rows → Rows → Type 0
Alike (Ok p) after after' = (vec_items p.0 ≡ vec_items p.1) × (after ≡ after')
Alike (Err e) after after' = after ≡ after'
