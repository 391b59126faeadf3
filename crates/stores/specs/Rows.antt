-- What a store holds, a list of rows numbered from 0 up, and what it answers.
-- Assumes nothing.
use Rattle.std.specs.Prelude.{◌≡◌, ℕ, suc, ◌<◌, ◌≤◌, Bool, true, false, cond, ◌&&◌, List, [], ◌∷◌, ◌++◌, length, take, is_ok, Some, None, Ok, Err, Option, Result, ◌==◌, ◌≢◌, nat_le, nat_lt, slice_index, slice_index_or}
use Rattle.std.specs.Cmp.Lexicographic.{pointwise}
use Rattle.std.specs.List.{list_all}
use Rattle.std.specs.Option.{option_map}
use Rattle.games.specs.declared.side.Side.{Side}
use Rattle.games.specs.declared.side.Side.TheVariants.{Left, Right}
use Rattle.games.specs.Numbered.{Lists, list_of}
use Rattle.stores.specs.declared.fault.StoreFault.{StoreFault}
use Rattle.stores.specs.declared.fault.StoreFault.TheVariants.{Unknown, Full}
use Rattle.stores.specs.declared.fault.MakeFault.{MakeFault}
use Rattle.stores.specs.declared.fault.MakeFault.TheVariants.{Capacity, Memory}

-- the rows of a store: the row numbered n is the n-th, counted from 0
abbrev pub Rows : Type 0
Rows = List Lists

-- a row with nothing on either side
abbrev pub bare : Lists
bare = record { left = []; right = [] }

-- the row with a number; bare where there is none
abbrev pub row_at : Rows → ℕ → Lists
row_at rows n = slice_index_or rows n bare

-- a list, if it has no more numbers than `most`
abbrev pub short : ℕ → List ℕ → Option (List ℕ)
short most l = cond (nat_le (length l) most) (Some l) None

-- the row of two lists, if both are short
abbrev pub row_of_lists : List ℕ → List ℕ → Option Lists
row_of_lists l r = cond (nat_le (length l) 16 && nat_le (length r) 16) (Some (record { left = l; right = r })) None

-- two lists with one number more on a side, unless that has `most` of them
abbrev pub pushed : ℕ → Side → ℕ → Lists → Lists
pushed most Left n l = record { left = take most (l.left ++ n ∷ []); right = l.right }
pushed most Right n l = record { left = l.left; right = take most (l.right ++ n ∷ []) }

-- whether two lists are the same
abbrev pub same_list : List ℕ → List ℕ → Bool
same_list = pointwise ◌==◌

-- whether two rows have the same two lists
abbrev pub same_lists : Lists → Lists → Bool
same_lists a b = same_list a.left b.left && same_list a.right b.right

-- the lowest number whose row has these two lists
abbrev pub lowest : Rows → Lists → Option ℕ
lowest [] l = None
lowest (r ∷ rows) l = cond (same_lists r l) (Some 0) (option_map suc (lowest rows l))

-- a number is the lowest whose row has these two lists, or no row has them
abbrev pub Finds : Rows → Lists → Option ℕ → Type 0
Finds rows l None = (k : ℕ) → k < length rows → row_at rows k ≢ l
Finds rows l (Some n) = (n < length rows) × (row_at rows n ≡ l) × ((k : ℕ) → k < n → row_at rows k ≢ l)

-- `lowest` gives that number
abbrev pub LowestFinds : Type 0
LowestFinds = (rows : Rows) (l : Lists) → Finds rows l (lowest rows l)

-- whether each number of a list is below n
abbrev pub all_below : ℕ → List ℕ → Bool
all_below n = list_all (λ x. nat_lt x n)

-- whether a row names only numbers below n
abbrev pub names_below : ℕ → Lists → Bool
names_below n l = all_below n l.left && all_below n l.right

-- what append answers: Unknown first, then Full; else the number of the new row
abbrev pub append_answer : Rows → ℕ → Lists → Result ℕ StoreFault
append_answer rows room l =
    cond (names_below (length rows) l) (cond (nat_lt (length rows) room) (Ok (length rows)) (Err Full)) (Err Unknown)

-- the rows after an append: the new row is the last, unless it was refused
abbrev pub append_rows : Rows → ℕ → Lists → Rows
append_rows rows room l = cond (is_ok (append_answer rows room l)) (rows ++ l ∷ []) rows

-- whether a store may have this capacity
abbrev pub may_hold : ℕ → Bool
may_hold room = nat_le 1 room && nat_le room 384

-- a new store is empty and has the capacity asked for. It is refused for its capacity just where that may not be
abbrev pub Made : {S : Type 0} → (S → Rows) → (S → ℕ) → ℕ → Result S MakeFault → Type 0
Made rows room n (Ok s) = (may_hold n ≡ true) × (rows s ≡ []) × (room s ≡ n)
Made rows room n (Err Capacity) = may_hold n ≡ false
Made rows room n (Err Memory) = may_hold n ≡ true

-- what holds of every store
pub record Lawful (rows : Rows) (room : ℕ) : Type 0 where
  pub some_room : 1 ≤ room
  pub most_room : room ≤ 384
  pub fits : length rows ≤ room
  pub few : (s : Side) (n : ℕ) → length (list_of s (row_at rows n)) ≤ 16
  pub lower : (s : Side) (n i : ℕ) → i < length (list_of s (row_at rows n)) → slice_index (list_of s (row_at rows n)) i < n

-- each row names only lower numbers than its own
abbrev pub NamesLower : Rows → Type 0
NamesLower rows = (n : ℕ) → n < length rows → names_below n (row_at rows n) ≡ true
