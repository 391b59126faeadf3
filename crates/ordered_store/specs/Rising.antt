-- The order in which the ordered list keeps the numbers of its rows.
-- Assumes nothing.
use Rattle.std.specs.Prelude.{◌≡◌, ℕ, ◌+◌, ◌<◌, ◌≤◌, Bool, true, false, ◌||◌, List, [], ◌∷◌, length, ◌==◌, slice_index}
use Rattle.std.specs.declared.cmp.Ordering.TheVariants.{Less}
use Rattle.std.specs.declared.cmp.Ordering.{Ordering}
use Rattle.std.specs.Ordering.{is_lt, ordering_then}
use Rattle.games.specs.Numbered.{Lists}
use Rattle.stores.specs.Order.{number_order, row_order}
use Rattle.stores.specs.Rows.{Rows, row_at}

-- a row a with the number m against a row b with the number n: by the rows, and then by the numbers
abbrev pub entry_order : Lists → ℕ → Lists → ℕ → Ordering
entry_order a m b n = ordering_then (row_order a b) (number_order m n)

-- whether a number is in a list
abbrev pub holds : List ℕ → ℕ → Bool
holds [] n = false
holds (x ∷ xs) n = x == n || holds xs n

-- a list of numbers that have rows
abbrev pub HaveRows : Rows → List ℕ → Type 0
HaveRows rows numbers = (k : ℕ) → k < length numbers → slice_index numbers k < length rows

-- each number that has a row is in the list
abbrev pub HoldsAll : Rows → List ℕ → Type 0
HoldsAll rows numbers = (n : ℕ) → n < length rows → holds numbers n ≡ true

-- the numbers stand in rising order of their rows, those of the same row in rising order
abbrev pub Rises : Rows → List ℕ → Type 0
Rises rows numbers = (k : ℕ) → k + 1 < length numbers →
    is_lt (entry_order (row_at rows (slice_index numbers k)) (slice_index numbers k) (row_at rows (slice_index numbers (k + 1))) (slice_index numbers (k + 1))) ≡ true

-- whether what stands at a place comes before the row l with the number n
abbrev pub ComesFirst : Rows → List ℕ → Lists → ℕ → ℕ → Type 0
ComesFirst rows numbers l n k = entry_order (row_at rows (slice_index numbers k)) (slice_index numbers k) l n ≡ Less

-- the place where the row l with the number n belongs: all before it come first, and none from there on
pub record Belongs (rows : Rows) (numbers : List ℕ) (l : Lists) (n place : ℕ) : Type 0 where
  pub within : place ≤ length numbers
  pub first : (k : ℕ) → k < place → ComesFirst rows numbers l n k
  pub then : (k : ℕ) → place ≤ k → k < length numbers → ComesFirst rows numbers l n k → ⊥
