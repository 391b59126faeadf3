-- The chains of the hash-consed table.
-- Assumes nothing.
use Rattle.std.specs.Prelude.{◌≡◌, ℕ, zero, suc, ◌+◌, ◌%◌, ◌<◌, Bool, false, cond, ◌||◌, List, [], ◌∷◌, length, Some, None, sum, Option, ◌==◌, slice_index_or}
use Rattle.games.specs.Numbered.{Lists}
use Rattle.stores.specs.Rows.{Rows, row_at}

-- the chain of a row: the sum of its options modulo 128
abbrev pub chain_of : Lists → ℕ
chain_of l = (sum l.left + sum l.right) % 128

-- the greatest number below n whose row is of the chain h
abbrev pub latest : Rows → ℕ → ℕ → Option ℕ
latest rows h zero = None
latest rows h (suc n) = cond (chain_of (row_at rows n) == h) (Some n) (latest rows h n)

-- each chain begins at the greatest of its numbers
abbrev pub Begins : Rows → List (Option ℕ) → Type 0
Begins rows firsts = (h : ℕ) → h < 128 → slice_index_or firsts h None ≡ latest rows h (length rows)

-- from each number its chain goes on to the next lower one
abbrev pub GoesOn : Rows → List (Option ℕ) → Type 0
GoesOn rows lowers = (n : ℕ) → n < length rows → slice_index_or lowers n None ≡ latest rows (chain_of (row_at rows n)) n

-- the numbers that a walk meets, from a number on, in so many steps
abbrev pub walk : List (Option ℕ) → ℕ → Option ℕ → List ℕ
walk lowers zero next = []
walk lowers (suc steps) None = []
walk lowers (suc steps) (Some n) = n ∷ walk lowers steps (slice_index_or lowers n None)

-- whether a number is in a list
abbrev pub meets : List ℕ → ℕ → Bool
meets [] n = false
meets (x ∷ xs) n = x == n || meets xs n

-- each row is met on the chain of the sum of its options, and on no other
abbrev pub OneChain : Type 0
OneChain = (rows : Rows) (firsts lowers : List (Option ℕ)) → Begins rows firsts → GoesOn rows lowers →
    (h n : ℕ) → h < 128 → n < length rows → meets (walk lowers (length rows) (slice_index_or firsts h None)) n ≡ (chain_of (row_at rows n) == h)
