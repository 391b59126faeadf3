-- Sets of numbers below 384 as six words of 64 bits.
-- Assumes nothing.
use Rattle.std.specs.Prelude.{◌≡◌, ℕ, ◌/◌, ◌%◌, ◌<◌, ◌≤◌, Bool, true, false, not, ◌&&◌, ◌==◌, List, slice_index, Option, MatchOption}
use Rattle.bits.specs.Bits.{bit}
use Rattle.nodesets.specs.declared.nodeset.NodeSet.{NodeSet}

-- bit k of the words, one word after the other
unfoldable pub mem : List ℕ → ℕ → Bool
mem ws k = bit (slice_index ws (k / 64)) (k % 64)

-- word i of the set
abbrev pub word : NodeSet → ℕ → ℕ
word s i = slice_index s.words i

-- k is in the set
abbrev pub has : NodeSet → ℕ → Bool
has s k = mem s.words k

-- some number is in both sets
abbrev pub Meet : (ℕ → Bool) → (ℕ → Bool) → Type 0
Meet p q = (k : ℕ) × (p k ≡ true) × (q k ≡ true)

-- k is the lowest number that is in both sets
abbrev pub Lowest : (ℕ → Bool) → (ℕ → Bool) → ℕ → Type 0
Lowest p q k = (p k ≡ true) × (q k ≡ true) × ((j : ℕ) → j < k → (p j ≡ true) × (q j ≡ true) → ⊥)

-- r is the lowest number from `start` on, below 384, that passes the test; none where there is none
pub record First (p : ℕ → Bool) (start r : ℕ) : Type 0 where
  pub reach : start ≤ r
  pub bound : r < 384
  pub here : p r ≡ true
  pub passed : (k : ℕ) → start ≤ k → k < r → p k ≡ false

abbrev pub Next : (ℕ → Bool) → ℕ → Option ℕ → Type 0
Next p start r = MatchOption r ((k : ℕ) → start ≤ k → k < 384 → p k ≡ false) (First p start)

-- the lowest number of p is r, and q is p without it; none where p has no number
abbrev pub TakesLowest : (ℕ → Bool) → (ℕ → Bool) → Option ℕ → Type 0
TakesLowest p q r =
    MatchOption r (((k : ℕ) → p k ≡ false) × ((k : ℕ) → q k ≡ false))
    (λ k. (p k ≡ true) × ((j : ℕ) → j < k → p j ≡ false) × ((j : ℕ) → q j ≡ (p j && not (j == k))))
