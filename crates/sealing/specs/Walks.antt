-- A list of nodes in listing order, and what it says of sets of nodes.
-- Assumes nothing.
use Rattle.std.specs.Prelude.{◌≡◌, ℕ, ◌<◌, ◌≤◌, Bool, true, false, cond, ◌&&◌, List, [], ◌∷◌, length, nat_eq, nat_lt, slice_index}
use Rattle.std.specs.List.{list_any}
use Rattle.std.specs.declared.cmp.Ordering.TheVariants.{Less, Equal, Greater}
use Rattle.std.specs.declared.cmp.Ordering.{Ordering}
use Rattle.games.specs.declared.side.Side.TheVariants.{Left, Right}
use Rattle.games.specs.Listing.{or_else, ◌≺◌}
use Rattle.games.specs.Tests.{rising}
use Rattle.games.specs.Numbered.{each}
use Rattle.nodesets.specs.Pairs.{Sets}
use Rattle.sealing.specs.Forms.{node}

-- some number of the list is in the set
abbrev pub any_of : (ℕ → Bool) → List ℕ → Bool
any_of p ks = list_any p ks

-- At a number that just one of two sets has, that set comes first, unless the other has no later number: then the other has ended, and comes first.
abbrev pub walk_step : Bool → Bool → Bool → Bool → Ordering → Ordering
walk_step true true pl ql rest = rest
walk_step true false pl ql rest = cond ql Less Greater
walk_step false true pl ql rest = cond pl Greater Less
walk_step false false pl ql rest = rest

-- how two sets compare by their numbers in the list's order, a set that ends first coming earlier
abbrev pub walk_order : (ℕ → Bool) → (ℕ → Bool) → List ℕ → Ordering
walk_order p q [] = Equal
walk_order p q (k ∷ ks) = walk_step (p k) (q k) (any_of p ks) (any_of q ks) (walk_order p q ks)

-- the same of the options of both sides, Left's first
abbrev pub pair_order : Sets → Sets → List ℕ → Ordering
pair_order o q ks = or_else (walk_order (o Left) (q Left) ks) (walk_order (o Right) (q Right) ks)

-- every number of the list is below n
abbrev pub all_below : ℕ → List ℕ → Bool
all_below n [] = true
all_below n (k ∷ ks) = nat_lt k n && all_below n ks

-- every number below n is in the list
abbrev pub Complete : ℕ → List ℕ → Type 0
Complete n ks = (k : ℕ) → k < n → any_of (λ j. nat_eq j k) ks ≡ true

-- the nodes of the list stand in rising listing order
abbrev pub Rises : List Sets → List ℕ → Type 0
Rises os ks = rising (each (node os) ks) ≡ true

-- r is the place of the node k in the list ks: those before r are listed before k, and that at r after k
pub record Placed (os : List Sets) (ks : List ℕ) (k r : ℕ) : Type 0 where
  pub within : r ≤ length ks
  pub before : (j : ℕ) → j < r → node os (slice_index ks j) ≺ node os k
  pub after : r < length ks → node os k ≺ node os (slice_index ks r)
