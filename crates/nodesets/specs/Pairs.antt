-- A pair of sets, one for each side.
-- Assumes nothing.
use Rattle.std.specs.Prelude.{◌≡◌, ℕ, ◌<◌, Bool, true}
use Rattle.games.specs.declared.side.Side.{Side}
use Rattle.games.specs.declared.side.Side.TheVariants.{Left, Right}
use Rattle.nodesets.specs.Sets.{has}
use Rattle.nodesets.specs.declared.pair.Pair.{Pair}

-- a set of numbers for each side
abbrev pub Sets : Type 0
Sets = Side → ℕ → Bool

-- the sets of a pair
abbrev pub by : Pair → Sets
by p Left k = has p.left k
by p Right k = has p.right k

-- every number of the sets is below n
abbrev pub Within : ℕ → Sets → Type 0
Within n o = (s : Side) (k : ℕ) → o s k ≡ true → k < n
