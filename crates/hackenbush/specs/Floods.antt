-- The flood: a set of vertices reached from the ground, and the standing edges not yet found to be joined, both as bits of a number.
-- Assumes nothing.
use Rattle.std.specs.Prelude.{◌≡◌, ℕ, ◌<◌, ◌≤◌, Bool, true, false, ◌||◌, ◌≢◌, ◌⊎◌, List, Some, ◌==◌}
use Rattle.std.specs.List.{slice_get}
use Rattle.bits.specs.Bits.{bit}
use Rattle.hackenbush.specs.declared.edge.Edge.{Edge}
use Rattle.hackenbush.specs.Joined.{Joined}

-- a set with just the two ends of edge i
abbrev pub Ends : List Edge → ℕ → ℕ → Type 0
Ends es i set = (e : Edge) × (slice_get es i ≡ Some e) × ((v : ℕ) → bit set v ≡ (v == e.from || v == e.to))

-- A flood on its way over the standing edges.
pub record Flooding (es : List Edge) (up : ℕ → Bool) (wet dry : ℕ) : Type 0 where
  -- the ground is reached
  pub ground : bit wet 0 ≡ true
  -- what is reached is joined
  pub sound : (v : ℕ) → bit wet v ≡ true → Joined es up v
  -- the edges that are left stand
  pub standing : (i : ℕ) → bit dry i ≡ true → up i ≡ true
  -- both ends of every other standing edge are reached
  pub done : (i : ℕ) (e : Edge) → slice_get es i ≡ Some e → up i ≡ true → bit dry i ≡ false → (bit wet e.from ≡ true) × (bit wet e.to ≡ true)

-- a flood of any standing edges stays one
abbrev pub Keeps : List Edge → ℕ → ℕ → ℕ → ℕ → Type 0
Keeps es wet dry wet' dry' = (up : ℕ → Bool) → Flooding es up wet dry → Flooding es up wet' dry'

-- no end of edge i is reached
abbrev pub Dry : List Edge → ℕ → ℕ → Type 0
Dry es wet i = (e : Edge) → slice_get es i ≡ Some e → (bit wet e.from ≡ false) × (bit wet e.to ≡ false)

-- After a look at edge i, which was left: it is left no more, or nothing changed since no end of it is reached.
pub record Looked (es : List Edge) (i wet dry wet' dry' : ℕ) : Type 0 where
  pub keeps : Keeps es wet dry wet' dry'
  pub others : (j : ℕ) → j ≢ i → bit dry' j ≡ bit dry j
  pub outcome : (dry' < dry) ⊎ ((dry' ≡ dry) × (wet' ≡ wet) × Dry es wet i)

-- After a look at every edge that was left: fewer are left, or there is no edge that the flood could go on along.
pub record Spread (es : List Edge) (wet dry wet' dry' : ℕ) : Type 0 where
  pub keeps : Keeps es wet dry wet' dry'
  pub outcome : (dry' < dry) ⊎ ((dry' ≡ dry) × ((i : ℕ) → bit dry' i ≡ true → Dry es wet' i))

-- After the flood: there is no edge that it could go on along.
pub record Flooded (es : List Edge) (wet dry wet' dry' : ℕ) : Type 0 where
  pub keeps : Keeps es wet dry wet' dry'
  pub below : dry' ≤ dry
  pub closed : (i : ℕ) → bit dry' i ≡ true → Dry es wet' i
