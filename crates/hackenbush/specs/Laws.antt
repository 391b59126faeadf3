-- The theorems on what is joined to the ground, as statements that contracts name.
-- Assumes nothing.
use Rattle.std.specs.Prelude.{◌≡◌, ℕ, ◌^◌, ◌<◌, Bool, true, ◌⊎◌, List, length, Some, Decides}
use Rattle.std.specs.List.{slice_get}
use Rattle.bits.specs.Bits.{bit}
use Rattle.hackenbush.specs.declared.edge.Edge.{Edge}
use Rattle.hackenbush.specs.Joined.{Joined, joined}
use Rattle.hackenbush.specs.Hackenbush.{fall, legal}

-- The test `joined` says of every vertex of every picture whether it is joined to the ground.
abbrev pub ReachIsJoined : Type 0
ReachIsJoined = (es : List Edge) (up : ℕ → Bool) (v : ℕ) → Decides (joined es up v) (Joined es up v)

-- an edge is joined to the ground when one of its ends is
abbrev pub EdgeJoined : List Edge → (ℕ → Bool) → Edge → Type 0
EdgeJoined es up e = Joined es up e.from ⊎ Joined es up e.to

-- edge i stands, and is joined to the ground
abbrev pub StaysUp : List Edge → (ℕ → Bool) → ℕ → Type 0
StaysUp es up i = (e : Edge) × (slice_get es i ≡ Some e) × (up i ≡ true) × EdgeJoined es up e

-- After the fall exactly those of the standing edges stand that are joined to the ground.
abbrev pub FallKeepsJoined : Type 0
FallKeepsJoined = (es : List Edge) (up : ℕ → Bool) (i : ℕ) → Decides (bit (fall es up) i) (StaysUp es up i)

-- A code is legal exactly when it is below the limit and every standing edge is joined to the ground.
abbrev pub LegalWhenJoined : Type 0
LegalWhenJoined = (es : List Edge) (n : ℕ) → Decides (legal es n) ((n < 2 ^ length es) × ((i : ℕ) (e : Edge) → slice_get es i ≡ Some e → bit n i ≡ true → EdgeJoined es (bit n) e))
