-- What is joined to the ground.
-- Assumes nothing.
use Rattle.std.specs.Prelude.{◌≡◌, ℕ, zero, suc, Bool, true, false, ◌&&◌, ◌||◌, List, length, Some, None, Option, ◌==◌}
use Rattle.std.specs.List.{slice_get}
use Rattle.hackenbush.specs.declared.edge.Edge.{Edge}

-- A vertex is joined to the ground when it is 0, or one end of a standing edge whose other end is joined.
-- `up i` says that edge i of the list stands.
pub data Joined (es : List Edge) (up : ℕ → Bool) : ℕ → Type 0 where
  ground : Joined es up 0
  along : (i : ℕ) (e : Edge) → slice_get es i ≡ Some e → up i ≡ true → Joined es up e.from → Joined es up e.to
  back : (i : ℕ) (e : Edge) → slice_get es i ≡ Some e → up i ≡ true → Joined es up e.to → Joined es up e.from

-- some number below n passes the test
abbrev pub some : ℕ → (ℕ → Bool) → Bool
some zero p = false
some (suc n) p = p n || some n p

-- there is an edge, and it passes the test
abbrev pub holds : (Edge → Bool) → Option Edge → Bool
holds p None = false
holds p (Some e) = p e

-- v is one end of the edge, and the other end passes the test
abbrev pub leads : (ℕ → Bool) → ℕ → Edge → Bool
leads p v e = (e.to == v && p e.from) || (e.from == v && p e.to)

-- v is joined to the ground by a path of at most so many standing edges
abbrev pub joined_in : List Edge → (ℕ → Bool) → ℕ → ℕ → Bool
joined_in es up zero v = v == 0
joined_in es up (suc k) v = joined_in es up k v || some (length es) (λ i. up i && holds (leads (joined_in es up k) v) (slice_get es i))

-- v is joined to the ground: no path needs more edges than there are
unfoldable pub joined : List Edge → (ℕ → Bool) → ℕ → Bool
joined es up v = joined_in es up (length es) v
