-- What holds of the nodes in every state: os has each node's options, ws the nodes that it is as good as for each side.
-- Each ends in an equation or an order of numbers, so that it can be an invariant of a struct.
-- Assumes nothing.
use Rattle.std.specs.Prelude.{◌≡◌, ℕ, ◌<◌, true, ◌&&◌, List, length, nat_lt, slice_index_or}
use Rattle.games.specs.declared.side.Side.{Side}
use Rattle.games.specs.Order.{◌≈◌}
use Rattle.games.specs.Tests.{as_good, is_canonical}
use Rattle.nodesets.specs.Pairs.{Sets}
use Rattle.sealing.specs.Forms.{node, none}

-- each option has a lower number than its node
abbrev pub Lower : List Sets → Type 0
Lower os = (i : ℕ) (s : Side) (k : ℕ) → slice_index_or os i none s k ≡ true → k < i

-- ws tells the order: k is in the set of i exactly when i and k are nodes, and i is as good as k
abbrev pub Ranked : List Sets → List Sets → Type 0
Ranked os ws = (i : ℕ) (s : Side) (k : ℕ) → slice_index_or ws i none s k ≡ ((nat_lt i (length os) && nat_lt k (length os)) && as_good s (node os i) (node os k))

-- each node is canonical
abbrev pub AllCanonical : List Sets → Type 0
AllCanonical os = (i : ℕ) → i < length os → is_canonical (node os i) ≡ true

-- no two nodes are equal in value
abbrev pub Apart : List Sets → Type 0
Apart os = (i j : ℕ) → (i < length os) × (j < length os) × (node os i ≈ node os j) → i ≡ j
