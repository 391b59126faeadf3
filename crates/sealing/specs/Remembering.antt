-- What pairs of sets sealed to, as far as it is remembered.
-- Assumes nothing.
use Rattle.std.specs.Prelude.{◌≡◌, ℕ, ◌<◌, vec_len, vec_items, Some, None, slice_index_or}
use Rattle.games.specs.declared.side.Side.{Side}
use Rattle.nodesets.specs.Pairs.{Sets, by}
use Rattle.sealing.specs.declared.recent.Entry.{Entry}
use Rattle.sealing.specs.declared.recent.Recent.{Recent}

-- two pairs have the same sets
abbrev pub Same : Sets → Sets → Type 0
Same o p = (s : Side) (k : ℕ) → o s k ≡ p s k

-- a pair with these sets stands at some place, with this number
pub record Remembers (r : Recent) (o : Sets) (n : ℕ) : Type 0 where
  pub entry : Entry
  pub place : ℕ
  pub inside : place < vec_len r.entries
  pub stands : slice_index_or (vec_items r.entries) place None ≡ Some entry
  pub sets : Same (by entry.moves) o
  pub number : entry.node ≡ n
