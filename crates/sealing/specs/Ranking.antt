-- What the rows of the first i nodes learn of a new node.
-- Assumes nothing.
use Rattle.std.specs.Prelude.{◌≡◌, ℕ, ◌<◌, ◌≤◌, ◌&&◌, ◌||◌, List, length, get_or, ◌==◌, nat_lt, slice_index_or}
use Rattle.games.specs.declared.side.Side.{Side}
use Rattle.games.specs.Sides.{other}
use Rattle.nodesets.specs.Pairs.{Sets}
use Rattle.sealing.specs.Forms.{none}
use Rattle.sealing.specs.Rows.{options_of, worse_of}
use Rattle.sealing.specs.declared.row.Row.{Row}

-- A node below i has the new number n among those that it is as good as, where w has the node for the other side. All else is as it was.
pub record Ranking (rows after : List Row) (w : Sets) (n i : ℕ) : Type 0 where
  pub len : length after ≡ length rows
  pub options : options_of after ≡ options_of rows
  pub new : (j : ℕ) (s : Side) (k : ℕ) → j < i → get_or (worse_of after) j none s k ≡ (((k == n && nat_lt k 384) && w (other s) j) || get_or (worse_of rows) j none s k)
  pub old : (j : ℕ) → i ≤ j → slice_index_or (worse_of after) j none ≡ slice_index_or (worse_of rows) j none
