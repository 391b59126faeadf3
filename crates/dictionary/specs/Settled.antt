-- What pairs of sets sealed to, as far as a dictionary remembers it.
-- Assumes nothing.
use Rattle.std.specs.Prelude.{ℕ, ◌<◌, length}
use Rattle.games.specs.Numbered.{Lists, form_by}
use Rattle.games.specs.Order.{◌≈◌}
use Rattle.nodesets.specs.Pairs.{Sets}
use Rattle.sealing.specs.Remembering.{Remembers}
use Rattle.sealing.specs.declared.recent.Recent.{Recent}
use Rattle.calls.specs.Rows.{Rows, node, Below}
use Rattle.dictionary.specs.Kept.{ListsOf}

-- the numbers of two lists are nodes', and node n equals the form whose options those nodes' forms are
pub record Settled (rows : Rows) (d : Lists) (n : ℕ) : Type 0 where
  pub below : Below (length rows) d
  pub inside : n < length rows
  pub equals : node rows n ≈ form_by (node rows) d

-- what is remembered is right: the node equals the form of the two sets
abbrev pub Sure : Rows → Recent → Type 0
Sure rows r = (o : Sets) (n : ℕ) → Remembers r o n → (n < 384)
    × ((d : Lists) → ListsOf o d → Settled rows d n)
