-- Two empty sets are no options.
-- Assumes nothing.
use Rattle.std.specs.Prelude.{◌≡◌, ℕ, false}
use Rattle.games.specs.declared.side.Side.{Side}
use Rattle.games.specs.declared.side.Side.TheVariants.{Left, Right}
use Rattle.nodesets.specs.declared.pair.Pair.{Pair}
use Rattle.nodesets.specs.Pairs.{by}
use Rattle.calls.specs.Rows.{no_numbers}
use Rattle.dictionary.specs.Kept.{ListsOf}
use Rattle.dictionary.proofs.Told.{are_none}

pub no_lists : (p : Pair) → ((s : Side) (k : ℕ) → by p s k ≡ false) → ListsOf (by p) no_numbers
no_lists p e Left = are_none (by p Left) (e Left)
no_lists p e Right = are_none (by p Right) (e Right)
