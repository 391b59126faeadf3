-- A number more on a side of two lists.
-- Assumes nothing.
use Rattle.std.specs.Prelude.{ℕ, [], ◌∷◌, ◌++◌}
use Rattle.games.specs.declared.side.Side.{Side}
use Rattle.games.specs.declared.side.Side.TheVariants.{Left, Right}
use Rattle.games.specs.Numbered.{Lists}

abbrev pub with_number : Side → ℕ → Lists → Lists
with_number Left n l = record { left = l.left ++ n ∷ []; right = l.right }
with_number Right n l = record { left = l.left; right = l.right ++ n ∷ [] }
