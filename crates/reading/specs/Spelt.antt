-- The options of a bracket as they are written, up to the 17th of a side.
-- Assumes nothing.
use Rattle.std.specs.Prelude.{◌≡◌, take}
use Rattle.games.specs.Numbered.{Lists}
use Rattle.stores.specs.Reading.{numbers_of}
use Rattle.stores.specs.declared.row.Sides.{Sides}

-- the first 17 numbers of each of the two lists
abbrev pub spelt : Sides 17 → Lists → Type 0
spelt s l = (numbers_of s.left ≡ take 17 l.left) × (numbers_of s.right ≡ take 17 l.right)
