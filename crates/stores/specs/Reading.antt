-- What the code's rows mean.
-- Assumes nothing.
use Rattle.std.specs.Prelude.{ℕ, List, take}
use Rattle.games.specs.Numbered.{Lists}
use Rattle.stores.specs.declared.numbers.Numbers.{Numbers}
use Rattle.stores.specs.declared.row.Sides.{Sides}

-- the numbers that a list of the code holds
abbrev pub numbers_of : {most : ℕ} → Numbers most → List ℕ
numbers_of n = take n.count n.items

-- a row of a store
abbrev pub Row : Type 0
Row = Sides 16

-- the two lists of a row
abbrev pub lists_of : {most : ℕ} → Sides most → Lists
lists_of r = record { left = numbers_of r.left; right = numbers_of r.right }
