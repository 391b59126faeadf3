-- What the samples are made of.
-- Assumes nothing.
use Rattle.std.specs.Prelude.{ℕ, Bool, false, ◌&&◌, ◌||◌, List, [], ◌∷◌, ◌==◌, nat_lt}
use Rattle.hackenbush.specs.declared.edge.Edge.{Edge}
use Rattle.hackenbush.specs.declared.edge.Colour.{Colour}
use Rattle.hackenbush.specs.declared.edge.Colour.TheVariants.{Left}

-- k stands in the list, and is a number that a node can have
abbrev pub named : List ℕ → ℕ → Bool
named [] k = false
named (n ∷ ns) k = (k == n && nat_lt k 384) || named ns k

-- an edge of Left's on the ground, and one of the colour on top of it
abbrev pub stalk : Colour → List Edge
stalk c = record { from = 0; to = 1; colour = Left } ∷ record { from = 1; to = 2; colour = c } ∷ []
