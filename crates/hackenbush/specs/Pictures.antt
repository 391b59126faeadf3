-- What a picture means.
-- Assumes nothing.
use Rattle.std.specs.Prelude.{◌≡◌, true, false, List, take, Ok, Err, Result}
use Rattle.rulesets.specs.declared.fault.BoardFault.{BoardFault}
use Rattle.rulesets.specs.declared.fault.BoardFault.TheVariants.{Size}
use Rattle.hackenbush.specs.declared.edge.Edge.{Edge}
use Rattle.hackenbush.specs.declared.picture.Picture.{Picture}
use Rattle.hackenbush.specs.Hackenbush.{fits}

-- the edges of a picture, in their order
abbrev pub edges_of : Picture → List Edge
edges_of p = take p.count p.edges

-- A picture is made of these edges when they fit its size, and is refused otherwise.
abbrev pub Made : List Edge → Result Picture BoardFault → Type 0
Made es (Ok p) = (fits es ≡ true) × (edges_of p ≡ es)
Made es (Err f) = (fits es ≡ false) × (f ≡ Size)
