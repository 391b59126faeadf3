-- The forms of numbered nodes. A node's options are nodes of lower numbers, given by a set for each side.
-- Assumes nothing.
use Rattle.std.specs.Prelude.{ℕ, suc, Bool, false, cond, List, [], ◌∷◌, ◌++◌, slice_index_or}
use Rattle.games.specs.Form.{Form, Forms, form, ∅, ◌&◌, 𝟎}
use Rattle.games.specs.declared.side.Side.TheVariants.{Left, Right}
use Rattle.nodesets.specs.Pairs.{Sets}
use Rattle.sealing.specs.Arranged.{arranged}

-- no number on either side
abbrev pub none : Sets
none s k = false

-- of the forms fs, numbered from i, those whose number is in the set
abbrev pub picked : (ℕ → Bool) → ℕ → List Form → Forms
picked p i [] = ∅
picked p i (f ∷ fs) = cond (p i) (f & picked p (suc i) fs) (picked p (suc i) fs)

-- the form whose options are those of fs that the sets name, in listing order
unfoldable pub made : Sets → List Form → Form
made o fs = form (arranged (picked (o Left) 0 fs)) (arranged (picked (o Right) 0 fs))

-- the forms of all nodes, each made of those before it
abbrev pub grown : List Form → List Sets → List Form
grown fs [] = fs
grown fs (o ∷ os) = grown (fs ++ (made o fs ∷ [])) os

unfoldable pub forms : List Sets → List Form
forms os = grown [] os

-- the form of the node k
unfoldable pub node : List Sets → ℕ → Form
node os k = slice_index_or (forms os) k 𝟎

-- the form whose options are the nodes of the sets
unfoldable pub game : List Sets → Sets → Form
game os o = made o (forms os)
