-- Numbers that stand for forms: a row of a store, the successors of a position.
-- Assumes nothing.
use Rattle.std.specs.Prelude.{ℕ, List, [], ◌∷◌}
use Rattle.games.specs.Form.{Form, Forms, form, ∅, ◌&◌}
use Rattle.games.specs.Sides.{Side, Left, Right}

-- two lists of numbers, Left's and Right's
pub record Lists : Type 0 where
  pub left : List ℕ
  pub right : List ℕ

-- the list of a side
abbrev pub list_of : Side → Lists → List ℕ
list_of Left l = l.left
list_of Right l = l.right

-- the forms that the numbers of a list stand for
abbrev pub each : (ℕ → Form) → List ℕ → Forms
each f [] = ∅
each f (n ∷ ns) = f n & each f ns

-- the form whose options are what the numbers of the two lists stand for
abbrev pub form_by : (ℕ → Form) → Lists → Form
form_by f l = form (each f l.left) (each f l.right)
