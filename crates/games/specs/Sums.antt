-- The negative of a game, and the sum of two.
-- Assumes nothing.
use Rattle.std.specs.Prelude.{ℕ, zero, suc, ◌+◌}
use Rattle.games.specs.Form.{Form, Forms, form, ∅, ◌&◌, lefts, rights, ◌⧺◌, 𝟎, size}

infixl 45 ◌⊕◌
-- the negative: the sides are swapped, in the options too
abbrev mutual
  pub negative : Form → Form
  negative (form ls rs) = form (negatives rs) (negatives ls)

  pub negatives : Forms → Forms
  negatives ∅ = ∅
  negatives (g & gs) = negative g & negatives gs

-- each form of a list changed in one way
abbrev pub changed : (Form → Form) → Forms → Forms
changed f ∅ = ∅
changed f (g & gs) = f g & changed f gs

-- The disjunctive sum of G and H: a move in it is a move in one of the two, and those in G stand first.
-- The number bounds the depth of the recursion, and from size G + size H on it does not matter (`SumReads` in Laws).
abbrev pub sum_in : ℕ → Form → Form → Form
sum_in zero g h = 𝟎
sum_in (suc n) g h = form (changed (λ l. sum_in n l h) (lefts g) ⧺ changed (λ l. sum_in n g l) (lefts h)) (changed (λ r. sum_in n r h) (rights g) ⧺ changed (λ r. sum_in n g r) (rights h))

unfoldable pub ◌⊕◌ : Form → Form → Form
g ⊕ h = sum_in (size g + size h) g h
