-- The numbers told for a bracket's options, as a text is walked through; the contracts of the walk speak of them.
-- Assumes nothing.
use Rattle.std.specs.Prelude.{ℕ, List, [], ◌∷◌, ◌++◌}
use Rattle.games.specs.Numbered.{Lists}
use Rattle.games.specs.Reader.{Bracket, in_left, in_right}

-- a number more, on the side that the bracket is in
abbrev pub put_number : ℕ → Bracket → Lists → Lists
put_number n (in_left ls) l = record { left = l.left ++ n ∷ []; right = l.right }
put_number n (in_right ls rs) l = record { left = l.left; right = l.right ++ n ∷ [] }

-- the same for the innermost of the brackets that are open, if there is one
abbrev pub put_outside : ℕ → List Bracket → List Lists → List Lists
put_outside n [] ls = ls
put_outside n (b ∷ bs) [] = []
put_outside n (b ∷ bs) (l ∷ ls) = put_number n b l ∷ ls
