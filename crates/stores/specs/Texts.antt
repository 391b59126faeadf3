-- How a row is written: {0,1|2}.
-- Assumes nothing.
use Rattle.std.specs.Prelude.{ℕ, List, [], ◌∷◌, ◌++◌, codes, flat_map}
use Rattle.std.specs.Fmt.{decimal}
use Rattle.games.specs.Numbered.{Lists}

-- numbers with commas between them
abbrev pub numbers_text : List ℕ → List ℕ
numbers_text [] = []
numbers_text (n ∷ rest) = decimal n ++ flat_map (λ m. codes "," ++ decimal m) rest

-- the Left list and the Right list, with a bar between them
abbrev pub row_text : Lists → List ℕ
row_text l = codes "{" ++ (numbers_text l.left ++ (codes "|" ++ (numbers_text l.right ++ codes "}")))
