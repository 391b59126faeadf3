-- A list of calls worked through, so that none of the laws on lists of calls is empty.
-- Assumes nothing.
use Rattle.std.specs.Prelude.{◌≡◌, ℕ, zero, suc, Bool, true, false, List, [], ◌∷◌}
use Rattle.games.specs.declared.side.Side.{Side}
use Rattle.games.specs.declared.side.Side.TheVariants.{Left, Right}
use Rattle.games.specs.Form.{form, ∅, ◌&◌, 𝟎, 𝟏}
use Rattle.games.specs.Numbered.{Lists}
use Rattle.games.specs.Text.{bytes}
use Rattle.rulesets.specs.Rules.{Rules}
use Rattle.calls.specs.Rows.{no_numbers}
use Rattle.calls.specs.Entering.{entry}
use Rattle.calls.specs.Runs.{Past, Reached}

-- a ruleset with two positions: at 1 Left may move to 0, and that is all
abbrev pub counter_legal : ℕ → Bool
counter_legal zero = true
counter_legal (suc zero) = true
counter_legal (suc (suc n)) = false

abbrev pub counter_rank : ℕ → ℕ
counter_rank zero = 0
counter_rank (suc zero) = 1
counter_rank (suc (suc n)) = 0

abbrev pub counter_moves : Side → ℕ → List ℕ
counter_moves Left zero = []
counter_moves Left (suc zero) = 0 ∷ []
counter_moves Left (suc (suc n)) = []
counter_moves Right n = []

abbrev pub counter : Rules
counter = record { limit = 2; width = 1; depth = 1; legal = counter_legal; rank = counter_rank; moves = counter_moves }

-- the rows of 0, of 1 = {0|}, and of 2 = {1|}
abbrev pub row_of_1 : Lists
row_of_1 = record { left = 0 ∷ []; right = [] }

abbrev pub row_of_2 : Lists
row_of_2 = record { left = 1 ∷ []; right = [] }

-- With a capacity of 3: position 1 is valued, then 7, which is refused; a first move of Left on 1 is told; {0,1|} is read; a draft is opened, 0 is put
-- on its Left, and it is abandoned; it is opened again, 1 is put on its Left and 384 refused, and it is sealed; and node 2 is printed.
-- This leaves three rows, two entries of node 2, drafted as {1|} and read as {0,1|}, and the text of {1|}.
abbrev pub WorkedRun : Type 0
WorkedRun = (p : Past) × Reached 3 p × (p.rows ≡ no_numbers ∷ row_of_1 ∷ row_of_2 ∷ [])
    × (p.entries ≡ entry 2 (form (𝟏 & ∅) ∅) ∷ entry 2 (form (𝟎 & (𝟏 & ∅)) ∅) ∷ entry 1 𝟏 ∷ entry 0 𝟎 ∷ entry 0 𝟎 ∷ entry 0 𝟎 ∷ entry 1 𝟏 ∷ entry 0 𝟎 ∷ [])
    × (p.printed ≡ record { number = 2; text = bytes (form (𝟏 & ∅) ∅) } ∷ [])

-- A shorter list, which asks for no first move and abandons no draft, with a capacity of 3 too: position 1 is valued, then 7, which is refused;
-- {0,1|} is read; a draft is opened, 1 is put on its Left and 384 refused, and it is sealed; and node 2 is printed.
-- This leaves the same rows and the same text, and one entry of 0 fewer.
abbrev pub ShorterRun : Type 0
ShorterRun = (p : Past) × Reached 3 p × (p.rows ≡ no_numbers ∷ row_of_1 ∷ row_of_2 ∷ [])
    × (p.entries ≡ entry 2 (form (𝟏 & ∅) ∅) ∷ entry 2 (form (𝟎 & (𝟏 & ∅)) ∅) ∷ entry 1 𝟏 ∷ entry 0 𝟎 ∷ entry 0 𝟎 ∷ entry 1 𝟏 ∷ entry 0 𝟎 ∷ [])
    × (p.printed ≡ record { number = 2; text = bytes (form (𝟏 & ∅) ∅) } ∷ [])
