-- Domineering: the cells of a board, the dominoes that fit, and the rules.
-- Cells are numbered row by row from 0, and bit i of a code is 1 where cell i is filled.
-- Assumes nothing.
use Rattle.std.specs.Prelude.{ℕ, ◌+◌, ◌*◌, ◌/◌, ◌%◌, ◌^◌, Bool, true, cond, not, ◌&&◌, [], map, length, bit_or, nat_le, nat_lt}
use Rattle.bits.specs.Bits.{bit, places}
use Rattle.games.specs.declared.side.Side.{Side}
use Rattle.games.specs.declared.side.Side.TheVariants.{Left, Right}
use Rattle.rulesets.specs.Rules.{Rules}

-- a board has 1 to 30 cells, in r rows of c
abbrev pub sized : ℕ → ℕ → Bool
sized r c = nat_le 1 (r * c) && nat_le (r * c) 30

-- cell i is one of so many cells, and empty
abbrev pub free : ℕ → ℕ → ℕ → Bool
free cells n i = nat_lt i cells && not (bit n i)

-- how far a domino's second cell is from its first: a row for Left, a cell for Right
abbrev pub reach : Side → ℕ → ℕ
reach Left c = c
reach Right c = 1

-- in rows of c cells, cell i is not the last of its row
abbrev pub goes_on : ℕ → ℕ → Bool
goes_on c i = nat_lt (i % c + 1) c

-- a domino lies right from cell i on: one of Right's does not pass the end of a row
abbrev pub lies : Side → ℕ → ℕ → Bool
lies Left c i = true
lies Right c i = goes_on c i

-- a domino of the side fits on cell i and the cell that it reaches: both are empty cells of the board
abbrev pub fits : Side → ℕ → ℕ → ℕ → ℕ → Bool
fits s r c n i = free (r * c) n i && (free (r * c) n (i + reach s c) && lies s c i)

-- the code with both cells filled
abbrev pub covered : Side → ℕ → ℕ → ℕ → ℕ
covered s c n i = bit_or (bit_or n (2 ^ i)) (2 ^ (i + reach s c))

-- every code below the limit is legal
abbrev pub legal : ℕ → ℕ → ℕ → Bool
legal r c n = nat_lt n (2 ^ (r * c))

-- The rules on r rows of c cells: every code below the limit is legal, successors go by the domino's first cell,
-- and the rank is half the number of empty cells.
abbrev pub domineering : ℕ → ℕ → Rules
domineering r c = record {
  limit = 2 ^ (r * c);
  width = 30;
  depth = 15;
  legal = legal r c;
  rank = λ n. cond (legal r c n) (length (places (r * c) (free (r * c) n)) / 2) 0;
  moves = λ s n. cond (legal r c n) (map (covered s c n) (places (r * c) (fits s r c n))) [];
}
