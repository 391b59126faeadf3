-- Toads-and-Frogs on a strip of n cells, counted from the left from 0: base-4 digit i of the code is cell i.
-- Assumes nothing.
use Rattle.std.specs.Prelude.{ℕ, ◌+◌, ◌-◌, ◌*◌, ◌^◌, Bool, cond, ◌&&◌, ◌||◌, ltb, List, [], ◌∷◌, map, count_by, ◌==◌, nat_lt}
use Rattle.std.specs.List.{list_all, range_with_len}
use Rattle.bits.specs.Bits.{places}
use Rattle.bits.specs.Digits.{digit}
use Rattle.games.specs.declared.side.Side.{Side}
use Rattle.games.specs.declared.side.Side.TheVariants.{Left, Right}
use Rattle.games.specs.Sides.{other}
use Rattle.rulesets.specs.Rules.{Rules}
use Rattle.toads.specs.Cells.{Cell, Empty, Toad, Frog, digit_of}

-- the digits of the cells, from left to right
abbrev pub cells : ℕ → ℕ → List ℕ
cells n code = map (digit code) (range_with_len 0 n)

-- a code below 4^n is legal when no digit is 3
abbrev pub legal : ℕ → ℕ → Bool
legal n code = nat_lt code (4 ^ n) && list_all (λ d. ltb d 3) (cells n code)

-- the strip has a cell i, and it holds x
abbrev pub holds : ℕ → ℕ → Cell → ℕ → Bool
holds n code x i = nat_lt i n && digit code i == digit_of x

-- Left moves toads, rightwards; Right moves frogs, leftwards
abbrev pub piece : Side → Cell
piece Left = Toad
piece Right = Frog

-- the cell k places ahead of cell i, as the side moves
abbrev pub ahead : Side → ℕ → ℕ → ℕ
ahead Left i k = i + k
ahead Right i k = i - k

-- the side's piece in cell i can step into the empty cell ahead of it
abbrev pub steps : ℕ → ℕ → Side → ℕ → Bool
steps n code s i = holds n code (piece s) i && holds n code Empty (ahead s i 1)

-- it can leap over one piece of the other side into the empty cell just beyond
abbrev pub leaps : ℕ → ℕ → Side → ℕ → Bool
leaps n code s i = holds n code (piece s) i && (holds n code (piece (other s)) (ahead s i 1) && holds n code Empty (ahead s i 2))

abbrev pub can_move : ℕ → ℕ → Side → ℕ → Bool
can_move n code s i = steps n code s i || leaps n code s i

-- the cell that it moves into
abbrev pub target : ℕ → ℕ → Side → ℕ → ℕ
target n code s i = cond (steps n code s i) (ahead s i 1) (ahead s i 2)

-- the code after digit d has left cell i for cell j (`MoveReads` in Laws says what its cells hold)
abbrev pub shifted : ℕ → ℕ → ℕ → ℕ → ℕ
shifted d i j code = code - d * 4 ^ i + d * 4 ^ j

-- the code after the side has moved its piece in cell i
abbrev pub after : ℕ → ℕ → Side → ℕ → ℕ
after n code s i = shifted (digit_of (piece s)) i (target n code s i) code

-- two cells count for the rank when they hold, from left to right, toad and empty, toad and frog, or empty and frog
abbrev pub ranked : ℕ → ℕ → Bool
ranked a b = (a == 1 && (b == 0 || b == 2)) || (a == 0 && b == 2)

-- how many pairs of cells count
abbrev pub pairs : List ℕ → ℕ
pairs [] = 0
pairs (c ∷ cs) = count_by (ranked c) cs + pairs cs

-- the ruleset: successors go by the mover's cell
abbrev pub toads : ℕ → Rules
toads n = record {
  limit = 4 ^ n;
  width = 12;
  depth = 48;
  legal = legal n;
  rank = λ code. cond (legal n code) (pairs (cells n code)) 0;
  moves = λ s code. cond (legal n code) (map (after n code s) (places n (can_move n code s))) [];
}
