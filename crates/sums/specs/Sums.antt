-- The minus of a ruleset, and the sum of two.
-- Assumes nothing.
use Rattle.std.specs.Prelude.{ℕ, ◌+◌, ◌*◌, ◌/◌, ◌%◌, ◌^◌, Bool, cond, ◌&&◌, List, [], ◌++◌, map, Some, None, Option, nat_le}
use Rattle.games.specs.declared.side.Side.{Side}
use Rattle.games.specs.Sides.{other}
use Rattle.rulesets.specs.Rules.{Rules}
use Rattle.sums.specs.declared.sum.Bounds.{Bounds}

-- Minus: the same positions, the sides swapped.
abbrev pub minus : Rules → Rules
minus R = record { limit = R.limit; width = R.width; depth = R.depth; legal = R.legal; rank = R.rank; moves = λ s. R.moves (other s) }

-- The sum keeps to the bounds of a ruleset, where limits multiply, and widths and depths add.
abbrev pub fits : Rules → Rules → Bool
fits A B = nat_le (A.limit * B.limit) (2 ^ 60) && (nat_le (A.width + B.width) 256 && nat_le (A.depth + B.depth) 96)

-- The limit, width and depth of a sum that fits.
abbrev pub sum_bounds : Rules → Rules → Option Bounds
sum_bounds A B = cond (fits A B) (Some (record { limit = A.limit * B.limit; width = A.width + B.width; depth = A.depth + B.depth })) None

-- A code of the sum is a × (limit of the second) + b, where a and b are the parts' codes; it is legal where both are and the parts fit.
abbrev pub first_code : Rules → ℕ → ℕ
first_code B n = n / B.limit

abbrev pub second_code : Rules → ℕ → ℕ
second_code B n = n % B.limit

abbrev pub code_of : Rules → ℕ → ℕ → ℕ
code_of B a b = a * B.limit + b

abbrev pub legal_both : Rules → Rules → ℕ → Bool
legal_both A B n = fits A B && (A.legal (first_code B n) && B.legal (second_code B n))

-- The parts' codes of a legal code.
abbrev pub part_codes : Rules → Rules → ℕ → Option (ℕ × ℕ)
part_codes A B n = cond (legal_both A B n) (Some (first_code B n, second_code B n)) None

-- The successors: a move in the first part, the second as it is; after those, a move in the second.
abbrev pub moves_in : Rules → Rules → Side → ℕ → ℕ → List ℕ
moves_in A B s a b = map (λ m. code_of B m b) (A.moves s a) ++ map (λ m. code_of B a m) (B.moves s b)

-- The sum; parts that do not fit have no legal code, and limit 1.
abbrev pub plus : Rules → Rules → Rules
plus A B = record {
  limit = cond (fits A B) (A.limit * B.limit) 1;
  width = cond (fits A B) (A.width + B.width) 0;
  depth = cond (fits A B) (A.depth + B.depth) 0;
  legal = legal_both A B;
  rank = λ n. cond (legal_both A B n) (A.rank (first_code B n) + B.rank (second_code B n)) 0;
  moves = λ s n. cond (legal_both A B n) (moves_in A B s (first_code B n) (second_code B n)) [];
}
