-- Rulesets, and the game of a position.
-- Assumes nothing.
use Rattle.std.specs.Prelude.{◌≡◌, ℕ, zero, suc, ◌^◌, ◌<◌, ◌≤◌, Bool, true, false, List, [], length}
use Rattle.std.specs.List.{AllByRecursion}
use Rattle.games.specs.declared.side.Side.{Side}
use Rattle.games.specs.declared.side.Side.TheVariants.{Left, Right}
use Rattle.games.specs.Form.{Form, 𝟎}
use Rattle.games.specs.Numbered.{Lists, form_by}

-- A ruleset, by what it means: three numbers, which codes are legal, and each code's rank and lists of successors.
pub record Rules : Type 0 where
  pub limit : ℕ
  pub width : ℕ
  pub depth : ℕ
  pub legal : ℕ → Bool
  pub rank : ℕ → ℕ
  pub moves : Side → ℕ → List ℕ

-- The laws of a ruleset.
pub record Lawful (R : Rules) : Type 0 where
  -- the limit is from 1 to 2^60, the width at most 256, the depth at most 96
  pub limit_low : 1 ≤ R.limit
  pub limit_high : R.limit ≤ 2 ^ 60
  pub width_high : R.width ≤ 256
  pub depth_high : R.depth ≤ 96
  -- a legal code is below the limit
  pub below : (n : ℕ) → R.legal n ≡ true → n < R.limit
  -- no list is longer than the width, and no rank above the depth
  pub narrow : (s : Side) (n : ℕ) → length (R.moves s n) ≤ R.width
  pub shallow : (n : ℕ) → R.rank n ≤ R.depth
  -- every successor is legal and has a smaller rank
  pub falls : (s : Side) (n : ℕ) → AllByRecursion (λ m. (R.legal m ≡ true) × (R.rank m < R.rank n)) (R.moves s n)
  -- a code that is not legal has no successors and rank 0
  pub no_moves : (s : Side) (n : ℕ) → R.legal n ≡ false → R.moves s n ≡ []
  pub no_rank : (n : ℕ) → R.legal n ≡ false → R.rank n ≡ 0

-- the two lists of successors
abbrev pub successors : Rules → ℕ → Lists
successors R n = record { left = R.moves Left n; right = R.moves Right n }

-- The game of a position: the form whose options are the games of its successors.
-- The number bounds the depth of the recursion, and from the rank on it does not matter (`GameReads` in Laws).
abbrev pub game_in : Rules → ℕ → ℕ → Form
game_in R zero n = 𝟎
game_in R (suc k) n = form_by (game_in R k) (successors R n)

unfoldable pub game : Rules → ℕ → Form
game R n = game_in R (R.rank n) n
