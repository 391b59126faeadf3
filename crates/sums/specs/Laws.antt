-- The theorems on minus and sums, as statements that contracts name.
-- Assumes nothing.
use Rattle.std.specs.Prelude.{◌≡◌, ℕ, true}
use Rattle.games.specs.Form.{𝟎}
use Rattle.games.specs.Order.{◌≈◌}
use Rattle.games.specs.Sums.{negative, ◌⊕◌}
use Rattle.rulesets.specs.Rules.{Rules, game}
use Rattle.sums.specs.Sums.{fits, minus, plus, first_code, second_code, code_of}

-- The game of a minus is the negative of the game.
abbrev pub MinusIsNegative : Rules → Type 0
MinusIsNegative R = (n : ℕ) → game (minus R) n ≡ negative (game R n)

-- The sum of a position and the same in the minus equals 0.
abbrev pub MinusCancels : Rules → Type 0
MinusCancels R = fits R (minus R) ≡ true → (n : ℕ) → R.legal n ≡ true → game (plus R (minus R)) (code_of R n n) ≈ 𝟎

-- The game of a sum is the sum of the games.
abbrev pub SumAdds : Rules → Rules → Type 0
SumAdds A B = (n : ℕ) → (plus A B).legal n ≡ true → game (plus A B) n ≡ game A (first_code B n) ⊕ game B (second_code B n)
