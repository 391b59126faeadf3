-- The theorems on rulesets, as statements that contracts name.
-- Assumes nothing.
use Rattle.std.specs.Prelude.{◌≡◌, ℕ}
use Rattle.games.specs.Numbered.{form_by}
use Rattle.rulesets.specs.Rules.{Rules, successors, game}

-- The game of a position is the form whose options are the games of its successors.
abbrev pub GameReads : Rules → Type 0
GameReads R = (n : ℕ) → game R n ≡ form_by (game R) (successors R n)
