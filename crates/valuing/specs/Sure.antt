-- What valuing keeps from one position to the next.
-- Assumes nothing.
use Rattle.std.specs.Prelude.{◌≡◌, ℕ, ◌<◌, true, false}
use Rattle.rulesets.specs.Rules.{Rules, game}
use Rattle.calls.specs.Memory.{Remembered}
use Rattle.calls.specs.Rows.{Rows}

-- what a memory holds of the ruleset's positions may be told again: each number is a node that equals the game of its code,
-- and every part of that game equals some node; and no node has a number from 384 on
abbrev pub Sure : Rules → Rows → (ℕ → ℕ → Type 0) → Type 0
Sure R rows holds = (code n : ℕ) → holds code n → Remembered rows (game R code) n × (n < 384)

-- A memory that was lent for a call is given back: as it was where the code is not legal, and else with nothing but what may be told again.
pub data GivenBack {M : Type 0} (holds : M → ℕ → ℕ → Type 0) (R : Rules) (code : ℕ) (before : M) (rows : Rows) : M → Type 0 where
  untouched : R.legal code ≡ false → GivenBack holds R code before rows before
  renewed : {after : M} → R.legal code ≡ true → Sure R rows (holds after)
      → GivenBack holds R code before rows after
