-- Two positions with the same rules and the same code.
-- Assumes nothing.
use Rattle.std.proofs.Common.{◌≡◌, ℕ, Some, Option, ap₂}
use Rattle.rulesets.specs.Rules.{Rules}
use Rattle.boards.specs.Boards.{Position}

abbrev pub at_code : Rules → ℕ → Option Position
at_code R n = Some (record { rules = R; code = n })

pub same_position : {R S : Rules} {m n : ℕ} → R ≡ S → m ≡ n → at_code R m ≡ at_code S n
same_position r c = ap₂ at_code r c
