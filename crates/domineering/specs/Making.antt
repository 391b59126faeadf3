-- What making a board answers.
-- Assumes nothing.
use Rattle.std.specs.Prelude.{◌≡◌, ℕ, true, false, Ok, Err, Result}
use Rattle.rulesets.specs.declared.fault.BoardFault.{BoardFault}
use Rattle.rulesets.specs.declared.fault.BoardFault.TheVariants.{Size}
use Rattle.rulesets.specs.Rules.{Rules}
use Rattle.domineering.specs.declared.board.Board.{Board}
use Rattle.domineering.specs.Domineering.{sized, domineering}

-- what a board means
abbrev pub board_rules : Board → Rules
board_rules b = domineering b.rows b.columns

-- A board of r rows and c columns is made when it has 1 to 30 cells, and it plays Domineering; any other size is refused.
abbrev pub Made : ℕ → ℕ → Result Board BoardFault → Type 0
Made r c (Ok b) = (sized r c ≡ true) × (board_rules b ≡ domineering r c)
Made r c (Err e) = (sized r c ≡ false) × (e ≡ Size)
