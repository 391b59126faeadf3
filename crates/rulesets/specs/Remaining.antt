-- What is left of a walk over a position's successors.
-- Assumes nothing.
use Rattle.std.specs.Prelude.{ℕ, List, drop}
use Rattle.rulesets.specs.declared.successors.Successors.{Successors}
use Rattle.rulesets.specs.Rules.{Rules}

-- the side's successors from the walk's index on, where `rules` is what the board means
abbrev pub moves_left : {R : Type 0} → (R → Rules) → Successors R → List ℕ
moves_left rules s = drop s.index ((rules s.board.now).moves s.side s.code)
