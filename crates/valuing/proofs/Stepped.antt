-- What value and first move do makes them calls of a run.
-- Assumes nothing.
use Rattle.std.proofs.Common.{ℕ, Option, sym, subst}
use Rattle.games.specs.declared.side.Side.{Side}
use Rattle.rulesets.specs.Rules.{Rules, Lawful}
use Rattle.calls.specs.Answers.{Answer}
use Rattle.calls.specs.Positions.{FirstMoves, Values}
use Rattle.calls.specs.Rows.{Rows}
use Rattle.calls.specs.Runs.{Call}
use Rattle.valuing.specs.Moved.{Moved}
use Rattle.valuing.specs.Stepping.{FirstMoveSteps, ValueSteps}
use Rattle.valuing.specs.Valued.{Valued}

pub value_steps : (R : Rules) → Lawful R → (capacity : ℕ) (rows : Rows) (code : ℕ) (a : Answer ℕ) (after : Rows) → Valued R capacity rows code a after → ValueSteps R capacity rows code a after
value_steps R lawful capacity rows code a after v p e = (v.entries, v.holds, Call.value R lawful code (subst (λ r. Values R capacity r code a after v.entries) (sym e) v.holds))

pub first_move_steps : (R : Rules) → Lawful R → (capacity : ℕ) (rows : Rows) (s : Side) (code : ℕ) (a : Answer (Option ℕ)) (after : Rows) → Moved R capacity rows s code a after → FirstMoveSteps R capacity rows s code a after
first_move_steps R lawful capacity rows s code a after m p e = (m.entries, m.holds, Call.first_move R lawful s code (subst (λ r. FirstMoves R capacity r s code a after m.entries) (sym e) m.holds))
