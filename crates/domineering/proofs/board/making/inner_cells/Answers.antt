-- Each turn decides one cell more.
use Rattle.std.proofs.Common.{arith}
use Rattle.std.proofs.lemmas.Bool.{lt-ltb, le-ltb}
use Rattle.domineering.proofs.Masks.{inner_none, inner_mark, inner_skip}
use Rattle.domineering.proofs.board.making.inner_cells.Goals as goal
use Rattle.domineering.proofs.board.making.inner_cells.Goals.{then-cell-columns, else-cell-columns}

pub loop-cell-init : goal.loop-cell-init
loop-cell-init c i = inner_none c.args.columns i

pub loop-cell-preserved : goal.loop-cell-preserved
loop-cell-preserved c i = elim c.if-cell-columns.branch [
  | then-cell-columns w ↦ rw w.inner-is (inner_mark c.args.columns c.loop-cell.cell c.loop-cell.inner c.loop-cell.invariant (omega arith) (lt-ltb _ _ w.if-cell-columns.true) i)
  | else-cell-columns w ↦ rw w.inner-is (inner_skip c.args.columns c.loop-cell.cell c.loop-cell.inner c.loop-cell.invariant (le-ltb _ _ (omega arith)) i)
]
