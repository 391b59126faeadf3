-- The cells that were visited are decided.
use Rattle.std.proofs.Common.{◌≡◌, ℕ, ◌&&◌, ltb}
use Rattle.bits.specs.Bits.{bit}
use Rattle.domineering.specs.Domineering.{goes_on}
use Rattle.domineering.proofs.board.making.inner_cells.Given as goal

abbrev pub invariant-loop-cell : goal.invariant-loop-cell
invariant-loop-cell l = (i : ℕ) → bit l.inner i ≡ (ltb i l.cell && goes_on l.columns i)
