-- The set of the edges read so far.
use Rattle.std.proofs.Common.{◌≡◌, ℕ, ◌&&◌, ltb}
use Rattle.bits.specs.Bits.{bit}
use Rattle.hackenbush.specs.Hackenbush.{painted}
use Rattle.hackenbush.proofs.picture.making.coloured.Given as goal

abbrev pub invariant-loop-i : goal.invariant-loop-i
invariant-loop-i l = (j : ℕ) → bit l.set j ≡ (ltb j l.i && painted l.side l.edges j)
