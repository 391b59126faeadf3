-- The set has the ends of the edges read so far.
use Rattle.std.proofs.Common.{◌≡◌, ℕ, ◌||◌, drop}
use Rattle.bits.specs.Bits.{bit}
use Rattle.hackenbush.specs.Hackenbush.{touched}
use Rattle.hackenbush.proofs.picture.making.span.Given as goal

abbrev pub invariant-loop-edge : goal.invariant-loop-edge
invariant-loop-edge l = (v : ℕ) → (bit l.set v || touched (drop l.edge-index l.edges) v) ≡ touched l.edges v
