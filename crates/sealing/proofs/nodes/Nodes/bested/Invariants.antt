-- What the loop keeps: what was taken has been gathered.
use Rattle.std.proofs.Common.{◌≡◌, ℕ, true, not, ◌||◌}
use Rattle.nodesets.specs.Sets.{has}
use Rattle.sealing.specs.Steps.{bested_by}
use Rattle.sealing.specs.Views.{ranks}
use Rattle.sealing.proofs.LeftOut.{left_out}
use Rattle.sealing.proofs.nodes.Nodes.bested.Given as goal

abbrev pub invariant-loop-node : goal.invariant-loop-node
invariant-loop-node l =
    ((h : ℕ) → (has l.all h || bested_by (ranks l.self) l.side (has l.rest) h) ≡ bested_by (ranks l.self) l.side (has l.set) h) × ((k : ℕ) → has l.rest k ≡ true → has l.set k ≡ true)

abbrev pub decreases-loop-node : goal.decreases-loop-node
decreases-loop-node l = left_out (λ k. not (has l.rest k)) 384
