-- What the loop keeps: no number that it has passed differs from the mask.
use Rattle.std.proofs.Common.{◌≡◌, ℕ, ◌-◌, ◌<◌, ◌≤◌, false}
use Rattle.nodesets.specs.Sets.{has}
use Rattle.nodesets.proofs.Next.{differs}
use Rattle.nodesets.proofs.nodeset.NodeSet.next.Given as goal

abbrev pub invariant-loop-k : goal.invariant-loop-k
invariant-loop-k l = (l.from ≤ l.k) × ((j : ℕ) → l.from ≤ j → j < l.k → differs (has l.self) l.mask j ≡ false)

abbrev pub decreases-loop-k : goal.decreases-loop-k
decreases-loop-k l = 384 - l.k
