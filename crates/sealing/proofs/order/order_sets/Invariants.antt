-- What the loop keeps: what is left compares as the whole does.
use Rattle.std.proofs.Common.{◌≡◌, length}
use Rattle.nodesets.specs.Sets.{has}
use Rattle.sealing.specs.Walks.{walk_order}
use Rattle.sealing.proofs.order.order_sets.Given as goal

abbrev pub invariant-loop-k : goal.invariant-loop-k
invariant-loop-k l = walk_order (has l.a) (has l.b) l.rest ≡ walk_order (has l.a) (has l.b) l.listing

abbrev pub decreases-loop-k : goal.decreases-loop-k
decreases-loop-k l = length l.rest
