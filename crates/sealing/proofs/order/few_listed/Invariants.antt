-- What the loop keeps: the nodes of the set so far, which fit.
use Rattle.std.proofs.Common.{◌≡◌, ◌≤◌, length, take, filter}
use Rattle.nodesets.specs.Sets.{has}
use Rattle.sealing.proofs.order.few_listed.Given as goal

abbrev pub invariant-loop-node : goal.invariant-loop-node
invariant-loop-node g l = (l.nodes.items ≡ filter (has l.set) (take l.node-index l.listing)) × (length l.nodes.items ≤ g.row.MOST)
