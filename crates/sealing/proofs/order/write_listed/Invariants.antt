-- What the loop keeps.
use Rattle.std.proofs.Common.{◌≡◌, ◌≤◌, length, take, filter}
use Rattle.nodesets.specs.Sets.{has}
use Rattle.sealing.proofs.Writing.{written}
use Rattle.sealing.proofs.order.write_listed.Given as goal

abbrev pub invariant-loop-node : goal.invariant-loop-node
invariant-loop-node l = (l.n ≡ length (filter (has l.set) (take l.node-index l.listing))) × (l.n ≤ l.node-index) × (l.buffer ≡ written l.initial.buffer (filter (has l.set) (take l.node-index l.listing)))
