-- The nodes so far are in the set.
use Rattle.nodesets.specs.Sets.{has}
use Rattle.demos.proofs.Naming.{Together}
use Rattle.demos.proofs.samples.set.Given as goal

abbrev pub invariant-loop-node : goal.invariant-loop-node
invariant-loop-node l = Together l.nodes l.node-index (has l.set)
