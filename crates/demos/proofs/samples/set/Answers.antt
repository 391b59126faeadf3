-- One node more, and all of them.
use Rattle.nodesets.specs.Sets.{has}
use Rattle.demos.proofs.Naming.{one_more, all_named}
use Rattle.demos.proofs.samples.set.Goals as goal

pub loop-node-preserved : goal.loop-node-preserved
loop-node-preserved c = one_more c.args.nodes.now c.loop-node.node-index 0 (has c.loop-node.set) _ c.loop-node.invariant c.loop-node-test.true (simp c.from.ensures at c.insert.ensures)

pub returns : goal.returns
returns c = all_named c.args.nodes.now c.loop-node.node-index (has c.loop-node.set) c.loop-node.invariant c.loop-node-test.false
