-- One word has one bit less; a number past the words changes nothing.
use Rattle.std.proofs.Common.{rules}
use Rattle.nodesets.proofs.Words.{mem_remove, remove_past}
use Rattle.nodesets.proofs.nodeset.NodeSet.remove.Goals as goal

pub returns-then-node-lt-MOST_NODES : goal.returns-then-node-lt-MOST_NODES
returns-then-node-lt-MOST_NODES c = mem_remove c.args.self.now.words c.args.node (search rules) c.if-node-lt-MOST_NODES.true

pub returns-else-node-lt-MOST_NODES : goal.returns-else-node-lt-MOST_NODES
returns-else-node-lt-MOST_NODES c = remove_past c.args.self.now.words c.args.node c.args.self.now.six c.if-node-lt-MOST_NODES.false
