-- One word has one bit more; a number past the words changes nothing.
use Rattle.std.proofs.Common.{rules}
use Rattle.nodesets.proofs.Words.{mem_insert, insert_past}
use Rattle.nodesets.proofs.nodeset.NodeSet.insert.Goals as goal

pub returns-then-node-lt-MOST_NODES : goal.returns-then-node-lt-MOST_NODES
returns-then-node-lt-MOST_NODES c = mem_insert c.args.self.now.words c.args.node (search rules) c.if-node-lt-MOST_NODES.true

pub returns-else-node-lt-MOST_NODES : goal.returns-else-node-lt-MOST_NODES
returns-else-node-lt-MOST_NODES c = insert_past c.args.self.now.words c.args.node c.if-node-lt-MOST_NODES.false
