-- The bit is read where there is one, and past the words there is none.
use Rattle.std.proofs.Common.{sym, refl, ◌∙◌}
use Rattle.std.proofs.lemmas.Bool.{le-ltb}
use Rattle.bits.specs.Bits.{bit}
use Rattle.nodesets.specs.Sets.{mem}
use Rattle.nodesets.proofs.Words.{mem_past}
use Rattle.nodesets.proofs.nodeset.NodeSet.contains.Goals as goal

pub returns-then-node-lt-MOST_NODES : goal.returns-then-node-lt-MOST_NODES
unfolding bit mem
returns-then-node-lt-MOST_NODES c = refl

pub returns-else-node-lt-MOST_NODES : goal.returns-else-node-lt-MOST_NODES
returns-else-node-lt-MOST_NODES c =
    le-ltb c.args.node 384 c.if-node-lt-MOST_NODES.false ∙ sym (mem_past c.args.self.now.words c.args.node c.args.self.now.six c.if-node-lt-MOST_NODES.false)
