-- Past the words there is no member.
use Rattle.nodesets.specs.Sets.{has}
use Rattle.nodesets.proofs.Words.{mem_past}
use Rattle.nodesets.proofs.Next.{below_by_next}
use Rattle.nodesets.proofs.nodeset.NodeSet.is_below.Goals as goal

pub returns : goal.returns
returns c = below_by_next (has c.args.self.now) c.args.n c.next_inside.result c.is_none.result c.is_none.ensures (λ k h. mem_past c.args.self.now.words k c.args.self.now.six h) c.next_inside.ensures
