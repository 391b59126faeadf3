-- The lowest number of what is in both.
use Rattle.nodesets.specs.Sets.{has}
use Rattle.nodesets.proofs.Words.{mem_past}
use Rattle.nodesets.proofs.Next.{lowest_common}
use Rattle.nodesets.proofs.nodeset.NodeSet.common.Goals as goal

pub returns : goal.returns
returns c =
    lowest_common (has c.args.self.now) (has c.args.other.now) (has c.intersection.result) c.next_inside.result c.intersection.ensures
    (λ k h. mem_past c.args.self.now.words k c.args.self.now.six h)
    c.next_inside.ensures
