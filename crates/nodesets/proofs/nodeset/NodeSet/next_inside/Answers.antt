-- A mask with no bit.
use Rattle.nodesets.specs.Sets.{has}
use Rattle.nodesets.proofs.Next.{differs, next_same, no_mask}
use Rattle.nodesets.proofs.nodeset.NodeSet.next_inside.Goals as goal

pub returns : goal.returns
returns c = next_same (differs (has c.args.self.now) 0) (has c.args.self.now) c.args.from c.next.result (no_mask (has c.args.self.now)) c.next.ensures
