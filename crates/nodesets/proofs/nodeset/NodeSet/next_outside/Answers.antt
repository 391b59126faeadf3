-- A mask with every bit.
use Rattle.std.proofs.Common.{not}
use Rattle.nodesets.specs.Sets.{has}
use Rattle.nodesets.proofs.Next.{differs, next_same, full_mask}
use Rattle.nodesets.proofs.nodeset.NodeSet.next_outside.Goals as goal

pub returns : goal.returns
returns c = next_same (differs (has c.args.self.now) 18446744073709551615) (λ k. not (has c.args.self.now k)) c.args.from c.next.result (full_mask (has c.args.self.now)) c.next.ensures
