-- The lowest number outside what is in both.
use Rattle.std.proofs.Common.{not, ◌&&◌, ap}
use Rattle.nodesets.specs.Sets.{has}
use Rattle.nodesets.proofs.Next.{next_same}
use Rattle.nodesets.proofs.nodeset.NodeSet.missing.Goals as goal

pub returns : goal.returns
returns c = next_same (λ k. not (has c.intersection.result k)) (λ k. not (has c.args.self.now k && has c.args.other.now k)) 0 c.next_outside.result (λ k. ap not (c.intersection.ensures k)) c.next_outside.ensures
