-- The row of the node tells.
use Rattle.std.proofs.Common.{ap, ◌∙◌, arith}
use Rattle.std.specs.Ordering.{is_lt}
use Rattle.nodesets.specs.Pairs.{by}
use Rattle.sealing.proofs.Placing.{earlier_row}
use Rattle.sealing.proofs.nodes.Nodes.is_before.Goals as goal

pub returns-then-node-len : goal.returns-then-node-len
returns-then-node-len c =
    c.is_lt.ensures ∙ ap is_lt c.order_pairs.ensures
    ∙ earlier_row c.args.self.now c.args.listing.now (by c.args.options.now) c.args.node (omega (arith, c.from-node.ensures, c.len.ensures, c.if-node-len.true)) c.index.result.now (rw c.from-node.ensures at c.index.ensures)
