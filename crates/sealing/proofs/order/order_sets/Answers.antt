-- One more node of the listing is in both sets or in neither, or parts them.
use Rattle.std.proofs.Common.{◌∙◌}
use Rattle.nodesets.specs.Sets.{has}
use Rattle.sealing.specs.Walks.{walk_order}
use Rattle.sealing.proofs.Walking.{walk_on, walk_ends}
use Rattle.sealing.proofs.order.order_sets.Goals as goal

pub loop-k-preserved : goal.loop-k-preserved
loop-k-preserved c =
    walk_on (has c.args.a.now) (has c.args.b.now) c.loop-k.rest.now c.in-Some.later.now c.in-Some.k.now (walk_order (has c.args.a.now) (has c.args.b.now) c.args.listing.now) c.in-Some.ensures.cases.0 c.loop-k.invariant
    c.contains-in_a.result c.contains-in_b.result (rw c.from-node.ensures at c.contains-in_a.ensures) (rw c.from-node.ensures at c.contains-in_b.ensures) c.if-in_a-in_b.false

pub returns-then-in_a-in_b : goal.returns-then-in_a-in_b
returns-then-in_a-in_b c =
    c.parted.ensures ∙ walk_ends (has c.args.a.now) (has c.args.b.now) c.loop-k.rest.now c.in-Some.later.now c.in-Some.k.now (walk_order (has c.args.a.now) (has c.args.b.now) c.args.listing.now) c.in-Some.ensures.cases.0 c.loop-k.invariant
    c.contains-in_a.result c.contains-in_b.result (rw c.from-node.ensures at c.contains-in_a.ensures) (rw c.from-node.ensures at c.contains-in_b.ensures) c.if-in_a-in_b.true c.has_any.result c.has_any-then-in_a-in_b.result c.has_any.ensures c.has_any-then-in_a-in_b.ensures
