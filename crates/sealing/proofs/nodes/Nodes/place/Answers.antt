-- The test parts the listing at the node's place.
use Rattle.std.proofs.Common.{rules}
use Rattle.std.proofs.lemmas.List.Sorted.{IsPartitionPoint-from_clause}
use Rattle.nodesets.specs.Pairs.{by}
use Rattle.sealing.specs.Views.{links}
use Rattle.sealing.proofs.Placing.{is_earlier, parted, placed}
use Rattle.sealing.proofs.nodes.Nodes.place.Goals as goal

pub returns : goal.returns
returns c =
    let t = c.args.self.now in
    let ks = c.args.listing.now in
    let a = c.index.result.now in
    let h = c.requires in
    placed t ks c.args.k h.there h.below h.complete h.rises a c.index.ensures c.partition_point.result c.partition_point.ensures.bound
    (IsPartitionPoint-from_clause (is_earlier (links t) ks (by a.options)) ks _ c.partition_point.ensures.partitioned (parted t ks c.args.k h.there h.below h.complete h.rises a c.index.ensures) (λ x r f' k. search rules))
