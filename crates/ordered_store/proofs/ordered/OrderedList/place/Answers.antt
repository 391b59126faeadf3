use Rattle.std.proofs.Common.{rules, arith}
use Rattle.std.proofs.lemmas.List.Sorted.{IsPartitionPoint-from_clause}
use Rattle.stores.specs.Reading.{lists_of}
use Rattle.ordered_store.proofs.Rising.{comes_first, parted, belongs}
use Rattle.ordered_store.proofs.ordered.OrderedList.place.Goals as goal

pub returns : goal.returns
returns c =
    let h = c.args.self.now.rises in
    let test = comes_first _ _ h (lists_of c.args.row.now) c.args.number in
    let p = parted _ _ h (lists_of c.args.row.now) c.args.number in
    belongs _ _ h (lists_of c.args.row.now) c.args.number _ (omega arith)
    (IsPartitionPoint-from_clause test _ _ (rw c.deref.ensures.value at c.partition_point.ensures.partitioned) p (λ a r f' k. search rules))
