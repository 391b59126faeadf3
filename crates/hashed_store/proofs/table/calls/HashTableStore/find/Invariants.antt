use Rattle.stores.specs.Kept.{rows_in}
use Rattle.stores.specs.Reading.{lists_of}
use Rattle.hashed_store.proofs.Chains.{Walk, reach}
use Rattle.hashed_store.proofs.table.calls.HashTableStore.find.Given as goal

abbrev pub invariant-loop-next : goal.invariant-loop-next
invariant-loop-next l = Walk (rows_in l.self.list) (lists_of l.row) l.next l.found

abbrev pub decreases-loop-next : goal.decreases-loop-next
decreases-loop-next l = reach l.next
