use Rattle.std.proofs.Common.{length, sym, refl, ap, ◌∙◌, arith}
use Rattle.hashed_store.proofs.Chains.{begins_none, goes_on_none, one_chain}
use Rattle.hashed_store.proofs.table.HashTable.new.Goals as goal

pub invariant_of-result : goal.invariant_of-result
invariant_of-result c =
    let h = c.in_ok-list.ensures in
    let k = c.in_ok-lowers.ensures in
    record { reserved = omega (arith, h.2, k.capacity); level = k.len ∙ sym (ap length h.1); full = refl; begins = begins_none _ _ h.1 refl; goes_on = goes_on_none _ _ h.1 }

pub returns-in_err-list-clause-chains : goal.returns-in_err-list-clause-chains
returns-in_err-list-clause-chains c = one_chain

pub returns-in_err-lowers-clause-chains : goal.returns-in_err-lowers-clause-chains
returns-in_err-lowers-clause-chains c = one_chain

pub returns-clause-chains : goal.returns-clause-chains
returns-clause-chains c = one_chain
