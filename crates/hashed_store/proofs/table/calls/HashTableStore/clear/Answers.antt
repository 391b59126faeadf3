use Rattle.std.proofs.Common.{length, sym, refl, ap, ◌∙◌, arith}
use Rattle.hashed_store.proofs.Chains.{begins_none, goes_on_none}
use Rattle.hashed_store.proofs.table.calls.HashTableStore.clear.Goals as goal

pub invariant_of-self : goal.invariant_of-self
invariant_of-self c =
    let h = c.clear.ensures.rows in
    record { reserved = omega arith; level = c.clear-2.ensures.len ∙ sym (ap length h); full = refl; begins = begins_none _ _ h refl; goes_on = goes_on_none _ _ h }
