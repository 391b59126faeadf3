use Rattle.std.proofs.Common.{◌≡◌, ◌+◌, length, vec_items, ap, ◌∙◌, arith, rules}
use Rattle.std.proofs.lemmas.List.{length_push, length-set}
use Rattle.stores.specs.Kept.{rows_in}
use Rattle.stores.specs.Reading.{lists_of}
use Rattle.stores.proofs.Appends.{taken}
use Rattle.hashed_store.proofs.Chains.{begins_kept, goes_on_kept}
use Rattle.hashed_store.proofs.table.calls.HashTableStore.append.Goals as goal

pub invariant_of-self-2 : goal.invariant_of-self-2
invariant_of-self-2 c =
    let h = c.in_ok-number.ensures in
    let t = taken (rows_in c.args.self.now.list) (rows_in c.append.new.self) c.args.self.now.list.capacity c.in_ok-number.number (lists_of c.args.row) h.answer h.rows in
    let full = c.args.self.now.full in
    let grown : length (rows_in c.append.new.self) ≡ length (rows_in c.args.self.now.list) + 1 = ap length t.last ∙ length_push (rows_in c.args.self.now.list) (lists_of c.args.row) in
    let begun = begins_kept _ _ _ _ _ t _ c.chain_of-chain.ensures.chain c.chain_of-chain.ensures.below c.args.self.now.firsts full c.args.self.now.begins in
    let gone = goes_on_kept _ _ _ _ _ t _ c.chain_of-chain.ensures.chain c.chain_of-chain.ensures.below c.args.self.now.firsts (vec_items c.args.self.now.lowers) (vec_items c.push_reserved.new.self) (omega arith) c.args.self.now.begins c.args.self.now.goes_on (search rules) in
    record { reserved = omega (arith, h.capacity); level = omega (arith, grown); full = length-set c.args.self.now.firsts _ _ ∙ full; begins = begun; goes_on = gone }
