use Rattle.std.proofs.Common.{◌≡◌, length, vec_items, ap, ◌∙◌, arith}
use Rattle.hashed_store.specs.Chains.{latest}
use Rattle.stores.specs.Kept.{rows_in}
use Rattle.stores.specs.Reading.{lists_of}
use Rattle.hashed_store.proofs.Chains.{walk_start, walk_falls, walk_then, walk_else, walk_ends}
use Rattle.hashed_store.proofs.table.calls.HashTableStore.find.Goals as goal
use Rattle.hashed_store.proofs.table.calls.HashTableStore.find.Goals.{then-same, else-same}

pub loop-next-init : goal.loop-next-init
loop-next-init c =
    let rows = rows_in c.args.self.now.list in
    walk_start rows (lists_of c.args.row.now) _ (c.args.self.now.begins _ c.chain_of.ensures.below ∙ ap (λ h. latest rows h (length rows)) c.chain_of.ensures.chain)

pub loop-next-smaller : goal.loop-next-smaller
loop-next-smaller c =
    let level : length (vec_items c.args.self.now.lowers) ≡ length (rows_in c.args.self.now.list) = omega arith in
    walk_falls _ _ _ level c.args.self.now.goes_on c.in-Some.node _ _ c.index-next.result.now c.loop-next.invariant c.in-Some.is (rw c.from.ensures at c.index-next.ensures)

pub loop-next-preserved : goal.loop-next-preserved
loop-next-preserved c =
    let level : length (vec_items c.args.self.now.lowers) ≡ length (rows_in c.args.self.now.list) = omega arith in
    elim c.if-same.branch [
      | then-same w ↦ walk_then _ _ _ level c.args.self.now.goes_on c.in-Some.node _ _ c.index-next.result.now c.loop-next.invariant c.in-Some.is (rw c.from.ensures at c.index-next.ensures) _ c.same.ensures _ w.if-same.true w.found-is
      | else-same w ↦ walk_else _ _ _ level c.args.self.now.goes_on c.in-Some.node _ _ c.index-next.result.now c.loop-next.invariant c.in-Some.is (rw c.from.ensures at c.index-next.ensures) _ c.same.ensures _ w.if-same.false w.found-is
    ]

pub returns : goal.returns
returns c = walk_ends _ _ _ _ c.loop-next.invariant c.in_default.is
