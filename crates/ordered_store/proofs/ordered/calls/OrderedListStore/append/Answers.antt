use Rattle.std.proofs.Common.{◌≡◌, ◌+◌, true, length, is_ok, vec_items, vec_len, ap, ◌∙◌, arith}
use Rattle.std.specs.List.{insert}
use Rattle.std.proofs.lemmas.List.{length_push}
use Rattle.stores.specs.Kept.{rows_in}
use Rattle.stores.specs.Reading.{lists_of}
use Rattle.stores.proofs.Appends.{taken}
use Rattle.ordered_store.proofs.Rising.{have_kept, holds_kept, rises_kept}
use Rattle.ordered_store.proofs.ordered.calls.OrderedListStore.append.Goals as goal

pub invariant_of-self-2 : goal.invariant_of-self-2
invariant_of-self-2 c =
    let h = c.in_ok-number.ensures in
    let t = taken (rows_in c.args.self.now.list) (rows_in c.append.new.self) c.args.self.now.list.capacity c.in_ok-number.number (lists_of c.args.row) h.answer h.rows in
    let ok : is_ok c.insert.result ≡ true = c.insert.ensures.succeeds (omega (arith, t.space)) in
    let e : vec_items c.insert.new.self ≡ insert (vec_items c.args.self.now.order) c.place-place.result c.in_ok-number.number = rw ok at c.insert.ensures.items in
    let len : vec_len c.insert.new.self ≡ vec_len c.args.self.now.order + 1 = rw ok at c.insert.ensures.len in
    let grown : length (rows_in c.append.new.self) ≡ length (rows_in c.args.self.now.list) + 1 = ap length t.last ∙ length_push (rows_in c.args.self.now.list) (lists_of c.args.row) in
    let have = have_kept _ _ _ _ _ t _ _ _ _ c.count.ensures c.place-place.ensures e c.args.self.now.have_rows c.args.self.now.rises in
    let all = holds_kept _ _ _ _ _ t _ _ _ _ c.count.ensures c.place-place.ensures e c.args.self.now.have_rows c.args.self.now.rises c.args.self.now.holds_all in
    let up = rises_kept _ _ _ _ _ t _ _ _ _ c.count.ensures c.place-place.ensures e c.args.self.now.have_rows c.args.self.now.rises in
    record { reserved = omega (arith, h.capacity); level = omega (arith, grown, len); have_rows = have; holds_all = all; rises = up }
