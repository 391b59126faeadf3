use Rattle.std.proofs.Common.{◌≡◌, map, length, vec_items, arith}
use Rattle.std.proofs.lemmas.List.{length-map}
use Rattle.stores.specs.Reading.{lists_of}
use Rattle.stores.proofs.Appends.{lower_kept}
use Rattle.stores.proofs.row_list.RowList.append.Goals as goal

pub invariant_of-self : goal.invariant_of-self
invariant_of-self c =
    let e : c.len-count.result ≡ length (map lists_of (vec_items c.args.self.now.rows)) = simp length-map (omega arith) in
    let low = lower_kept (vec_items c.args.self.now.rows) (vec_items c.push_reserved.new.self) c.args.row _ _ c.push_reserved.ensures.items c.args.self.now.lower e c.names_below.ensures c.if-not-names_below.false in
    record { reserved = omega arith; fits = omega arith; some_room = omega arith; most_room = omega arith; lower = low }
