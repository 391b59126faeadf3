-- No node is listed.
use Rattle.std.proofs.Common.{◌≡◌, map, length, vec_items, vec_len, sym, ap, ◌∙◌, rules}
use Rattle.sealing.specs.Seals.{in_order}
use Rattle.sealing.specs.Views.{links}
use Rattle.sealing.proofs.Whole.{count_rows}
use Rattle.sealing.proofs.Kept.{listing_none}
use Rattle.sealing.proofs.tables.Tables.new.Goals as goal

pub invariant_of-result : goal.invariant_of-result
invariant_of-result c =
    let e : links c.in_ok-nodes.nodes ≡ _ = c.in_ok-nodes.ensures in
    let n = count_rows c.in_ok-nodes.nodes ∙ ap length e in
    let l = listing_none (links c.in_ok-nodes.nodes) (vec_items c.in_ok-listing.listing) e (search rules) in
    record { reserved = search rules; whole = (let m : vec_len c.in_ok-listing.listing ≡ 0 = search rules in m ∙ sym n); below = l.below; complete = l.complete; rises = l.rises }

pub returns : goal.returns
returns c = ap (map (in_order (vec_items c.in_ok-listing.listing))) c.in_ok-nodes.ensures
