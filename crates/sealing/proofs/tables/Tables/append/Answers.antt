-- The node's number goes to its place in the listing.
use Rattle.std.proofs.Common.{◌≡◌, ◌<◌, true, length, is_ok, vec_items, sym, ◌∙◌, subst, arith}
use Rattle.std.proofs.lemmas.Bool.{cond-true}
use Rattle.games.specs.Canon.{Canonical}
use Rattle.games.specs.Order.{◌≈◌}
use Rattle.nodesets.specs.Pairs.{Within, by}
use Rattle.sealing.specs.Forms.{node}
use Rattle.sealing.specs.Views.{links}
use Rattle.sealing.specs.Walks.{all_below, Complete, Placed, Rises}
use Rattle.sealing.proofs.Whole.{count_rows}
use Rattle.sealing.proofs.Kept.{rises_then}
use Rattle.sealing.proofs.Sealing.{listing_of, count_is, form_is, one_more, room, listing_after, rows_after}
use Rattle.sealing.proofs.tables.Tables.append.Goals as goal

pub push-requires : goal.push-requires
push-requires c =
    let t = c.args.self.now in
    let o = by c.args.form.now in
    record {
      room = let e = count_is t in let h = c.requires.room in omega arith;
      within = subst (λ n. Within n o) (sym (count_is t)) c.requires.within;
      canonical = subst (λ g. Canonical g) (sym (form_is t o c.requires.within)) c.requires.canonical;
      fresh = λ k h e. c.requires.fresh k (subst (λ n. k < n) (count_is t) h) (subst (λ g. g ≈ node (links t.nodes) k) (form_is t o c.requires.within) e);
    }

pub place-place-requires : goal.place-place-requires
place-place-requires c =
    let t = c.args.self.now in
    let l = listing_of t in
    let n : c.count-number.result ≡ length (links t.nodes) = c.count-number.ensures ∙ count_rows t.nodes in
    record {
      there = let e = one_more t c.push.new.self (by c.args.form.now) c.push.ensures in let w = t.whole in omega (arith, c.count-number.ensures);
      below = rw c.deref.ensures.value (subst (λ n. all_below n (vec_items t.listing) ≡ true) (sym n) l.below);
      complete = rw c.deref.ensures.value (subst (λ n. Complete n (vec_items t.listing)) (sym n) l.complete);
      rises = subst (λ ks. Rises (links c.push.new.self) ks) (sym c.deref.ensures.value) (rises_then _ _ (by c.args.form.now) _ c.push.ensures l);
    }

pub invariant_of-self : goal.invariant_of-self
invariant_of-self c =
    let t = c.args.self.now in
    let o = by c.args.form.now in
    let ok : is_ok c.insert.result ≡ true = c.insert.ensures.succeeds (room t c.push.new.self o c.push.ensures) in
    let l = listing_after t c.push.new.self o c.push.ensures (vec_items c.insert.new.self) (is_ok c.insert.result) c.place-place.result c.count-number.result c.count-number.ensures ok c.insert.ensures.items
    (subst (λ ks. Placed (links c.push.new.self) ks c.count-number.result c.place-place.result) c.deref.ensures.value c.place-place.ensures) in
    record {
      reserved = (let a = c.insert.ensures.capacity in let b = t.reserved in omega arith);
      whole = c.insert.ensures.len ∙ cond-true (is_ok c.insert.result) _ _ ok ∙ sym (one_more t c.push.new.self o c.push.ensures);
      below = l.below;
      complete = l.complete;
      rises = l.rises;
    }

pub returns : goal.returns
returns c =
    let t = c.args.self.now in
    let o = by c.args.form.now in
    let ok : is_ok c.insert.result ≡ true = c.insert.ensures.succeeds (room t c.push.new.self o c.push.ensures) in
    record {
      number = c.count-number.ensures ∙ count_is t;
      rows = rows_after t c.push.new.self o c.push.ensures (vec_items c.insert.new.self) (is_ok c.insert.result) c.place-place.result c.count-number.result c.count-number.ensures ok c.insert.ensures.items c.requires.within;
    }
