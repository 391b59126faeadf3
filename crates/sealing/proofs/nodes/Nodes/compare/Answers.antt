-- One more node is decided for both sides.
use Rattle.std.proofs.Common.{◌≡◌, ℕ, ◌&&◌, ltb, length, vec_items, vec_len, sym, ap, ◌∙◌, arith}
use Rattle.std.proofs.lemmas.Bool.{and_parts, and_from}
use Rattle.games.specs.declared.side.Side.{Side}
use Rattle.games.specs.declared.side.Side.TheVariants.{Left, Right}
use Rattle.games.specs.Tests.{as_good}
use Rattle.nodesets.specs.Pairs.{by}
use Rattle.nodesets.specs.Sets.{has}
use Rattle.nodesets.specs.declared.pair.Pair.{Pair}
use Rattle.nodesets.proofs.Sides.{both}
use Rattle.sealing.specs.Forms.{game, node}
use Rattle.sealing.specs.Steps.{Upto}
use Rattle.sealing.specs.Views.{links, ranks}
use Rattle.sealing.proofs.Reading.{same_length}
use Rattle.sealing.proofs.Whole.{count_rows, within_links}
use Rattle.sealing.proofs.Deciding.{partly_none, partly_known, partly_all}
use Rattle.sealing.proofs.LeftOut.{left_out_falls}
use Rattle.sealing.proofs.nodes.Nodes.compare.Goals as goal

pub bested-requires : goal.bested-requires
bested-requires c k t = c.requires Right k t

pub bested-requires-2 : goal.bested-requires-2
bested-requires-2 c k t = c.requires Left k t

pub loop-h-init : goal.loop-h-init
loop-h-init c =
    let t = c.args.self.now in
    let o = by c.args.moves.now in
    let inside = within_links t o c.requires in (
      partly_none (links t) (ranks t) t.lower t.ranked (same_length (vec_items t.rows)) Left o inside (has c.bested.result) (has c.default.result) c.bested.ensures c.default.ensures,
      partly_none (links t) (ranks t) t.lower t.ranked (same_length (vec_items t.rows)) Right o inside (has c.bested-2.result) (has c.default-2.result) c.bested-2.ensures c.default-2.ensures,
    )

pub loop-h-smaller : goal.loop-h-smaller
loop-h-smaller c =
    let t = c.args.self.now in
    let o = by c.args.moves.now in
    let h = c.in-Some.h in
    let (there, lefts, rights, before) = c.in-Some.ensures in
    let inside = within_links t o c.requires in
    let l = c.decide.ensures o inside c.loop-h.invariant.0 (partly_known (links t) (ranks t) Right o h (has c.loop-h.right.decided) (has c.loop-h.right.worse) c.loop-h.invariant.1 rights) in
    let still : Upto h (has c.decide.new.known.decided) = λ k u. l.still k (lefts k u) in
    let r = c.decide-in-Some.ensures o inside c.loop-h.invariant.1 (partly_known (links t) (ranks t) Left o h (has c.decide.new.known.decided) (has c.decide.new.known.worse) l.known still) in
    left_out_falls (λ k. has c.loop-h.left.decided k && has c.loop-h.right.decided k) (λ k. has c.decide.new.known.decided k && has c.decide-in-Some.new.known.decided k)
    (λ k u. let (a, b) = and_parts _ _ u in and_from _ _ (l.still k a) (r.still k b)) (vec_len t.rows) h there before (and_from _ _ l.here r.here)

pub loop-h-preserved : goal.loop-h-preserved
loop-h-preserved c =
    let t = c.args.self.now in
    let o = by c.args.moves.now in
    let h = c.in-Some.h in
    let (there, lefts, rights, before) = c.in-Some.ensures in
    let inside = within_links t o c.requires in
    let l = c.decide.ensures o inside c.loop-h.invariant.0 (partly_known (links t) (ranks t) Right o h (has c.loop-h.right.decided) (has c.loop-h.right.worse) c.loop-h.invariant.1 rights) in
    let still : Upto h (has c.decide.new.known.decided) = λ k u. l.still k (lefts k u) in
    let r = c.decide-in-Some.ensures o inside c.loop-h.invariant.1 (partly_known (links t) (ranks t) Left o h (has c.decide.new.known.decided) (has c.decide.new.known.worse) l.known still) in
    (l.known, r.known)

pub invariant_of-result : goal.invariant_of-result
invariant_of-result c =
    record {
      within = c.requires;
      known = (
          let t = c.args.self.now in
          let o = by c.args.moves.now in
          let (lefts, rights) = c.in_default.ensures in
          let e = count_rows t in
          let back : (s : Side) (k : ℕ) → (ltb k (length (links t)) && as_good s (game (links t) o) (node (links t) k)) ≡ (ltb k (vec_len t.rows) && as_good s (game (links t) o) (node (links t) k)) =
          λ s k. ap (λ m. ltb k m && as_good s (game (links t) o) (node (links t) k)) (sym (count_rows t)) in
          both (λ s. (k : ℕ) → by (let p : Pair = record { left = c.loop-h.left.worse; right = c.loop-h.right.worse } in p) s k ≡ (ltb k (vec_len t.rows) && as_good s (game (links t) o) (node (links t) k)))
          (λ k. partly_all (links t) (ranks t) Left o (has c.loop-h.left.decided) (has c.loop-h.left.worse) c.loop-h.invariant.0 (λ i l. lefts i (omega arith)) k ∙ back Left k)
          (λ k. partly_all (links t) (ranks t) Right o (has c.loop-h.right.decided) (has c.loop-h.right.worse) c.loop-h.invariant.1 (λ i l. rights i (omega arith)) k ∙ back Right k));
    }
