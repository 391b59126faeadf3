-- One option: it stays, or gives way to the options of a reply.
use Rattle.std.proofs.Common.{◌≡◌, ℕ, ◌<◌, true, not, ◌&&◌, ◌||◌, eqb, get_or, vec_len, sym, refl, ap, ◌∙◌, ap₂}
use Rattle.std.proofs.lemmas.Bool.{both_ways, and_parts, ltb-true}
use Rattle.games.specs.Sides.{other}
use Rattle.nodesets.specs.Pairs.{by}
use Rattle.nodesets.specs.Sets.{has}
use Rattle.sealing.specs.Forms.{none}
use Rattle.sealing.specs.Steps.{Reduced}
use Rattle.sealing.specs.Views.{links}
use Rattle.sealing.proofs.Reading.{meet_same}
use Rattle.sealing.proofs.Whole.{there_links, within_links, within_rows, compared_links, option_bit}
use Rattle.sealing.proofs.Reducing.{reduced_self, bypass_reduces, bypass_above, bypass_gone, compared_same}
use Rattle.sealing.proofs.game.Game.bypass_at.Goals as goal

pub returns-then-not-contains : goal.returns-then-not-contains
returns-then-not-contains c = record {
  same = (refl, refl);
  reduced = reduced_self (links c.args.self.now.nodes.now) c.args.side (by c.args.self.now.moves) (within_links c.args.self.now.nodes.now (by c.args.self.now.moves) c.args.self.now.within);
  above = λ k h. refl;
  stays = λ t. absurd (both_ways (has c.of.result.now c.args.a) (sym c.contains.ensures ∙ c.if-not-contains.true) (c.of.ensures c.args.a ∙ t));
}

pub returns-in_default : goal.returns-in_default
returns-in_default c = record {
  same = (refl, refl);
  reduced = reduced_self (links c.args.self.now.nodes.now) c.args.side (by c.args.self.now.moves) (within_links c.args.self.now.nodes.now (by c.args.self.now.moves) c.args.self.now.within);
  above = λ k h. refl;
  stays = λ t m. c.in_default.ensures (meet_same _ _ (has c.of-2.result.now) (has c.of-3.result.now)
      (λ k. option_bit c.args.self.now.nodes.now c.args.a c.requires c.index.result.now c.index.ensures (other c.args.side) k
      ∙ ap (λ z. by c.index.result.now.options z k) (sym c.other.ensures) ∙ sym (c.of-2.ensures k))
      (λ k. sym (c.of-3.ensures k)) m);
}

module _ (c : goal.After-with-self) where
  reply : get_or (links c.args.self.now.nodes.now) c.args.a none (other c.args.side) c.in-Some.b ≡ true
  reply =
      option_bit c.args.self.now.nodes.now c.args.a c.requires c.index.result.now c.index.ensures (other c.args.side) c.in-Some.b
      ∙ ap (λ z. by c.index.result.now.options z c.in-Some.b) (sym c.other.ensures) ∙ sym (c.of-2.ensures c.in-Some.b) ∙ c.in-Some.ensures.0

  worse : by c.args.self.now.worse c.args.side c.in-Some.b ≡ true
  worse = sym (c.of-3.ensures c.in-Some.b) ∙ c.in-Some.ensures.1

  b_there : c.in-Some.b < vec_len c.args.self.now.nodes.now.rows
  b_there = ltb-true _ _ (and_parts _ _ (sym (c.args.self.now.known c.args.side c.in-Some.b) ∙ worse)).0

  own : (k : ℕ) → by c.with-self.result c.args.side k ≡ ((by c.args.self.now.moves c.args.side k && not (eqb k c.args.a)) || get_or (links c.args.self.now.nodes.now) c.in-Some.b none c.args.side k)
  own k =
      c.with-self.ensures.own k ∙ c.union.ensures k
      ∙ ap₂ ◌||◌ (c.remove.ensures k ∙ ap (λ v. v && not (eqb k c.args.a)) (c.of-in-Some.ensures k))
      (c.of-in-Some-2.ensures k ∙ sym (option_bit c.args.self.now.nodes.now c.in-Some.b b_there c.index-in-Some.result.now c.index-in-Some.ensures c.args.side k))

  reduced : Reduced (links c.args.self.now.nodes.now) c.args.side (by c.args.self.now.moves) (by c.with-self.result)
  reduced =
      let g = c.args.self.now in
      let t = g.nodes.now in
      bypass_reduces (links t) t.lower c.args.side c.args.a c.in-Some.b (there_links t c.args.a c.requires) (by g.moves) (by g.worse) (by c.with-self.result) (within_links t (by g.moves) g.within)
      (compared_links t (by g.moves) (by g.worse) g.known) reply worse own c.with-self.ensures.theirs

pub invariant_of-self : goal.invariant_of-self
invariant_of-self c =
    let g = c.args.self.now in
    record {
      within = within_rows g.nodes.now (by c.with-self.result) (reduced c).within;
      known = compared_same (links g.nodes.now) (by g.moves) (by c.with-self.result) (vec_len g.nodes.now.rows) (by g.worse) (reduced c).value g.known;
    }

pub returns-in-Some : goal.returns-in-Some
returns-in-Some c =
    let g = c.args.self.now in
    let t = g.nodes.now in
    let at = there_links t c.args.a c.requires in
    let inside = within_links t (by g.moves) g.within in
    let known = compared_links t (by g.moves) (by g.worse) g.known in
    let d = c.before in
    record {
      same = (refl, refl);
      reduced = reduced d;
      above = bypass_above (links t) t.lower c.args.side c.args.a c.in-Some.b at (by g.moves) (by g.worse) (by c.with-self.result) inside known (reply d) (worse d) (own d) c.with-self.ensures.theirs;
      stays = λ e. absurd (both_ways _ (bypass_gone (links t) t.lower c.args.side c.args.a c.in-Some.b at (by g.moves) (by g.worse) (by c.with-self.result) inside known (reply d) (worse d) (own d) c.with-self.ensures.theirs) e);
    }
