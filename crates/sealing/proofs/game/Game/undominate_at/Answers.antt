-- What goes is dominated.
use Rattle.std.proofs.Common.{◌<◌, refl, not, ◌&&◌, ◌||◌, eqb, ltb, vec_items, vec_len, sym, ap, ◌∙◌, ap₂, arith}
use Rattle.nodesets.specs.Pairs.{by}
use Rattle.sealing.specs.Steps.{Cleared}
use Rattle.sealing.specs.Views.{links, ranks}
use Rattle.sealing.proofs.Reading.{same_length}
use Rattle.sealing.proofs.Whole.{there_links, within_links, within_rows, worse_bit}
use Rattle.sealing.proofs.Reducing.{compared_same}
use Rattle.sealing.proofs.Clearing.{cleared_absent, cleared_prune}
use Rattle.sealing.proofs.game.Game.undominate_at.Goals as goal

pub returns-else-contains : goal.returns-else-contains
returns-else-contains c = record {
  same = (refl, refl);
  cleared =
      cleared_absent (links c.args.self.now.nodes.now) c.args.side c.args.a (by c.args.self.now.moves) (within_links c.args.self.now.nodes.now (by c.args.self.now.moves) c.args.self.now.within)
      (sym (c.of.ensures c.args.a) ∙ sym c.contains.ensures ∙ c.if-contains.false);
}

module _ (c : goal.After-with-self) where
  cleared : Cleared (links c.args.self.now.nodes.now) c.args.side c.args.a (by c.args.self.now.moves) (by c.with-self.result)
  cleared =
      let g = c.args.self.now in
      let t = g.nodes.now in
      let small : c.args.a < 384 = let f = t.few in let h = c.requires in omega arith in
      cleared_prune (links t) (ranks t) t.lower t.ranked (same_length (vec_items t.rows)) c.args.side c.args.a (there_links t c.args.a c.requires) small (by g.moves) (by c.with-self.result)
      (within_links t (by g.moves) g.within) (sym (c.of.ensures c.args.a) ∙ sym c.contains.ensures ∙ c.if-contains.true) c.with-self.ensures.theirs
      (λ k. c.with-self.ensures.own k ∙ c.insert.ensures k ∙ ap (λ v. (eqb k c.args.a && ltb k 384) || v) (c.minus.ensures k
      ∙ ap₂ (λ u v. u && not v) (c.of.ensures k) (c.of-then-contains.ensures k ∙ sym (worse_bit t c.args.a c.requires c.index.result.now c.index.ensures c.args.side k))))

pub invariant_of-self : goal.invariant_of-self
invariant_of-self c =
    let g = c.args.self.now in
    let r = (cleared c).reduced in
    record {
      within = within_rows g.nodes.now (by c.with-self.result) r.within;
      known = compared_same (links g.nodes.now) (by g.moves) (by c.with-self.result) (vec_len g.nodes.now.rows) (by g.worse) r.value g.known;
    }

pub returns-then-contains : goal.returns-then-contains
returns-then-contains c = record { same = (refl, refl); cleared = cleared c.before }
