-- One more option, from the lowest up.
use Rattle.std.proofs.Common.{◌≡◌, ◌<◌, vec_len, sym, refl, ap, ◌∙◌, subst, rules}
use Rattle.nodesets.specs.Pairs.{by}
use Rattle.sealing.specs.Steps.{Cleared, Undominated}
use Rattle.sealing.specs.Views.{links}
use Rattle.sealing.specs.declared.nodes.Nodes.{Nodes}
use Rattle.sealing.proofs.Whole.{within_links}
use Rattle.sealing.proofs.Settling.{undominated_none, undominated_more}
use Rattle.sealing.proofs.game.Game.undominate.Goals as goal

pub undominate_at-requires : goal.undominate_at-requires
undominate_at-requires c =
    let e : vec_len c.loop-a.self.nodes.now.rows ≡ vec_len c.args.self.now.nodes.now.rows = ap (λ (t : Nodes). vec_len t.rows) c.loop-a.invariant.0.0 in
    subst (λ n. c.loop-a.a < n) (sym e) (search rules)

pub loop-a-init : goal.loop-a-init
loop-a-init c =
    ((refl, refl), undominated_none (links c.args.self.now.nodes.now) c.args.side (by c.args.self.now.moves) (within_links c.args.self.now.nodes.now (by c.args.self.now.moves) c.args.self.now.within))

pub loop-a-preserved : goal.loop-a-preserved
loop-a-preserved c =
    let g = c.args.self.now in
    let s = c.loop-a.invariant.0 in
    let now = c.loop-a.self in
    let new = c.undominate_at.new.self in (
      (c.undominate_at.ensures.same.0 ∙ s.0, c.undominate_at.ensures.same.1 ∙ s.1),
      undominated_more (links g.nodes.now) c.args.side c.loop-a.a (by g.moves) (by now.moves) (by new.moves) c.loop-a.invariant.1
          (subst (λ (t : Nodes). Cleared (links t) c.args.side c.loop-a.a (by now.moves) (by new.moves)) s.0 c.undominate_at.ensures.cleared),
    )

pub returns : goal.returns
returns c =
    let g = c.args.self.now in
    let e : c.loop-a.a ≡ vec_len g.nodes.now.rows = search rules in
    record { same = c.loop-a.invariant.0; undominated = subst (λ i. Undominated (links g.nodes.now) c.args.side i (by g.moves) (by c.loop-a.self.moves)) e c.loop-a.invariant.1 }
