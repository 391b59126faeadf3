-- The four steps, one after the other.
use Rattle.std.proofs.Common.{vec_len, ◌∙◌, subst}
use Rattle.games.specs.declared.side.Side.TheVariants.{Left, Right}
use Rattle.nodesets.specs.Pairs.{by}
use Rattle.sealing.specs.Steps.{Reduced, Stays, Undominated}
use Rattle.sealing.specs.Views.{links}
use Rattle.sealing.specs.declared.nodes.Nodes.{Nodes}
use Rattle.sealing.proofs.Whole.{along, count_rows, compared_links}
use Rattle.sealing.proofs.Settling.{settled}
use Rattle.sealing.proofs.game.Game.settle.Goals as goal

pub returns : goal.returns
returns c =
    let g = c.args.self in
    let t = g.nodes.now in
    let a = c.bypass.new.self in
    let b = c.bypass-2.new.self in
    let d = c.undominate.new.self in
    let e = c.undominate-2.new.self in
    let p = c.bypass.ensures.same in
    let q = c.bypass-2.ensures.same in
    let r = c.undominate.ensures.same in
    settled (links t) t.lower t.canonical (by g.moves) (by a.moves) (by b.moves) (by d.moves) (by e.moves) (by g.worse)
    (compared_links t (by g.moves) (by g.worse) g.known)
    c.bypass.ensures.reduced c.bypass.ensures.stays
    (subst (λ (n : Nodes). Reduced (links n) Right (by a.moves) (by b.moves)) p.0 c.bypass-2.ensures.reduced)
    (λ k h. along (λ n w. Stays (links n) Right (by w) k) a.nodes.now t a.worse g.worse p.0 p.1 (c.bypass-2.ensures.stays k h))
    (subst (λ i. Undominated (links t) Left i (by b.moves) (by d.moves)) (count_rows t)
    (subst (λ (n : Nodes). Undominated (links n) Left (vec_len n.rows) (by b.moves) (by d.moves)) (q.0 ∙ p.0) c.undominate.ensures.undominated))
    (subst (λ i. Undominated (links t) Right i (by d.moves) (by e.moves)) (count_rows t)
    (subst (λ (n : Nodes). Undominated (links n) Right (vec_len n.rows) (by d.moves) (by e.moves)) (r.0 ∙ q.0 ∙ p.0) c.undominate-2.ensures.undominated))
