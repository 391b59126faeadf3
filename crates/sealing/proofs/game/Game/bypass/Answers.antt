-- One more option, from the highest down.
use Rattle.std.proofs.Common.{◌≡◌, ◌-◌, ◌<◌, true, vec_len, sym, refl, ap, ◌∙◌, subst, inl, inr, arith, rules}
use Rattle.std.proofs.lemmas.Bool.{cases_eq}
use Rattle.nodesets.specs.Pairs.{by}
use Rattle.sealing.specs.Steps.{Reduced, Stays}
use Rattle.sealing.specs.Views.{links}
use Rattle.sealing.specs.declared.nodes.Nodes.{Nodes}
use Rattle.sealing.proofs.Whole.{along, within_links}
use Rattle.sealing.proofs.Reducing.{reduced_self, reduced_then}
use Rattle.sealing.proofs.game.Game.bypass.Goals as goal

pub bypass_at-requires : goal.bypass_at-requires
bypass_at-requires c =
    let e : vec_len c.loop-a.self.nodes.now.rows ≡ vec_len c.args.self.now.nodes.now.rows = ap (λ (t : Nodes). vec_len t.rows) c.loop-a.invariant.0.0 in
    subst (λ n. c.loop-a.a - 1 < n) (sym e) (search rules)

pub loop-a-init : goal.loop-a-init
loop-a-init c = (
  (refl, refl),
  reduced_self (links c.args.self.now.nodes.now) c.args.side (by c.args.self.now.moves) (within_links c.args.self.now.nodes.now (by c.args.self.now.moves) c.args.self.now.within),
  λ k h t. let l = c.args.self.now.within c.args.side k t in absurd (search rules),
)

pub loop-a-preserved : goal.loop-a-preserved
loop-a-preserved c =
    let g = c.args.self.now in
    let s = c.loop-a.invariant.0 in
    let now = c.loop-a.self in
    let new = c.bypass_at.new.self in (
      (c.bypass_at.ensures.same.0 ∙ s.0, c.bypass_at.ensures.same.1 ∙ s.1),
      reduced_then (links g.nodes.now) c.args.side (by g.moves) (by now.moves) (by new.moves) c.loop-a.invariant.1
          (subst (λ (t : Nodes). Reduced (links t) c.args.side (by now.moves) (by new.moves)) s.0 c.bypass_at.ensures.reduced),
      λ k h t. elim (cases_eq k (c.loop-a.a - 1)) [
        | inl e ↦ along (λ n w. Stays (links n) c.args.side (by w) k) now.nodes.now g.nodes.now now.worse g.worse s.0 s.1
            (subst (λ i. Stays (links now.nodes.now) c.args.side (by now.worse) i) (sym e) (c.bypass_at.ensures.stays (subst (λ i. by new.moves c.args.side i ≡ true) e t)))
        | inr d ↦ c.loop-a.invariant.2 k (omega arith) (sym (c.bypass_at.ensures.above k (omega arith)) ∙ t)
      ],
    )

pub returns : goal.returns
returns c = record { same = c.loop-a.invariant.0; reduced = c.loop-a.invariant.1; stays = λ k t. c.loop-a.invariant.2 k (omega arith) t }
