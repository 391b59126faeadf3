-- One more row learns of the new node.
use Rattle.std.proofs.Common.{◌≡◌, ℕ, Bool, ◌&&◌, ◌||◌, eqb, ltb, vec_items, vec_len, refl, ◌∙◌, subst, ap₂, rules}
use Rattle.games.specs.declared.side.Side.TheVariants.{Left, Right}
use Rattle.nodesets.specs.Pairs.{by}
use Rattle.nodesets.specs.declared.pair.Pair.{Pair}
use Rattle.sealing.specs.declared.row.Row.{Row}
use Rattle.sealing.specs.Ranking.{Ranking}
use Rattle.sealing.proofs.Ranking.{ranking_none, ranking_more, both_worse}
use Rattle.sealing.proofs.nodes.grow.rank_under.Goals as goal

pub loop-i-init : goal.loop-i-init
loop-i-init c = (refl, ranking_none (vec_items c.args.rows.now) (by c.args.worse.now) (vec_len c.args.rows.now))

pub loop-i-preserved : goal.loop-i-preserved
loop-i-preserved c =
    let r = c.index_mut-row.result.now in
    let worse : Pair = record { left = c.insert_if.new.self; right = c.insert_if-in-loop-i.new.self } in
    let row : Row = record { options = r.options; worse = worse } in (
      c.loop-i.invariant.0,
      ranking_more (vec_items c.args.rows.now) (vec_items c.loop-i.rows) (by c.args.worse.now) (vec_len c.args.rows.now) c.loop-i.i c.loop-i.invariant.1 (search rules) r row (search rules) refl
          (both_worse worse r.worse (by c.args.worse.now) (vec_len c.args.rows.now) c.loop-i.i
          (λ k. c.insert_if.ensures k ∙ ap₂ (λ (n : ℕ) (b : Bool). ((eqb k n && ltb k 384) && b) || by r.worse Left k) c.len-number.ensures c.contains.ensures)
          (λ k. c.insert_if-in-loop-i.ensures k ∙ ap₂ (λ (n : ℕ) (b : Bool). ((eqb k n && ltb k 384) && b) || by r.worse Right k) c.len-number.ensures c.contains-in-loop-i.ensures)),
    )

pub returns : goal.returns
returns c =
    let e : c.loop-i.i ≡ vec_len c.args.rows.now = search rules in
    record { capacity = c.loop-i.invariant.0; ranks = subst (λ i. Ranking (vec_items c.args.rows.now) (vec_items c.loop-i.rows) (by c.args.worse.now) (vec_len c.args.rows.now) i) e c.loop-i.invariant.1 }
