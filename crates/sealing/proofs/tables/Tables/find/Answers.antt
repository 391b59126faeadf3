-- What the steps have found is what sealing answers.
use Rattle.std.proofs.Common.{ℕ, ◌<◌, vec_len, sym, ◌∙◌, subst}
use Rattle.std.proofs.lemmas.Bool.Decides.{not_from_Decides}
use Rattle.games.specs.Order.{◌≈◌}
use Rattle.nodesets.specs.Pairs.{Within, by}
use Rattle.sealing.specs.Forms.{game, node}
use Rattle.sealing.specs.Steps.{Settled}
use Rattle.sealing.specs.Views.{links}
use Rattle.sealing.proofs.Whole.{along}
use Rattle.sealing.proofs.Sealing.{count_is, row_one, seals_node, seals_wide, new_row, q_within}
use Rattle.sealing.proofs.tables.Tables.find.Goals as goal

pub compare-game-requires : goal.compare-game-requires
compare-game-requires c = subst (λ n. Within n (by c.args.moves.now)) (c.count.ensures.number ∙ sym (count_is c.args.self.now)) (c.is_below.ensures.0 c.if-not-is_below.false)

pub returns-then-not-is_below : goal.returns-then-not-is_below
returns-then-not-is_below c = record {
  seals = λ h. not_from_Decides c.is_below.result c.is_below.ensures c.if-not-is_below.true (subst (λ n. Within n (by c.args.moves.now)) (sym c.count.ensures.number) h);
  one = row_one c.args.self.now (by c.args.moves.now);
}

pub returns-in-Some : goal.returns-in-Some
returns-in-Some c =
    let t = c.args.self.now in
    let g = c.compare-game.result in
    let k = c.in-Some.node in
    let found = along (λ n m. (k < vec_len n.rows) × (game (links n) (by m) ≈ node (links n) k)) g.nodes.now t.nodes g.moves c.args.moves.now c.compare-game.ensures.nodes c.compare-game.ensures.moves c.in-Some.ensures in
    record {
      seals = seals_node t (by c.args.moves.now) (subst (λ n. Within n (by c.args.moves.now)) (c.count.ensures.number ∙ sym (count_is t)) (c.is_below.ensures.0 c.if-not-is_below.false)) k found.0 found.1;
      one = row_one t (by c.args.moves.now);
    }

pub returns-then-is_narrow : goal.returns-then-is_narrow
returns-then-is_narrow c =
    let t = c.args.self.now in
    let o = by c.args.moves.now in
    let g = c.compare-game.result in
    let q = by c.settle-form.result in
    let within : Within (vec_len t.nodes.rows) o = subst (λ n. Within n o) (c.count.ensures.number ∙ sym (count_is t)) (c.is_below.ensures.0 c.if-not-is_below.false) in
    let none = along (λ n m. (k : ℕ) → k < vec_len n.rows → ¬ (game (links n) (by m) ≈ node (links n) k)) g.nodes.now t.nodes g.moves c.args.moves.now c.compare-game.ensures.nodes c.compare-game.ensures.moves c.in_default.ensures in
    let settled = along (λ n m. Settled (links n) (by m) q) g.nodes.now t.nodes g.moves c.args.moves.now c.compare-game.ensures.nodes c.compare-game.ensures.moves c.settle-form.ensures in
    record { seals = (q_within t o within none q settled, new_row t o within none q settled (c.is_narrow.ensures.0 c.if-is_narrow.true)); one = row_one t o }

pub returns-else-is_narrow : goal.returns-else-is_narrow
returns-else-is_narrow c =
    let t = c.args.self.now in
    let o = by c.args.moves.now in
    let g = c.compare-game.result in
    let q = by c.settle-form.result in
    let within : Within (vec_len t.nodes.rows) o = subst (λ n. Within n o) (c.count.ensures.number ∙ sym (count_is t)) (c.is_below.ensures.0 c.if-not-is_below.false) in
    let none = along (λ n m. (k : ℕ) → k < vec_len n.rows → ¬ (game (links n) (by m) ≈ node (links n) k)) g.nodes.now t.nodes g.moves c.args.moves.now c.compare-game.ensures.nodes c.compare-game.ensures.moves c.in_default.ensures in
    let settled = along (λ n m. Settled (links n) (by m) q) g.nodes.now t.nodes g.moves c.args.moves.now c.compare-game.ensures.nodes c.compare-game.ensures.moves c.settle-form.ensures in
    record { seals = seals_wide t o within none q settled (not_from_Decides c.is_narrow.result c.is_narrow.ensures c.if-is_narrow.false); one = row_one t o }
