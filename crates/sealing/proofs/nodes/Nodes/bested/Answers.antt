-- One more node is taken, and gathered.
use Rattle.std.proofs.Common.{◌≡◌, ℕ, ◌<◌, Bool, ◌||◌, length, get_or, vec_items, sym, ap, ◌∙◌, arith}
use Rattle.std.proofs.lemmas.Bool.{and_parts}
use Rattle.std.proofs.lemmas.List.{length-map}
use Rattle.nodesets.specs.Sets.{has}
use Rattle.sealing.specs.Forms.{none}
use Rattle.sealing.specs.Views.{ranks}
use Rattle.sealing.proofs.LeftOut.{left_out_taken}
use Rattle.sealing.proofs.Reading.{worse_at}
use Rattle.sealing.proofs.Somes.{gather_one, some_empty, or_false}
use Rattle.sealing.proofs.Whole.{in_rows}
use Rattle.sealing.proofs.nodes.Nodes.bested.Goals as goal

pub loop-node-smaller : goal.loop-node-smaller
loop-node-smaller c =
    let t = c.in-Some.ensures in
    let few = c.args.self.now.few in
    let there = c.requires c.in-Some.node (c.loop-node.invariant.1 c.in-Some.node t.0) in
    left_out_taken (has c.loop-node.rest) (has c.take_lowest.new.self) c.in-Some.node 384 (omega arith) t.0 t.2

pub loop-node-preserved : goal.loop-node-preserved
loop-node-preserved c =
    let t = c.in-Some.ensures in
    let self = c.args.self.now in
    let rows = vec_items self.rows in
    let node = c.in-Some.node in
    let there = in_rows self node (c.requires node (c.loop-node.invariant.1 node t.0)) in
    let e : length (ranks self) ≡ length rows = length-map rows _ in
    let ranked : node < length (ranks self) = omega arith in
    let w : ℕ → ℕ → Bool = λ h q. get_or (ranks self) q none c.args.side h in (
      λ h. gather_one (has c.loop-node.rest) (has c.take_lowest.new.self) (w h) node (length (ranks self)) (has c.loop-node.all h) (has c.union.new.self h) t.2 ranked t.0
          (c.union.ensures h ∙ ap (λ b. has c.loop-node.all h || b) (c.of.ensures h ∙ sym (worse_at rows node c.index.result.now there c.index.ensures c.args.side h)))
          ∙ c.loop-node.invariant.0 h,
      λ k u. c.loop-node.invariant.1 k (and_parts _ _ (sym (t.2 k) ∙ u)).0,
    )

pub returns : goal.returns
returns c h =
    let w : ℕ → Bool = λ q. get_or (ranks c.args.self.now) q none c.args.side h in
    let all = has c.loop-node.all h in
    sym (ap (λ b. all || b) (some_empty (length (ranks c.args.self.now)) (has c.loop-node.rest) w c.in_default.ensures.0) ∙ or_false all) ∙ c.loop-node.invariant.0 h
