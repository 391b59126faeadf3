-- One more node of the listing is taken, or not, or there is no room for it.
use Rattle.std.proofs.Common.{◌≡◌, ℕ, ◌+◌, ◌<◌, true, List, [], ◌∷◌, ◌++◌, length, take, filter, get_or, sym, ap, ◌∙◌, arith, rules}
use Rattle.std.proofs.lemmas.List.{length_push, take_all}
use Rattle.nodesets.specs.Sets.{has}
use Rattle.sealing.proofs.Counted.{kept_with, kept_without, count_with, count_first}
use Rattle.sealing.proofs.order.few_listed.Goals as goal
use Rattle.sealing.proofs.order.few_listed.Goals.{then-contains+in_ok-ok, else-contains}

pub loop-node-init : goal.loop-node-init
loop-node-init g c = (c.new-nodes.ensures, let e = ap length c.new-nodes.ensures in omega arith)

pub returns-in_err-ok : goal.returns-in_err-ok
returns-in_err-ok g c =
    let p = has c.args.set.now in
    let ks = c.args.listing.now in
    let i = c.loop-node.node-index in
    let t : p (get_or ks i 0) ≡ true = rw (c.contains.ensures, c.from.ensures) at c.if-contains.true in
    let full : length c.loop-node.nodes.items ≡ g.row.MOST = search rules in
    let one = count_with p ks i c.loop-node-test.true t in
    let all = count_first p ks (i + 1) in
    let so_far = ap length c.loop-node.invariant.0 in
    rw c.from_residual.ensures (λ h. omega arith)

pub loop-node-preserved : goal.loop-node-preserved
loop-node-preserved g c =
    let p = has c.args.set.now in
    let ks = c.args.listing.now in
    let i = c.loop-node.node-index in
    let is : c.contains.result ≡ p (get_or ks i 0) = rw c.from.ensures at c.contains.ensures in
    let was = c.loop-node.invariant.0 in
    elim c.if-contains.branch [
      | then-contains+in_ok-ok w ↦
          let next = kept_with p ks i c.loop-node-test.true (sym is ∙ w.if-contains.true) in
          let pushed : w.try_push.new.self.items ≡ c.loop-node.nodes.items ++ get_or ks i 0 ∷ [] = search rules in
          let room : length c.loop-node.nodes.items < g.row.MOST = search rules in
          rw w.nodes-is (pushed ∙ ap (λ (xs : List ℕ). xs ++ get_or ks i 0 ∷ []) was ∙ sym next, let l = ap length pushed in let m = length_push c.loop-node.nodes.items (get_or ks i 0) in omega arith)
      | else-contains w ↦
          let same = kept_without p ks i c.loop-node-test.true (sym is ∙ w.if-contains.false) in
          rw w.nodes-is (was ∙ sym same, c.loop-node.invariant.1)
    ]

pub returns : goal.returns
returns g c =
    let p = has c.args.set.now in
    let all : take c.loop-node.node-index c.args.listing.now ≡ c.args.listing.now = take_all c.loop-node.node-index c.args.listing.now (omega arith) in
    let e = c.loop-node.invariant.0 ∙ ap (λ ks. filter p ks) all in
    (let l = ap length e in omega arith, e)
