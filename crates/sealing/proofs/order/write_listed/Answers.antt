-- One more node of the listing is written, or counted where there is no room, or neither.
use Rattle.std.proofs.Common.{◌≡◌, ℕ, ◌+◌, true, List, ◌++◌, length, get_or, take, drop, set, filter, sym, refl, ap, ◌∙◌, ap₂, arith, rules}
use Rattle.std.proofs.lemmas.List.{take_all}
use Rattle.nodesets.specs.Sets.{has}
use Rattle.sealing.proofs.Counted.{kept_with, kept_without, count_with}
use Rattle.sealing.proofs.Writing.{written, written_none, write_more, write_full}
use Rattle.sealing.proofs.order.write_listed.Goals as goal
use Rattle.sealing.proofs.order.write_listed.Goals.{then-contains, then-n-buffer, else-n-buffer, else-contains}

pub loop-node-init : goal.loop-node-init
loop-node-init c = (refl, omega arith, sym (written_none c.args.buffer.now))

pub loop-node-preserved : goal.loop-node-preserved
loop-node-preserved c =
    let p = has c.args.set.now in
    let ks = c.args.listing.now in
    let i = c.loop-node.node-index in
    let b = c.args.buffer.now in
    let xs : List ℕ = filter p (take i ks) in
    let is : c.contains.result ≡ p (get_or ks i 0) = rw c.from.ensures at c.contains.ensures in
    let e : c.loop-node.n ≡ length xs = c.loop-node.invariant.0 in
    let was : c.loop-node.buffer ≡ written b xs = c.loop-node.invariant.2 in
    let same : length c.loop-node.buffer ≡ length b = search rules in
    elim c.if-contains.branch [
      | then-contains w ↦
          let t : p (get_or ks i 0) ≡ true = sym is ∙ w.if-contains.true in
          let next = kept_with p ks i c.loop-node-test.true t in (
            w.n-is ∙ ap (λ n. n + 1) e ∙ sym (count_with p ks i c.loop-node-test.true t),
            omega (arith, w.n-is, c.loop-node.invariant.1),
            elim w.if-n-buffer.branch [
              | then-n-buffer v ↦
                  w.buffer-is ∙ v.buffer-is ∙ ap₂ (λ (z : List ℕ) (n : ℕ). set z n (get_or ks i 0)) was e ∙ write_more b xs (get_or ks i 0) (omega (arith, v.if-n-buffer.true)) ∙ ap (written b) (sym next)
              | else-n-buffer v ↦ w.buffer-is ∙ v.buffer-is ∙ was ∙ write_full b xs (get_or ks i 0) (omega (arith, v.if-n-buffer.false)) ∙ ap (written b) (sym next)
            ],
          )
      | else-contains w ↦
          let next = kept_without p ks i c.loop-node-test.true (sym is ∙ w.if-contains.false) in
          (w.n-is ∙ e ∙ ap length (sym next), omega (arith, w.n-is, c.loop-node.invariant.1), w.buffer-is ∙ was ∙ ap (written b) (sym next))
    ]

pub returns : goal.returns
returns c =
    let p = has c.args.set.now in
    let all : take c.loop-node.node-index c.args.listing.now ≡ c.args.listing.now = take_all c.loop-node.node-index c.args.listing.now (omega arith) in
    let n : c.loop-node.n ≡ length (filter p c.args.listing.now) = c.loop-node.invariant.0 ∙ ap (λ ks. length (filter p ks)) all in
    record {
      number = n;
      written = c.loop-node.invariant.2 ∙ ap (λ ks. written c.args.buffer.now (filter p ks)) all ∙ ap (λ m. take (length c.args.buffer.now) (filter p c.args.listing.now) ++ drop m c.args.buffer.now) (sym n);
    }
