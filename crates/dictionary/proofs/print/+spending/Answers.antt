-- Each part of the text takes its length from the budget.
use Rattle.std.proofs.Common.{◌+◌, sym, ◌∙◌, arith}
use Rattle.std.specs.Iterator.Adapters.{enumerate_count}
use Rattle.dictionary.proofs.Texts.{node_length, before_longer, before_short, checked_as, then_left}
use Rattle.dictionary.proofs.print.+spending.Goals as goal

pub spend-returns-in_err-marks : goal.spend-returns-in_err-marks
spend-returns-in_err-marks g t c =
    let l = node_length (g.S.Store.rows c.args.store.now) (g.S.Store.room c.args.store.now) (g.met.S.Store.lawful c.args.store.now) c.args.node in
    rw c.from_residual.ensures (λ h. c.in_err-marks.ensures (omega arith))

pub spend-returns-in_err-left : goal.spend-returns-in_err-left
spend-returns-in_err-left g t c =
    let l = node_length (g.S.Store.rows c.args.store.now) (g.S.Store.room c.args.store.now) (g.met.S.Store.lawful c.args.store.now) c.args.node in
    let m = c.in_ok-marks.ensures in
    rw c.from_residual-in_err-left.ensures (λ h. c.in_err-left.ensures (omega arith))

pub spend-returns : goal.spend-returns
spend-returns g t c =
    let l = node_length (g.S.Store.rows c.args.store.now) (g.S.Store.room c.args.store.now) (g.met.S.Store.lawful c.args.store.now) c.args.node in
    let m = c.in_ok-marks.ensures in
    let k = c.in_ok-left.ensures in
    checked_as c.spend_options-2.result _ _ _ _ (λ h. omega arith) (λ h. omega arith) (λ h. omega arith) c.spend_options-2.ensures

pub spend_options-returns-in_err-behind : goal.spend_options-returns-in_err-behind
spend_options-returns-in_err-behind g t c =
    let law = g.met.S.Store.lawful c.args.store.now in
    let i = enumerate_count c.loop-index.index-iterator in
    let (step, is, counts, fits) = c.in-Some.ensures.steps in
    let more = before_longer (g.S.Store.rows c.args.store.now) (g.S.Store.room c.args.store.now) law c.args.side c.args.node i c.in-Some.option _ (sym c.loop-index.invariant.still ∙ step) in
    let short = before_short (g.S.Store.rows c.args.store.now) (g.S.Store.room c.args.store.now) law c.args.side c.args.node (i + 1) in
    let m = c.min.ensures in
    rw c.from_residual.ensures (λ h. c.in_err-behind.ensures (omega arith))

pub spend_options-returns-in_err-left : goal.spend_options-returns-in_err-left
spend_options-returns-in_err-left g t c =
    let law = g.met.S.Store.lawful c.args.store.now in
    let i = enumerate_count c.loop-index.index-iterator in
    let (step, is, counts, fits) = c.in-Some.ensures.steps in
    let more = before_longer (g.S.Store.rows c.args.store.now) (g.S.Store.room c.args.store.now) law c.args.side c.args.node i c.in-Some.option _ (sym c.loop-index.invariant.still ∙ step) in
    let short = before_short (g.S.Store.rows c.args.store.now) (g.S.Store.room c.args.store.now) law c.args.side c.args.node (i + 1) in
    let m = c.min.ensures in
    let b = c.in_ok-behind.ensures in
    rw c.from_residual-in_err-left.ensures (λ h. c.in_err-left.ensures (omega arith))

pub spend_options-loop-index-preserved : goal.spend_options-loop-index-preserved
spend_options-loop-index-preserved g t c =
    let law = g.met.S.Store.lawful c.args.store.now in
    let i = enumerate_count c.loop-index.index-iterator in
    let (step, is, counts, fits) = c.in-Some.ensures.steps in
    let there = sym c.loop-index.invariant.still ∙ step in
    let more = before_longer (g.S.Store.rows c.args.store.now) (g.S.Store.room c.args.store.now) law c.args.side c.args.node i c.in-Some.option _ there in
    let m = c.min.ensures in
    let b = c.in_ok-behind.ensures in
    let l = c.in_ok-left.ensures in
    let e = c.loop-index.invariant.enough in
    let k = c.loop-index.invariant.left in
    rw counts (record {
      still = then_left (g.S.Store.rows c.args.store.now) (g.S.Store.room c.args.store.now) law c.args.side c.args.node i c.in-Some.option _ there;
      enough = omega arith;
      left = omega arith;
    })
