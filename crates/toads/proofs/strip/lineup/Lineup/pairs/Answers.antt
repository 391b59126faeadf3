use Rattle.std.proofs.Common.{◌≡◌, sym, arith}
use Rattle.bits.specs.Digits.{digit}
use Rattle.toads.specs.Ranks.{more_toads, more_empty, more_pairs}
use Rattle.toads.proofs.strip.lineup.Lineup.pairs.Goals as goal
use Rattle.toads.proofs.strip.lineup.Lineup.pairs.Goals.{in-Empty, in-Toad, in-Frog}

pub loop-cell-preserved : goal.loop-cell-preserved
loop-cell-preserved c =
    let code = c.args.self.now.code in
    let i = c.loop-cell.cell in
    let v = c.loop-cell.invariant in
    let few = c.args.self.now.few in
    elim c.match-at.branch [
      | in-Empty w ↦
          let is : digit code i ≡ 0 = sym w.in-Empty.ensures in
          let a = more_toads code i _ _ _ 0 v.toads_held v.empty_held v.pairs_held is in
          let b = more_empty code i _ _ _ 0 v.toads_held v.empty_held v.pairs_held is in
          let q = more_pairs code i _ _ _ 0 v.toads_held v.empty_held v.pairs_held is in
          record { toads_held = omega arith; empty_held = omega arith; pairs_held = omega arith; few_held = omega arith; few_pairs = omega arith }
      | in-Toad w ↦
          let is : digit code i ≡ 1 = sym w.in-Toad.ensures in
          let a = more_toads code i _ _ _ 1 v.toads_held v.empty_held v.pairs_held is in
          let b = more_empty code i _ _ _ 1 v.toads_held v.empty_held v.pairs_held is in
          let q = more_pairs code i _ _ _ 1 v.toads_held v.empty_held v.pairs_held is in
          record { toads_held = omega arith; empty_held = omega arith; pairs_held = omega arith; few_held = omega arith; few_pairs = omega arith }
      | in-Frog w ↦
          let is : digit code i ≡ 2 = sym w.in-Frog.ensures in
          let a = more_toads code i _ _ _ 2 v.toads_held v.empty_held v.pairs_held is in
          let b = more_empty code i _ _ _ 2 v.toads_held v.empty_held v.pairs_held is in
          let q = more_pairs code i _ _ _ 2 v.toads_held v.empty_held v.pairs_held is in
          record { toads_held = omega arith; empty_held = omega arith; pairs_held = omega arith; few_held = omega arith; few_pairs = omega arith }
    ]
