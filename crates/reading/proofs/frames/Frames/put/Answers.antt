use Rattle.std.proofs.Common.{◌<◌, ◌≤◌, ◌+◌, length, rules, arith}
use Rattle.reading.proofs.Holding.{holds_put}
use Rattle.reading.proofs.Stacks.{top_is, top_set}
use Rattle.reading.proofs.frames.Frames.put.Goals as goal

pub returns-in-Some : goal.returns-in-Some
returns-in-Some g c = λ small.
    let xs = c.args.self.now.items.items in
    let n = c.saturating_sub-top.result in
    let inside : n < length xs = search rules in
    let last : length xs ≤ n + 1 = omega arith in
    let f = c.in-Some.frame.now in
    holds_put g.T.Options.keeps f c.put.new.self c.args.node (c.put.ensures small) _ _ _ (top_is xs n inside last f c.in-Some.ensures.value) (top_set xs n inside last _)
