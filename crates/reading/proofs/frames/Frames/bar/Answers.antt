use Rattle.std.proofs.Common.{rules, arith}
use Rattle.reading.proofs.Stacks.{turned}
use Rattle.reading.proofs.frames.Frames.bar.Goals as goal

pub returns-in-Some : goal.returns-in-Some
returns-in-Some g c = turned c.args.self.now.items.items c.saturating_sub-top.result (search rules) (omega arith) c.in-Some.frame.now c.in-Some.ensures.value
