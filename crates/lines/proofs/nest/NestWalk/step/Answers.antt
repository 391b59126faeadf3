use Rattle.calls.proofs.Nesting.{somewhere}
use Rattle.lines.proofs.Nesting.{stepped}
use Rattle.lines.proofs.nest.NestWalk.step.Goals as goal

pub returns : goal.returns
returns c = let (q, s) = somewhere c.args.self.now in stepped c.args.self.now c.args.byte c.args.place q s c.take.new.self c.take.result (c.take.ensures.steps q s)
