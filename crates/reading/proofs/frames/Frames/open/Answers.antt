-- A bracket more.
use Rattle.reading.proofs.Stacks.{pushed}
use Rattle.reading.proofs.frames.Frames.open.Goals as goal

pub returns : goal.returns
returns g c = (c.default.result, c.default.ensures, pushed _ _ _ c.push.ensures.items)
