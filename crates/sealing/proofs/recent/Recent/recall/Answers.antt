-- The pair that stands at the place is this one, or nothing is told.
use Rattle.std.proofs.Common.{rules}
use Rattle.sealing.proofs.Recalled.{recalled}
use Rattle.sealing.proofs.recent.Recent.recall.Goals as goal

pub returns : goal.returns
returns c = rw c.then_some.ensures (recalled c.args.self.now c.args.moves.now c.place.result c.in_ok-entry.entry c.index.result.now c.eq.result (search rules) c.index.ensures c.in_ok-entry.was c.eq.ensures)
