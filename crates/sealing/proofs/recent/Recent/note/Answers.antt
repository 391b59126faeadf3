-- The pair stands at its place, and at the others stands what stood there.
use Rattle.std.proofs.Common.{refl, rules}
use Rattle.sealing.proofs.Recalled.{noted, stands_noted}
use Rattle.sealing.proofs.recent.Recent.note.Goals as goal

pub returns-clause-noted : goal.returns-clause-noted
returns-clause-noted c = stands_noted c.args.self.now _ c.args.moves.now c.args.node c.place-place.result (search rules) refl

pub returns-clause-others : goal.returns-clause-others
returns-clause-others c o n = noted c.args.self.now _ c.args.moves.now c.args.node c.place-place.result (search rules) refl o n
