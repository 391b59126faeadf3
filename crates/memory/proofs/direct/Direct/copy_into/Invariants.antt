-- What the loop keeps.
use Rattle.std.proofs.Common.{vec_items}
use Rattle.memory.specs.Holds.{At, Joined}
use Rattle.memory.proofs.direct.Direct.copy_into.Given as goal

abbrev pub invariant-loop-code : goal.invariant-loop-code
invariant-loop-code g l = Joined (At (vec_items l.self.numbers)) (g.N.Notes.holds l.initial.other) (g.N.Notes.holds l.other)
