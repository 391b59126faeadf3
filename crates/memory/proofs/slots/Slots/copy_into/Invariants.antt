-- What the loop keeps.
use Rattle.std.proofs.Common.{vec_items}
use Rattle.memory.specs.Holds.{Among, Joined}
use Rattle.memory.proofs.slots.Slots.copy_into.Given as goal

abbrev pub invariant-loop-slot : goal.invariant-loop-slot
invariant-loop-slot g l = Joined (Among (vec_items l.self.slots)) (g.N.Notes.holds l.initial.other) (g.N.Notes.holds l.other)
