-- The table inside is the one that notes.
use Rattle.std.proofs.Common.{vec_items, sym, subst}
use Rattle.memory.specs.Holds.{Among, At, More}
use Rattle.memory.specs.Memories.{InTable}
use Rattle.memory.proofs.table.TableNotes.note.Goals as goal

pub returns-in-Hashed : goal.returns-in-Hashed
returns-in-Hashed c = subst (λ t. More (InTable t) c.args.code c.args.number (Among (vec_items c.note.new.self.slots))) (sym c.in-Hashed.is) c.note.ensures

pub returns-in-Indexed : goal.returns-in-Indexed
returns-in-Indexed c = subst (λ t. More (InTable t) c.args.code c.args.number (At (vec_items c.note-in-Indexed.new.self.numbers))) (sym c.in-Indexed.is) c.note-in-Indexed.ensures
