use Rattle.lines.proofs.Wholes.{value_of, comparison_of, first_move_of}
use Rattle.lines.proofs.reader.Reader.asked.Goals as goal

pub returns-in_ok-closed-in-Value : goal.returns-in_ok-closed-in-Value
returns-in_ok-closed-in-Value c = let (w, p, q) = c.in_ok-closed-in-Value.ensures in rw c.in-Value.is (w, p, value_of _ w q)

pub returns-in_ok-first-in-Compare : goal.returns-in_ok-first-in-Compare
returns-in_ok-first-in-Compare c = let (w, p, q) = c.in_ok-first-in-Compare.ensures in rw c.in-Compare.is (w, p, comparison_of _ _ w q)

pub returns-in_ok-side-in-Move : goal.returns-in_ok-side-in-Move
returns-in_ok-side-in-Move c = let (w, p, q) = c.in_ok-side-in-Move.ensures in rw c.in-Move.is (w, p, first_move_of _ _ w q)
