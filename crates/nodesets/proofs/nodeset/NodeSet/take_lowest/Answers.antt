-- Where there is no lowest number, there is none.
use Rattle.std.proofs.Common.{◌≡◌, None, rules}
use Rattle.nodesets.specs.Sets.{has}
use Rattle.nodesets.proofs.Words.{mem_past}
use Rattle.nodesets.proofs.Next.{none_next}
use Rattle.nodesets.proofs.nodeset.NodeSet.take_lowest.Goals as goal

pub returns-in_err-lowest : goal.returns-in_err-lowest
returns-in_err-lowest c =
    let none : c.next_inside.result ≡ None = search rules in
    let empty = none_next (has c.args.self.now) (λ k h. mem_past c.args.self.now.words k c.args.self.now.six h) (rw none at c.next_inside.ensures) in
    let out : c.from_residual.result ≡ None = search rules in
    rw out (empty, empty)
