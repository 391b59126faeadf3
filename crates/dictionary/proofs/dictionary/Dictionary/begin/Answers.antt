-- There are no rows, and nothing is remembered.
use Rattle.std.proofs.Common.{rules}
use Rattle.dictionary.proofs.Settled.{sure_nothing}
use Rattle.dictionary.proofs.dictionary.Dictionary.begin.Goals as goal

pub invariant_of-result : goal.invariant_of-result
invariant_of-result g c = (search rules, sure_nothing _ c.in_ok-recent.recent c.in_ok-recent.ensures)
