use Rattle.games.proofs.Sums.{sum_law}
use Rattle.sums.proofs.Values.{sum_adds}
use Rattle.sums.proofs.sum.Sum.new.Goals as goal

pub returns-then-is_none-clause-forms : goal.returns-then-is_none-clause-forms
returns-then-is_none-clause-forms g c = sum_law

pub returns-clause-adds : goal.returns-clause-adds
returns-clause-adds g c = sum_adds _ _ (g.met.A.Ruleset.lawful c.args.first) (g.met.B.Ruleset.lawful c.args.second)

pub returns-clause-forms : goal.returns-clause-forms
returns-clause-forms g c = sum_law
