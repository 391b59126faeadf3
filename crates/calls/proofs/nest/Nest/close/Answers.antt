use Rattle.std.proofs.Common.{rules}
use Rattle.calls.proofs.Nesting.{closes_last, closes_inside}
use Rattle.calls.proofs.nest.Nest.close.Goals as goal

pub returns-clause-on : goal.returns-clause-on
returns-clause-on c q s = closes_inside _ _ _ _ q c.requires s c.in-Some.ensures.items

pub returns-in_default-clause-on : goal.returns-in_default-clause-on
returns-in_default-clause-on c q s = closes_last _ c.args.self.now.outside.items q c.requires s (search rules)
