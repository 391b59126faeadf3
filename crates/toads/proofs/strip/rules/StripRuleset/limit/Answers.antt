use Rattle.toads.proofs.Holding.{limit_is}
use Rattle.toads.proofs.strip.rules.StripRuleset.limit.Goals as goal

pub returns : goal.returns
returns c = limit_is c.args.self.now.cells c.args.self.now.few
