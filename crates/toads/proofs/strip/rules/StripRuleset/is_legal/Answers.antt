use Rattle.std.proofs.Common.{arith}
use Rattle.toads.proofs.Holding.{legal_test}
use Rattle.toads.proofs.strip.rules.StripRuleset.is_legal.Goals as goal

pub returns-then-code-limit : goal.returns-then-code-limit
returns-then-code-limit c = legal_test c.args.self.now.cells c.args.code c.args.self.now.few (let e = c.limit.ensures in omega arith)
