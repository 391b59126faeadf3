use Rattle.toads.proofs.Holding.{all_marks, all_small}
use Rattle.toads.proofs.strip.lineup.Lineup.all.Goals as goal

pub returns : goal.returns
returns c = record { marks = all_marks c.args.self.now.cells c.args.self.now.few; small = all_small c.args.self.now.cells c.args.self.now.few }
