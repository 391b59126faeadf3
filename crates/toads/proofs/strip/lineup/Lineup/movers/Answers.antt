use Rattle.toads.proofs.Holding.{left_movers, right_movers}
use Rattle.toads.proofs.strip.lineup.Lineup.movers.Goals as goal

pub returns-in-Left : goal.returns-in-Left
returns-in-Left c = let l = c.args.self.now in
    rw c.in-Left.is (left_movers l.cells l.code c.holding-toads.result c.holding-frogs.result c.holding-empty.result c.holding-toads.ensures.marks c.holding-frogs.ensures.marks c.holding-empty.ensures.marks)

pub returns-in-Right : goal.returns-in-Right
returns-in-Right c = let l = c.args.self.now in
    rw c.in-Right.is (right_movers l.cells l.code c.holding-toads.result c.holding-frogs.result c.holding-empty.result c.holding-toads.ensures.marks c.holding-frogs.ensures.marks c.holding-empty.ensures.marks c.holding-toads.ensures.small c.holding-empty.ensures.small)
