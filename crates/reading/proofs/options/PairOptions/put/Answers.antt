use Rattle.reading.proofs.InSets.{put_lists}
use Rattle.reading.proofs.options.PairOptions.put.Goals as goal

pub returns : goal.returns
returns c small l h = put_lists c.args.self.now c.insert.new.self c.args.node small c.args.side (rw c.from.ensures at c.insert.ensures.own) c.insert.ensures.theirs l h
