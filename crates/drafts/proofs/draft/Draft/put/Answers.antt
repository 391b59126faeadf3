-- The side's set has one number more, unless no node can have it.
use Rattle.std.proofs.Common.{arith}
use Rattle.nodesets.specs.Pairs.{by}
use Rattle.calls.specs.Answers.{told, refused}
use Rattle.calls.specs.Drafts.{taken, too_large}
use Rattle.calls.specs.Runs.{put}
use Rattle.drafts.specs.Holding.{PutsInto}
use Rattle.drafts.proofs.Held.{lists_put}
use Rattle.drafts.proofs.Stepped.{put_steps}
use Rattle.drafts.proofs.draft.Draft.put.Goals as goal

pub returns : goal.returns
returns c =
    let is = c.from-node.ensures in
    let few = c.if-node-ge-MOST_NODES.false in
    let puts : PutsInto c.args.self.now c.args.side c.args.number (told tt) (record { numbers = c.insert.new.self }) =
    λ l held. (put c.args.side c.args.number l, taken (omega arith), lists_put c.args.side c.args.number (omega arith) (by c.args.self.now.numbers) (by c.insert.new.self) (rw is at c.insert.ensures.own) c.insert.ensures.theirs l held) in
    record { puts = puts; step = put_steps c.args.self.now (record { numbers = c.insert.new.self }) c.args.side c.args.number (told tt) puts }

pub returns-then-node-ge-MOST_NODES : goal.returns-then-node-ge-MOST_NODES
returns-then-node-ge-MOST_NODES c =
    let is = c.from-node.ensures in
    let many = c.if-node-ge-MOST_NODES.true in
    let puts : PutsInto c.args.self.now c.args.side c.args.number (refused 1) c.args.self.now = λ l held. (l, too_large (omega arith), held) in
    record { puts = puts; step = put_steps c.args.self.now c.args.self.now c.args.side c.args.number (refused 1) puts }
