-- Empty sets hold nothing.
use Rattle.nodesets.specs.Pairs.{by}
use Rattle.drafts.proofs.Held.{drafts_hold, lists_none}
use Rattle.drafts.proofs.draft.Draft.new.Goals as goal

pub returns : goal.returns
returns c = record { empty = lists_none (by c.default.result.numbers) c.default.ensures; some = drafts_hold }
