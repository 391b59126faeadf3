-- The dictionary seals the two sets, and the draft is then empty.
use Rattle.dictionary.specs.Faults.{answer_of}
use Rattle.drafts.proofs.Promised.{promised}
use Rattle.drafts.proofs.Stepped.{seal_steps, sealing_calls_step}
use Rattle.drafts.proofs.seal.seal.Goals as goal

pub returns : goal.returns
returns g c = record {
  seals = c.seal-answer.ensures.seals;
  empty = c.abandon.ensures.empty;
  step = seal_steps c.args.dictionary.now.room c.args.dictionary.now.rows c.seal-answer.new.self.rows c.args.draft.now c.abandon.new.self (answer_of c.seal-answer.result) c.seal-answer.ensures.seals c.abandon.ensures.empty;
  room = c.seal-answer.ensures.room;
  others = sealing_calls_step;
  law = promised;
}
