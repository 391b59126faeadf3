use Rattle.calls.proofs.Ones.{sealing_has_one_outcome, valuing_has_one_outcome, reading_has_one_outcome, printing_has_one_outcome, putting_has_one_outcome, first_move_has_an_outcome, comparing_has_one_outcome, telling_has_one_outcome, texts_have_one_verdict}
use Rattle.calls.proofs.LookUp.{looking_up_has_one_outcome}
use Rattle.calls.proofs.laws.calls_have_one_outcome.Goals as goal

pub returns : goal.returns
returns c = record {
  sealing = sealing_has_one_outcome;
  valuing = valuing_has_one_outcome;
  moving = first_move_has_an_outcome;
  texts = texts_have_one_verdict;
  reading = reading_has_one_outcome;
  looking = looking_up_has_one_outcome;
  printing = printing_has_one_outcome;
  putting = putting_has_one_outcome;
  comparing = comparing_has_one_outcome;
  telling = telling_has_one_outcome;
}
