-- What is told is the front of the buffer.
use Rattle.demos.proofs.Telling.{printed_front}
use Rattle.demos.proofs.told.text.Goals as goal

pub returns : goal.returns
returns g c = printed_front c.args.dictionary.now.rows c.args.node c.args.buffer.now c.print.new.out c.in_ok-end.end c.in_ok-end.ensures.printed
