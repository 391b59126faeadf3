use Rattle.calls.proofs.RunLaws.{printed_reads_back}
use Rattle.calls.proofs.runs.printed_texts_read_back.Goals as goal

pub returns : goal.returns
returns c = printed_reads_back
