use Rattle.lines.proofs.Faults.{bytes_have_a_verdict, the_verdict_is_one}
use Rattle.lines.proofs.Telling.{spelling_tells}
use Rattle.lines.proofs.laws.lines_have_one_verdict.Goals as goal

pub returns : goal.returns
returns c = record { some = bytes_have_a_verdict; one = the_verdict_is_one; tells = spelling_tells }
