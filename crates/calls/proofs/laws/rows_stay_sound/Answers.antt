use Rattle.calls.proofs.Written.{node_reads, rows_rise, rows_as_written}
use Rattle.calls.proofs.Calls.{rows_stay_sound}
use Rattle.calls.proofs.laws.rows_stay_sound.Goals as goal

pub returns : goal.returns
returns c = record { node = node_reads; rise = rows_rise; written = rows_as_written; sound = rows_stay_sound }
