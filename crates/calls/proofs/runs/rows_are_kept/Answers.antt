use Rattle.calls.proofs.RunLaws.{entries_are_canonical, rows_are_sound, told_numbers_are_entries, valued_stays}
use Rattle.calls.proofs.runs.rows_are_kept.Goals as goal

pub returns : goal.returns
returns c = record { sound = rows_are_sound; canonical = entries_are_canonical; entered = told_numbers_are_entries; valued = valued_stays }
