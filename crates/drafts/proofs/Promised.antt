-- The promise over all lists of calls.
-- Assumes nothing.
use Rattle.calls.proofs.RunLaws.{entries_are_canonical, told_numbers_are_entries, numbers_tell_games, texts_tell_games, texts_are_canonical, printed_reads_back, rows_are_sound, valued_stays}
use Rattle.calls.proofs.WorkedRun.{shorter_run, worked_run}
use Rattle.drafts.specs.Promise.{OneGameOneNumberOneText}

pub promised : OneGameOneNumberOneText
promised = record {
  numbers = numbers_tell_games;
  texts = texts_tell_games;
  canonical = texts_are_canonical;
  read_back = printed_reads_back;
  rows = rows_are_sound;
  forms = entries_are_canonical;
  entered = told_numbers_are_entries;
  valued = valued_stays;
  worked = worked_run;
  shorter = shorter_run;
}
