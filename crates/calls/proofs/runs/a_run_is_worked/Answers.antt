use Rattle.calls.proofs.WorkedRun.{shorter_run, worked_run}
use Rattle.calls.proofs.runs.a_run_is_worked.Goals as goal

pub returns : goal.returns
returns c = record { worked = worked_run; shorter = shorter_run }
