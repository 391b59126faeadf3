-- An emptied draft holds nothing.
use Rattle.drafts.proofs.Stepped.{open_steps}
use Rattle.drafts.proofs.draft.Draft.open.Goals as goal

pub returns-clause-step : goal.returns-clause-step
returns-clause-step c = open_steps c.clear.new.self c.clear.ensures
