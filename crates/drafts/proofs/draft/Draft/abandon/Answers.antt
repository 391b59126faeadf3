-- An emptied draft holds nothing.
use Rattle.drafts.proofs.Stepped.{abandon_steps}
use Rattle.drafts.proofs.draft.Draft.abandon.Goals as goal

pub returns-clause-step : goal.returns-clause-step
returns-clause-step c = abandon_steps c.clear.new.self c.clear.ensures
