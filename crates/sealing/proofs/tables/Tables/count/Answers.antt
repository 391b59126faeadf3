-- The nodes are as many as their rows.
use Rattle.std.proofs.Common.{◌∙◌}
use Rattle.sealing.proofs.Sealing.{count_is, sound}
use Rattle.sealing.proofs.tables.Tables.count.Goals as goal

pub returns : goal.returns
returns c = record { number = c.count.ensures ∙ count_is c.args.self.now; sound = sound c.args.self.now }
