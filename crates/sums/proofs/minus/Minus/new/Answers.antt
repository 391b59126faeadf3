use Rattle.std.proofs.Common.{refl}
use Rattle.games.proofs.Sums.{cancels}
use Rattle.sums.proofs.Values.{minus_negative, minus_cancels}
use Rattle.sums.proofs.minus.Minus.new.Goals as goal

pub returns : goal.returns
returns g c = record { made = refl; negative = minus_negative _; cancels = minus_cancels _ (g.met.R.Ruleset.lawful c.args.inner); forms = cancels }
