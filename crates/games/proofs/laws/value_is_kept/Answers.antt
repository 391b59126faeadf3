use Rattle.games.proofs.Value.{replace_≈, drop_≈, bypass_≈}
use Rattle.games.proofs.laws.value_is_kept.Goals as goal

pub returns : goal.returns
returns c = record { equal = replace_≈; dominated = drop_≈; reversible = bypass_≈ }
