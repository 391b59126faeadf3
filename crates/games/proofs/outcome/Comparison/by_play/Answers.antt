use Rattle.std.proofs.Common.{rules}
use Rattle.games.proofs.Outcomes.{compare_by_play, play_tells_the_order}
use Rattle.games.proofs.outcome.Comparison.by_play.Goals as goal

pub returns-in-true-true : goal.returns-in-true-true
returns-in-true-true c = record { value = search rules; compares = compare_by_play _ _ _ (search rules); theory = play_tells_the_order }

pub returns-in-true-false : goal.returns-in-true-false
returns-in-true-false c = record { value = search rules; compares = compare_by_play _ _ _ (search rules); theory = play_tells_the_order }

pub returns-in-false-true : goal.returns-in-false-true
returns-in-false-true c = record { value = search rules; compares = compare_by_play _ _ _ (search rules); theory = play_tells_the_order }

pub returns-in-false-false : goal.returns-in-false-false
returns-in-false-false c = record { value = search rules; compares = compare_by_play _ _ _ (search rules); theory = play_tells_the_order }
