use Rattle.std.proofs.Common.{◌+◌, ◌*◌}
use Rattle.rulesets.proofs.play.+can_win+fn-can_win-any.Given as goal

-- the closure is asked of a successor, whose rank is smaller
abbrev pub decreases-can_win : goal.decreases-can_win
decreases-can_win g l = 2 * (g.R.Ruleset.rules l.board.now).rank l.code

abbrev pub decreases-any : goal.decreases-any
decreases-any g l = 2 * (g.R.Ruleset.rules l.board.now).rank l.next + 1
