-- The sum of two boards is within the bounds of a ruleset, so it is not refused.
use Rattle.std.proofs.Common.{sym, ◌∙◌}
use Rattle.std.proofs.lemmas.Bool.{true≢false}
use Rattle.std.proofs.lemmas.Result.{MatchResult-at_ok}
use Rattle.sums.proofs.Values.{sum_adds}
use Rattle.boards.specs.Fitting.{any_lawful, boards_fit}
use Rattle.boards.proofs.Refusals.{unrefused}
use Rattle.boards.proofs.sum.add.Goals as goal

pub unwrap-requires : goal.unwrap-requires
unwrap-requires c = unrefused _ c.new.result c.new.ensures.parts (λ e h. true≢false (sym (boards_fit c.args.first c.args.second) ∙ h.0))

pub returns : goal.returns
returns c =
    let p = MatchResult-at_ok _ _ _ c.unwrap.ensures c.new.ensures.parts in
    record { parts = (p.1, p.2); fit = boards_fit; adds = sum_adds _ _ (any_lawful c.args.first) (any_lawful c.args.second) }
