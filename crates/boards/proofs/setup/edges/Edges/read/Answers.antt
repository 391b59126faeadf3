-- The fold takes one step for each byte.
use Rattle.std.proofs.Common.{Some, sym, ap, ◌∙◌, rules}
use Rattle.boards.specs.Stepping.{run}
use Rattle.boards.specs.EdgesRead.{edge_step, last_closed}
use Rattle.boards.proofs.Running.{run_folded}
use Rattle.boards.proofs.setup.edges.Edges.read.Goals as goal

pub returns-in_err-try_fold : goal.returns-in_err-try_fold
returns-in_err-try_fold c =
    c.from_residual.ensures
    ∙ ap last_closed (sym c.in_err-try_fold.was ∙ run_folded edge_step _ _ _ _ _ _ _ c.iter.ensures.rest c.try_fold.ensures.ran (λ s x r f k. search rules) ∙ ap (λ s. run edge_step (Some s) c.args.items.now) (search rules))

pub returns : goal.returns
returns c =
    c.close.ensures
    ∙ ap last_closed (sym c.in_ok-try_fold.was ∙ run_folded edge_step _ _ _ _ _ _ _ c.iter.ensures.rest c.try_fold.ensures.ran (λ s x r f k. search rules) ∙ ap (λ s. run edge_step (Some s) c.args.items.now) (search rules))
