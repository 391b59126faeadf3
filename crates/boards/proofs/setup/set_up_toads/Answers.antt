-- A written strip has no wrong character, so it is refused only for its size; what was read is a written strip.
use Rattle.std.proofs.Common.{subst, rules}
use Rattle.std.proofs.lemmas.Result.{err_from_is_err_and}
use Rattle.toads.specs.Strips.{Read}
use Rattle.boards.proofs.Codes.{cells_read}
use Rattle.boards.proofs.Refusals.{kept_ok}
use Rattle.boards.proofs.Strips.{strip_spelt, strip_read, strip_refused}
use Rattle.boards.proofs.setup.set_up_toads.Goals as goal

pub returns-in_err-position : goal.returns-in_err-position
returns-in_err-position c =
    let p = err_from_is_err_and c.from_residual.result c.from_residual.ensures.1 in
    record {
      set = λ cells e. rw (p.1, p.2) (strip_refused c.args.items.now cells e c.read.result c.read.ensures.read c.in_err-position.ensures.variant, search rules);
      others = λ none. rw (p.1, p.2) (search rules);
      digits = cells_read;
    }

pub returns : goal.returns
returns c =
    let h = subst (Read c.args.items.now) (kept_ok c.read.result c.in_ok-position.position c.in_ok-position.ensures.cases (λ x h. cc) (λ e h. h)) c.read.ensures.read in
    record {
      set = λ cells e. strip_read c.args.items.now cells e _ _ h.1 h.2 h.3;
      others = λ none. (let w = strip_spelt c.args.items.now h.0 h.1 in absurd (none w.0 w.1));
      digits = cells_read;
    }
