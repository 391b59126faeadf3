use Rattle.std.proofs.Common.{[], refl}
use Rattle.std.proofs.lemmas.Result.{err_from_is_err_and}
use Rattle.lines.proofs.Passing.{failed_early, expects_passed, expects_failed}
use Rattle.lines.proofs.reader.Reader.expect.Goals as goal

pub returns-in_err-peek : goal.returns-in_err-peek
returns-in_err-peek c =
    let p = err_from_is_err_and c.from_residual.result c.from_residual.ensures.1 in
    let h = c.in_err-peek.ensures in
    rw (p.1, p.2) (λ x s e z. failed_early _ _ x [] _ refl h.0 h.1)

pub returns-then-branch-byte : goal.returns-then-branch-byte
returns-then-branch-byte c =
    let h = c.in_ok-peek.ensures in
    λ x s e z. expects_failed _ _ x s c.args.byte c.in_ok-peek.field-0 e refl h.0 h.1 c.if-branch-byte.true

pub returns : goal.returns
returns c =
    let h = c.in_ok-peek.ensures in
    λ x s e z. expects_passed _ _ x s c.args.byte c.in_ok-peek.field-0 e z refl refl h.0 h.1 c.if-branch-byte.false
