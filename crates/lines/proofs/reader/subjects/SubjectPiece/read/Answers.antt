use Rattle.std.proofs.Common.{[], ◌∷◌, refl}
use Rattle.std.proofs.lemmas.Result.{err_from_is_err_and}
use Rattle.lines.specs.Machine.{subject, subject_word}
use Rattle.lines.specs.Words.{heading_word}
use Rattle.lines.proofs.Passing.{passed_++, failed_after}
use Rattle.lines.proofs.Wholes.{headed, subject_read_of}
use Rattle.lines.proofs.reader.subjects.SubjectPiece.read.Goals as goal

pub returns-in_err-expect : goal.returns-in_err-expect
returns-in_err-expect c =
    let p = err_from_is_err_and c.from_residual.result c.from_residual.ensures.1 in
    rw (p.1, p.2) (c.in_err-expect.ensures subject (subject_word ∷ []) refl refl)

pub returns-in_err-heading : goal.returns-in_err-heading
returns-in_err-heading c =
    let p = err_from_is_err_and c.from_residual-in_err-heading.result c.from_residual-in_err-heading.ensures.1 in
    rw (p.1, p.2) (failed_after (c.in_ok-expect.ensures subject (subject_word ∷ []) refl refl) c.in_err-heading.ensures)

pub returns-in_err-content : goal.returns-in_err-content
returns-in_err-content c =
    let p = err_from_is_err_and c.from_residual-in_err-content.result c.from_residual-in_err-content.ensures.1 in
    let k = c.in_ok-heading.ensures in
    rw (p.1, p.2) (failed_after (headed _ (c.in_ok-expect.ensures subject (subject_word ∷ []) refl refl) k.1 k.2) c.in_err-content.ensures)

pub returns : goal.returns
returns c =
    let heading = c.in_ok-heading.heading in
    let k = c.in_ok-heading.ensures in
    let g = headed (heading_word heading) (c.in_ok-expect.ensures subject (subject_word ∷ []) refl refl) k.1 k.2 in
    let r = c.in_ok-content.ensures in
    (_, passed_++ g r.1, subject_read_of heading _ _ g.goes.spans.ends r.2)
