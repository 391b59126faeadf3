use Rattle.std.proofs.Common.{[], refl}
use Rattle.std.proofs.lemmas.Result.{err_from_is_err_and}
use Rattle.lines.specs.Machine.{just}
use Rattle.lines.proofs.Passing.{passed_nil, spelling_more, spelling_fails, spelling_all}
use Rattle.lines.proofs.reader.Reader.spell.Goals as goal

pub loop-byte-init : goal.loop-byte-init
loop-byte-init c = passed_nil _ _

pub returns-in_err-expect : goal.returns-in_err-expect
returns-in_err-expect c =
    let p = err_from_is_err_and c.from_residual.result c.from_residual.ensures.1 in
    rw (p.1, p.2) (spelling_fails _ c.loop-byte.byte-index c.loop-byte-test.true c.loop-byte.invariant (c.in_err-expect.ensures (just _) [] refl refl))

pub loop-byte-preserved : goal.loop-byte-preserved
loop-byte-preserved c = spelling_more _ c.loop-byte.byte-index c.loop-byte-test.true c.loop-byte.invariant (c.in_ok-expect.ensures (just _) [] refl refl)

pub returns : goal.returns
returns c = (_, spelling_all _ c.loop-byte.byte-index c.loop-byte-test.false c.loop-byte.invariant, refl)
