-- Each line is answered before the next.
use Rattle.std.proofs.Common.{None, refl, sym, subst, ◌∙◌}
use Rattle.std.specs.Io.Buffered.{reader_remaining, writer_contents}
use Rattle.std.specs.Io.KnownBytes.{Keeps}
use Rattle.std.proofs.KnownBytes.{Keeps-refl}
use Rattle.console.proofs.Sessions.{begins, begins_one, serves_one, serving_begins, serving_ends, serving_kept}
use Rattle.console.proofs.serving.serve.Goals.{then-is_none+in_ok-flush, else-is_none}
use Rattle.console.proofs.serving.serve.Goals as goal

pub loop-init : goal.loop-init
loop-init g c = (refl, serving_begins _ _ _ _)

pub loop-preserved : goal.loop-preserved
loop-preserved g c =
    let contents = writer_contents g.W.Write.contents in
    let grown = contents c.answer_line.new.output in
    let flushed : Keeps grown (contents c.if-is_none.output) = elim c.if-is_none.branch [
      | then-is_none+in_ok-flush w ↦ subst (λ o. Keeps grown (contents o)) (sym w.output-is) w.in_ok-flush.ensures.bytes
      | else-is_none w ↦ subst (λ o. Keeps grown (contents o)) (sym w.output-is) (Keeps-refl grown)
    ] in
    let answered = rw c.bytes.ensures at c.in_ok-answer_line.ensures.answered in (
      c.answer_line.ensures.room ∙ c.loop.invariant.0,
      serving_kept _ _ _ _ _ _ grown _
          (serves_one _ _ _ _ _ _ (reader_remaining g.R.Read.remaining c.loop.input) _ c.next_line.new.line.bytes.items answered.0 _ (contents c.loop.output) grown c.in_ok-next_line.field-0
          c.loop.invariant.1 c.in_ok-next_line.ensures c.if-not-branch.false c.loop.invariant.0 answered.1 answered.2)
          flushed,
    )

pub returns-in_err-line-clause-begun : goal.returns-in_err-line-clause-begun
returns-in_err-line-clause-begun g c = begins _ _ _ _ _ None None (serving_begins _ _ _ None)

pub returns-in_err-next_line-clause-begun : goal.returns-in_err-next_line-clause-begun
returns-in_err-next_line-clause-begun g c = begins _ _ _ _ _ _ _ c.loop.invariant.1

pub returns-then-not-branch-clause-begun : goal.returns-then-not-branch-clause-begun
returns-then-not-branch-clause-begun g c = begins _ _ _ _ _ _ _ c.loop.invariant.1

pub returns-clause-begun : goal.returns-clause-begun
returns-clause-begun g c = begins _ _ _ _ _ _ _ c.loop.invariant.1

pub returns-in_err-answer_line-clause-begun : goal.returns-in_err-answer_line-clause-begun
returns-in_err-answer_line-clause-begun g c =
    let answered = rw c.bytes.ensures at c.answer_line.ensures.answered in
    begins_one _ _ _ _ _ _ _ (reader_remaining g.R.Read.remaining c.next_line.new.input) c.next_line.new.line.bytes.items answered.0 _ _ c.in_ok-next_line.field-0 c.loop.invariant.1 c.in_ok-next_line.ensures c.if-not-branch.false c.loop.invariant.0 answered.1

pub returns-in_err-flush-clause-begun : goal.returns-in_err-flush-clause-begun
returns-in_err-flush-clause-begun g c =
    let answered = rw c.bytes.ensures at c.answer_line.ensures.answered in
    begins_one _ _ _ _ _ _ _ (reader_remaining g.R.Read.remaining c.next_line.new.input) c.next_line.new.line.bytes.items answered.0 _ _ c.in_ok-next_line.field-0 c.loop.invariant.1 c.in_ok-next_line.ensures c.if-not-branch.false c.loop.invariant.0 answered.1

pub returns-then-not-branch-clause-served : goal.returns-then-not-branch-clause-served
returns-then-not-branch-clause-served g c =
    (serving_ends c.flush.result _ _ _ _ _ (reader_remaining g.R.Read.remaining c.next_line.new.input) c.next_line.new.line.bytes.items _ _ (writer_contents g.W.Write.contents c.flush.new.self) c.in_ok-next_line.field-0
    c.loop.invariant.1 c.in_ok-next_line.ensures c.if-not-branch.true c.flush.ensures.bytes).0

pub returns-then-not-branch-clause-ended : goal.returns-then-not-branch-clause-ended
returns-then-not-branch-clause-ended g c =
    (serving_ends c.flush.result _ _ _ _ _ (reader_remaining g.R.Read.remaining c.next_line.new.input) c.next_line.new.line.bytes.items _ _ (writer_contents g.W.Write.contents c.flush.new.self) c.in_ok-next_line.field-0
    c.loop.invariant.1 c.in_ok-next_line.ensures c.if-not-branch.true c.flush.ensures.bytes).1
