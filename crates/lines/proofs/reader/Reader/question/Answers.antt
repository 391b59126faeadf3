use Rattle.std.proofs.Common.{[], ◌∷◌, refl}
use Rattle.std.proofs.lemmas.Result.{err_from_is_err_and}
use Rattle.lines.specs.Machine.{line, line_word}
use Rattle.lines.specs.Reading.{QuestionRead, QuestionRest}
use Rattle.lines.specs.Words.{ask_word}
use Rattle.lines.proofs.Passing.{failed_after}
use Rattle.lines.proofs.Wholes.{tail, headed, question_read_of}
use Rattle.lines.proofs.reader.Reader.question.Goals as goal

pub returns-in_err-expect : goal.returns-in_err-expect
returns-in_err-expect c =
    let p = err_from_is_err_and c.from_residual.result c.from_residual.ensures.1 in
    rw (p.1, p.2) (c.in_err-expect.ensures line (line_word ∷ []) refl refl)

pub returns-in_err-ask : goal.returns-in_err-ask
returns-in_err-ask c =
    let p = err_from_is_err_and c.from_residual-in_err-ask.result c.from_residual-in_err-ask.ensures.1 in
    rw (p.1, p.2) (failed_after (c.in_ok-expect.ensures line (line_word ∷ []) refl refl) c.in_err-ask.ensures)

pub returns : goal.returns
returns c =
    let ask = c.in_ok-ask.ask in
    let k = c.in_ok-ask.ensures in
    let g = headed (ask_word ask) (c.in_ok-expect.ensures line (line_word ∷ []) refl refl) k.1 k.2 in
    tail _ c.asked.result (QuestionRest ask c.keyword.new.self.at) (QuestionRead c.args.self.now.at) g (λ a w p. question_read_of ask a w g.goes.spans.ends p) c.asked.ensures
