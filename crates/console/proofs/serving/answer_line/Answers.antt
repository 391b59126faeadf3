-- The answer is at the front of the buffer.
use Rattle.std.proofs.Common.{◌≡◌, Ok, rules}
use Rattle.console.proofs.Sessions.{answers_line, writes_answer}
use Rattle.console.proofs.serving.answer_line.Goals as goal

pub returns-in_err-write_all-clause-answered : goal.returns-in_err-write_all-clause-answered
returns-in_err-write_all-clause-answered g c =
    let is : c.answer.result ≡ Ok c.unwrap-length.result = search rules in
    let answer = answers_line _ _ _ _ _ c.answer.new.buffer c.unwrap-length.result (rw is at c.answer.ensures.answered) in
    (answer.0, answer.1, search rules)

pub returns-clause-answered : goal.returns-clause-answered
returns-clause-answered g c =
    let is : c.answer.result ≡ Ok c.unwrap-length.result = search rules in
    let answer = answers_line _ _ _ _ _ c.answer.new.buffer c.unwrap-length.result (rw is at c.answer.ensures.answered) in
    (answer.0, answer.1, writes_answer c.write_all-2.result answer.0 _ _ (g.W.Write.contents c.write_all.new.self) _ answer.2 c.in_ok-write_all.ensures.bytes c.write_all-2.ensures.bytes)
