use Rattle.lines.proofs.Wholes.{minus_of, sum_of, form_of, plain_of}
use Rattle.lines.proofs.reader.Reader.content.Goals as goal

pub returns-in_ok-closed-in-Minus : goal.returns-in_ok-closed-in-Minus
returns-in_ok-closed-in-Minus c = let (w, p, q) = c.in_ok-closed-in-Minus.ensures in rw c.in-Minus.is (w, p, minus_of _ w c.args.place q)

pub returns-in_ok-first-in-Sum : goal.returns-in_ok-first-in-Sum
returns-in_ok-first-in-Sum c = let (w, p, q) = c.in_ok-first-in-Sum.ensures in rw c.in-Sum.is (w, p, sum_of _ _ w c.args.place q)

pub returns-in_ok-closed-in-Form : goal.returns-in_ok-closed-in-Form
returns-in_ok-closed-in-Form c = let (w, p, q) = c.in_ok-closed-in-Form.ensures in rw c.in-Form.is (w, p, form_of _ w c.args.place q)

pub returns-in_ok-items-in-Board : goal.returns-in_ok-items-in-Board
returns-in_ok-items-in-Board c = let (w, p, q) = c.in_ok-items-in-Board.ensures in rw c.in-Board.is (w, p, plain_of c.in-Board.kind _ w c.args.place q)
