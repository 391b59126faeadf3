-- The board is set up, and its first moves are tried.
use Rattle.std.proofs.Common.{◌≡◌, Ok, Err, sym, refl, subst, rules}
use Rattle.lines.specs.Syntax.{first_move}
use Rattle.boards.specs.AnyBoards.{any_rules, position}
use Rattle.valuing.specs.declared.fault.ValueFault.{ValueFault}
use Rattle.valuing.specs.Answers.{answer_at}
use Rattle.valuing.specs.Moved.{Earliest, Moved}
use Rattle.boards.specs.Fitting.{any_lawful}
use Rattle.calculator.specs.declared.fault.CalculatorFault.TheVariants.{Position}
use Rattle.calculator.specs.Written.{Replied}
use Rattle.calculator.specs.Replies.{board_place}
use Rattle.calculator.proofs.Replies.{move_refused, move_replied, move_stood, passed_on}
use Rattle.calculator.proofs.calculator.Calculator.reply_move.Goals as goal

pub returns-in_err-setup : goal.returns-in_err-setup
returns-in_err-setup g c =
    let d = c.args.self.now.dictionary in
    let r = d.room in
    let rows = d.rows in
    let out = c.args.out.now in
    let f = c.in_err-setup.field-0.0 in
    let e : c.from_residual.result ≡ Err f = search rules in
    record {
      replied = λ b x. passed_on r rows out out rows (first_move c.args.side b) f c.from_residual.result e refl (move_stood r rows out out rows c.args.side b f refl (c.in_err-setup.ensures (board_place c.args.side) b x));
      room = refl;
    }

pub returns-in_err-index-clause-replied : goal.returns-in_err-index-clause-replied
returns-in_err-index-clause-replied g c b x =
    let d = c.args.self.now.dictionary in
    let setup = c.in_ok-setup.setup in
    let (f, was, is) : (f : ValueFault) × (c.first_move_with.result ≡ Err f) × (c.in_err-index.field-0.0 ≡ Position c.args.board.now.place f) = search rules in
    let e : c.from_residual-in_err-index.result ≡ Err (Position c.args.board.now.place f) = search rules in
    let m = subst (λ r. Moved (any_rules setup.board) d.room d.rows c.args.side setup.code (answer_at r) c.first_move_with.new.dictionary.rows) was c.first_move_with.ensures.moved in
    let st = c.in_ok-setup.ensures (board_place c.args.side) b x in
    subst (λ r. Replied d.room d.rows (first_move c.args.side b) c.args.out.now c.args.out.now c.first_move_with.new.dictionary.rows r) (sym e)
    (Replied.faulty (Position c.args.board.now.place f)
    (move_refused d.room d.rows c.args.out.now c.args.out.now c.first_move_with.new.dictionary.rows c.args.side b (position setup) f c.args.board.now.place m.entries st.0 st.1 x.begins m.holds) refl)

pub returns-clause-replied : goal.returns-clause-replied
returns-clause-replied g c b x =
    let d = c.args.self.now.dictionary in
    let setup = c.in_ok-setup.setup in
    let was : c.first_move_with.result ≡ Ok c.in_ok-index.index = search rules in
    let m = subst (λ r. Moved (any_rules setup.board) d.room d.rows c.args.side setup.code (answer_at r) c.first_move_with.new.dictionary.rows) was c.first_move_with.ensures.moved in
    let z = subst (λ r. Earliest (any_rules setup.board) c.args.side setup.code (answer_at r)) was c.first_move_with.ensures.earliest in
    move_replied d.room d.rows c.args.out.now c.put_move.new.out c.first_move_with.new.dictionary.rows c.args.side b (position setup) c.in_ok-index.index m.entries c.put_move.result
    (c.in_ok-setup.ensures (board_place c.args.side) b x).0 m.holds z (any_lawful setup.board) c.put_move.ensures.behind c.put_move.ensures.written
