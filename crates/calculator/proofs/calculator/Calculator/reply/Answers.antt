-- By what the line asks.
use Rattle.std.proofs.Common.{sym, subst}
use Rattle.lines.specs.Questions.{Describes}
use Rattle.calculator.specs.Written.{Replied}
use Rattle.calculator.proofs.Answering.{comparison_is, first_fits, first_move_is, second_fits, value_fits, value_is}
use Rattle.calculator.proofs.calculator.Calculator.reply.Goals as goal

pub returns-in-Value-clause-replied : goal.returns-in-Value-clause-replied
returns-in-Value-clause-replied g c l d small =
    let (s, e, x) = value_is l c.in-Value.subject (subst (λ q. Describes q l) c.in-Value.is d) in
    subst (λ z. Replied c.args.self.now.dictionary.room c.args.self.now.dictionary.rows z c.args.out.now c.reply_value.new.out c.reply_value.new.self.dictionary.rows c.reply_value.result) (sym e)
    (c.reply_value.ensures.replied s x (value_fits s (rw e at small)))

pub returns-in-Compare-clause-replied : goal.returns-in-Compare-clause-replied
returns-in-Compare-clause-replied g c l d small =
    let (s, u, e, x, y) = comparison_is l c.in-Compare.first c.in-Compare.second (subst (λ q. Describes q l) c.in-Compare.is d) in
    subst (λ z. Replied c.args.self.now.dictionary.room c.args.self.now.dictionary.rows z c.args.out.now c.reply_compare.new.out c.reply_compare.new.self.dictionary.rows c.reply_compare.result) (sym e)
    (c.reply_compare.ensures.replied s u x y (first_fits s u (rw e at small)) (second_fits s u (rw e at small)))

pub returns-in-Move-clause-replied : goal.returns-in-Move-clause-replied
returns-in-Move-clause-replied g c l d small =
    let (b, e, x) = first_move_is l c.in-Move.side c.in-Move.board (subst (λ q. Describes q l) c.in-Move.is d) in
    subst (λ z. Replied c.args.self.now.dictionary.room c.args.self.now.dictionary.rows z c.args.out.now c.reply_move.new.out c.reply_move.new.self.dictionary.rows c.reply_move.result) (sym e)
    (c.reply_move.ensures.replied b x)
