-- The index in digits.
use Rattle.std.proofs.Common.{◌≡◌, [], ◌++◌, length, drop, sym, ap, ◌∙◌, append-nil, zero-add, rules}
use Rattle.dictionary.specs.Printing.{over}
use Rattle.calculator.specs.Replies.{move_text}
use Rattle.calculator.proofs.Numbers.{numeral_is}
use Rattle.calculator.proofs.reply.put_move.Goals as goal

pub returns-in-Some : goal.returns-in-Some
returns-in-Some c =
    let same : c.as_bytes.result.now ++ [] ≡ move_text c.args.index = append-nil c.as_bytes.result.now ∙ c.as_bytes.ensures.value ∙ c.format.ensures.text ∙ numeral_is c.in-Some.index (search rules) ∙ sym (ap move_text c.in-Some.is) in
    record { behind = c.put.ensures.behind ∙ ap length same; written = c.put.ensures.written ∙ ap (over c.args.out.now 0) same ∙ ap (λ n. move_text c.args.index ++ drop n c.args.out.now) (zero-add (length (move_text c.args.index))) }
