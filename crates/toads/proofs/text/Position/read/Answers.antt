use Rattle.std.proofs.Common.{sym, ◌∙◌}
use Rattle.std.proofs.lemmas.Result.{err_from_is_err_and}
use Rattle.toads.proofs.Reading.{code_reads, first_wrong_is}
use Rattle.toads.proofs.text.Position.read.Goals as goal

pub returns-in-Some : goal.returns-in-Some
returns-in-Some c = record { read = sym (first_wrong_is c.args.text.now) ∙ sym c.wrong_character.ensures ∙ c.in-Some.is; means = code_reads c.args.text.now }

pub code_of-code-requires-clause-cells : goal.code_of-code-requires-clause-cells
code_of-code-requires-clause-cells c = sym (first_wrong_is c.args.text.now) ∙ sym c.wrong_character.ensures ∙ c.in_default.is

pub returns-in_err-strip : goal.returns-in_err-strip
returns-in_err-strip c =
    let p = err_from_is_err_and c.from_residual.result c.from_residual.ensures.1 in
    record { read = rw (p.1, p.2) (sym (first_wrong_is c.args.text.now) ∙ sym c.wrong_character.ensures ∙ c.in_default.is, c.in_err-strip.ensures.made.0); means = code_reads c.args.text.now }

pub returns : goal.returns
returns c = record { read = (sym (first_wrong_is c.args.text.now) ∙ sym c.wrong_character.ensures ∙ c.in_default.is, c.in_ok-strip.ensures.made.0, c.in_ok-strip.ensures.made.1, c.code_of-code.ensures); means = code_reads c.args.text.now }
