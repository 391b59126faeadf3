use Rattle.std.proofs.Common.{rules, ◌≡◌, Err, [], drop, refl, ap, ◌∙◌}
use Rattle.std.proofs.lemmas.List.{take_rest}
use Rattle.std.proofs.lemmas.Result.{err_from_is_err_and}
use Rattle.calls.specs.declared.fault.TextFault.TheVariants.{WrongByte}
use Rattle.lines.proofs.Passing.{failed_early, failed_wrong, word_failed, word_passed}
use Rattle.lines.proofs.reader.Reader.keyword.Goals as goal

pub returns-in_err-peek : goal.returns-in_err-peek
returns-in_err-peek g c =
    let p = err_from_is_err_and c.from_residual.result c.from_residual.ensures.1 in
    let h = c.in_err-peek.ensures in
    rw (p.1, p.2) (failed_early _ _ g.K.Keyword.symbol [] _ refl h.0 h.1)

pub returns-in_err-keyword : goal.returns-in_err-keyword
returns-in_err-keyword g c =
    let h = c.in_ok-peek.ensures in
    let fault : c.from_residual-in_err-keyword.result ≡ Err (WrongByte c.args.self.now.at) = search rules in
    rw fault (failed_wrong _ _ c.in_ok-peek.field-0 h.0 h.1 g.K.Keyword.symbol [] refl (rw c.in_err-keyword.ensures.ok_part at c.from_letter.ensures))

pub returns-in_err-spell : goal.returns-in_err-spell
returns-in_err-spell g c =
    let p = err_from_is_err_and c.from_residual-in_err-spell.result c.from_residual-in_err-spell.ensures.1 in
    let h = c.in_ok-peek.ensures in
    let keyword = c.in_ok-keyword.keyword in
    let begins = rw c.in_ok-keyword.ensures.ok_part at c.from_letter.ensures in
    rw (p.1, p.2) (word_failed _ _ c.in_ok-peek.field-0 h.0 h.1 refl refl g.K.Keyword.symbol (g.K.Keyword.spelt keyword) _ (g.K.Keyword.rest keyword) begins (g.met.K.Keyword.leads keyword) (take_rest _ 1 ∙ ap (drop 1) c.word.ensures) c.in_err-spell.ensures)

pub returns : goal.returns
returns g c =
    let h = c.in_ok-peek.ensures in
    let q = c.in_ok-spell.ensures in
    let keyword = c.in_ok-keyword.keyword in
    let begins = rw c.in_ok-keyword.ensures.ok_part at c.from_letter.ensures in
    word_passed _ _ c.in_ok-peek.field-0 h.0 h.1 refl refl g.K.Keyword.symbol (g.K.Keyword.spelt keyword) _ (g.K.Keyword.rest keyword) begins (g.met.K.Keyword.leads keyword) (take_rest _ 1 ∙ ap (drop 1) c.word.ensures) q.1 q.2
