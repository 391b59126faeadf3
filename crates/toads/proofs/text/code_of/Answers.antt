use Rattle.std.proofs.Common.{◌+◌, ◌*◌, ◌%◌, ◌^◌, get_or, sym, ap, ◌∙◌, ap₂, arith}
use Rattle.std.proofs.lemmas.List.{take_all}
use Rattle.toads.specs.Cells.{char_read}
use Rattle.toads.specs.Strips.{code_of}
use Rattle.toads.proofs.Reading.{cell_there, digit_is, word_more, word_small}
use Rattle.toads.proofs.text.code_of.Goals as goal

pub unwrap-cell-requires : goal.unwrap-cell-requires
unwrap-cell-requires c =
    rw (c.try_from.ensures, c.from.ensures) (cell_there c.args.text.now c.loop-place.place (omega arith) c.requires.cells)

pub overflow_add-code : goal.overflow_add-code
overflow_add-code c =
    let k = word_small c.args.text.now c.loop-place.place (omega arith) c.requires.few in
    let d = digit_is (get_or c.args.text.now c.loop-place.place 0) c.unwrap-cell.result (sym (c.try_from.ensures ∙ ap char_read c.from.ensures) ∙ c.unwrap-cell.ensures) in
    rw (c.loop-place.invariant, c.from-in-loop-place.ensures, sym d) (omega arith)

pub loop-place-preserved : goal.loop-place-preserved
loop-place-preserved c =
    let d = digit_is (get_or c.args.text.now c.loop-place.place 0) c.unwrap-cell.result (sym (c.try_from.ensures ∙ ap char_read c.from.ensures) ∙ c.unwrap-cell.ensures) in
    ap₂ (λ x d. x + d * 2 ^ (2 * c.loop-place.place) % 18446744073709551616) c.loop-place.invariant (c.from-in-loop-place.ensures ∙ sym d)
    ∙ word_more c.args.text.now c.loop-place.place (omega arith) c.requires.few

pub returns : goal.returns
returns c = c.loop-place.invariant ∙ ap code_of (take_all c.loop-place.place c.args.text.now (omega arith))
