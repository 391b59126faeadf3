use Rattle.std.proofs.Common.{[], ◌∷◌, refl}
use Rattle.std.proofs.lemmas.Result.{err_from_is_err_and}
use Rattle.lines.specs.Machine.{board, board_word}
use Rattle.lines.specs.Reading.{BoardRead, BoardRest}
use Rattle.lines.specs.Words.{kind_word}
use Rattle.lines.proofs.Passing.{failed_after}
use Rattle.lines.proofs.Wholes.{tail, headed, board_read_of}
use Rattle.lines.proofs.reader.subjects.BoardPiece.read.Goals as goal

pub returns-in_err-expect : goal.returns-in_err-expect
returns-in_err-expect c =
    let p = err_from_is_err_and c.from_residual.result c.from_residual.ensures.1 in
    rw (p.1, p.2) (c.in_err-expect.ensures board (board_word ∷ []) refl refl)

pub returns-in_err-kind : goal.returns-in_err-kind
returns-in_err-kind c =
    let p = err_from_is_err_and c.from_residual-in_err-kind.result c.from_residual-in_err-kind.ensures.1 in
    rw (p.1, p.2) (failed_after (c.in_ok-expect.ensures board (board_word ∷ []) refl refl) c.in_err-kind.ensures)

pub returns : goal.returns
returns c =
    let kind = c.in_ok-kind.kind in
    let k = c.in_ok-kind.ensures in
    let g = headed (kind_word kind) (c.in_ok-expect.ensures board (board_word ∷ []) refl refl) k.1 k.2 in
    tail _ c.items.result (BoardRest c.args.reader.now.at kind c.keyword.new.self.at) (BoardRead c.args.reader.now.at) g (λ a w p. board_read_of kind a w g.goes.spans.ends p) c.items.ensures
