-- Rows that were read are those of the board, or the board is refused for its size. Bytes that were read spell a board.
use Rattle.std.proofs.Common.{Err, sym, ap, ◌∙◌}
use Rattle.std.proofs.lemmas.Result.{err_from_is_err_and}
use Rattle.boards.proofs.Codes.{squares_read, rows_read}
use Rattle.boards.proofs.Refusals.{no_value}
use Rattle.boards.proofs.RowsSpelt.{rows_spelt}
use Rattle.boards.proofs.Tables.{rows_refused, board_set, board_refused}
use Rattle.boards.proofs.setup.set_up_domineering.Goals as goal

pub returns-in_err-read : goal.returns-in_err-read
returns-in_err-read c =
    let p = err_from_is_err_and c.from_residual.result c.from_residual.ensures.1 in
    let h = no_value c.read.result c.in_err-read.field-0.0 c.in_err-read.ensures.value in
    record {
      set = λ rows e. rw (p.1, p.2) (rows_refused c.args.items.now rows e (sym h.0 ∙ c.read.ensures), h.1);
      others = λ none. p.1 ∙ ap Err (p.2 ∙ h.1);
      squares = squares_read;
      rowwise = rows_read;
    }

pub returns-in_err-board : goal.returns-in_err-board
returns-in_err-board c =
    let p = err_from_is_err_and c.from_residual-in_err-board.result c.from_residual-in_err-board.ensures.1 in
    let h = c.in_err-board.ensures in
    record {
      set = λ rows e. rw (p.1, p.2) (board_refused c.args.items.now rows e c.in_ok-read.read (sym c.in_ok-read.ensures.ok_part ∙ c.read.ensures) h.0, h.1);
      others = λ none. p.1 ∙ ap Err (p.2 ∙ h.1);
      squares = squares_read;
      rowwise = rows_read;
    }

pub returns : goal.returns
returns c =
    let h = c.in_ok-board.ensures in
    record {
      set = λ rows e. board_set c.args.items.now rows e c.in_ok-read.read (sym c.in_ok-read.ensures.ok_part ∙ c.read.ensures) _ h.0 h.1;
      others = λ none. (let w = rows_spelt c.args.items.now c.in_ok-read.read (sym (sym c.in_ok-read.ensures.ok_part ∙ c.read.ensures)) in absurd (none w.0 w.1));
      squares = squares_read;
      rowwise = rows_read;
    }
