-- An option has a lower number than its node; the options before the index are written, and nothing else.
use Rattle.std.proofs.Common.{◌≡◌, ◌+◌, ◌*◌, drop}
use Rattle.std.specs.Iterator.Adapters.{enumerate_source, enumerate_count}
use Rattle.games.specs.Numbered.{list_of}
use Rattle.stores.specs.Remaining.{options_left}
use Rattle.stores.specs.Rows.{row_at}
use Rattle.dictionary.specs.Writing.{Wrote}
use Rattle.dictionary.proofs.Texts.{before}
use Rattle.dictionary.proofs.print.+writing.Given as goal

abbrev pub decreases-write : goal.decreases-write
decreases-write g l = 2 * l.node + 1

abbrev pub decreases-write_options : goal.decreases-write_options
decreases-write_options g l = 2 * l.node

abbrev pub invariant-write_options-loop-index : goal.invariant-write_options-loop-index
invariant-write_options-loop-index g l =
    let rows = g.S.Store.rows l.store in
    let i = enumerate_count l.index-iterator in
    record {
      still : options_left g.S.Store.rows (enumerate_source l.index-iterator) ≡ drop i (list_of l.fn.side (row_at rows l.node));
      wrote : Wrote l.initial.writer l.writer (before rows l.fn.side l.node i);
    }
