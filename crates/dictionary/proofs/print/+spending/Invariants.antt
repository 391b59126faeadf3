-- An option has a lower number than its node; the budget has paid for the options behind the index.
use Rattle.std.proofs.Common.{◌≡◌, ◌+◌, ◌-◌, ◌*◌, ◌≤◌, drop, length}
use Rattle.std.specs.Iterator.Adapters.{enumerate_source, enumerate_count}
use Rattle.games.specs.Numbered.{list_of}
use Rattle.stores.specs.Remaining.{options_left}
use Rattle.stores.specs.Rows.{row_at}
use Rattle.dictionary.proofs.Texts.{before}
use Rattle.dictionary.proofs.print.+spending.Given as goal

abbrev pub decreases-spend : goal.decreases-spend
decreases-spend g l = 2 * l.node + 1

abbrev pub decreases-spend_options : goal.decreases-spend_options
decreases-spend_options g l = 2 * l.node

abbrev pub invariant-spend_options-loop-index : goal.invariant-spend_options-loop-index
invariant-spend_options-loop-index g l =
    let rows = g.S.Store.rows l.store in
    let i = enumerate_count l.index-iterator in
    let paid = length (before rows l.fn.side l.node i) in
    record {
      still : options_left g.S.Store.rows (enumerate_source l.index-iterator) ≡ drop i (list_of l.fn.side (row_at rows l.node));
      enough : paid ≤ l.initial.left;
      left : l.left ≡ l.initial.left - paid;
    }
