-- The rows as written: a row's lists rise, and a form stands as written exactly where its lists are a row.
-- Assumes nothing.
use Rattle.std.proofs.Common.{ℕ, ◌<◌, length, get_or, sym, ap, ◌∙◌, subst, arith}
use Rattle.games.specs.declared.side.Side.{Side}
use Rattle.games.specs.declared.side.Side.TheVariants.{Left, Right}
use Rattle.games.specs.Numbered.{Lists, list_of, each, form_by}
use Rattle.games.specs.Sides.{options}
use Rattle.games.specs.Listing.{Rising}
use Rattle.games.proofs.Canon.{clean_of}
use Rattle.calls.specs.Rows.{Rows, no_numbers, node, Below}
use Rattle.calls.specs.Laws.{NodeReads, RowsRise, RowsAsWritten}
use Rattle.calls.proofs.Rows.{node_law}
use Rattle.calls.proofs.Entering.{all_less}
use Rattle.calls.proofs.Outcomes.{same_row}

pub node_reads : NodeReads
node_reads rows s n k = node_law rows n k (s.lower n k)

pub rows_rise : RowsRise
rows_rise rows s z n k = side z (subst (λ g. Rising (options z g)) (node_reads rows s n k) ((clean_of (s.canonical n k)).rising z))
  where
    side : (z : Side) → Rising (options z (form_by (node rows) (get_or rows n no_numbers))) → Rising (each (node rows) (list_of z (get_or rows n no_numbers)))
    side Left r = r
    side Right r = r

below_all : (rows : Rows) {n : ℕ} (l : Lists) → n < length rows → Below n l → Below (length rows) l
below_all rows l k b = record { on_left = all_less _ _ (omega arith) l.left b.on_left; on_right = all_less _ _ (omega arith) l.right b.on_right }

pub rows_as_written : RowsAsWritten
rows_as_written rows s n l k b = (
  λ e. same_row rows s (get_or rows n no_numbers) l (below_all rows (get_or rows n no_numbers) k (s.lower n k)) b (sym (node_reads rows s n k) ∙ e),
  λ e. node_reads rows s n k ∙ ap (form_by (node rows)) e,
)
