-- The codes of written boards: below the limit, and legal where there is no edge to fall.
-- Assumes nothing.
use Rattle.std.proofs.Common.{◌≡◌, ℕ, ◌*◌, ◌^◌, ◌<◌, Bool, true, false, cond, List, [], ◌∷◌, length, Some, None, sym, refl, ◌∙◌, subst, ap₂, pow-suc, arith}
use Rattle.std.proofs.lemmas.Nat.{pow_pos}
use Rattle.std.proofs.lemmas.Bool.{and_parts, lt-ltb}
use Rattle.domineering.specs.Domineering.{sized as rows_sized}
use Rattle.toads.specs.Toads.{legal}
use Rattle.toads.specs.Making.{sized as strip_sized}
use Rattle.toads.proofs.Reading.{code_reads}
use Rattle.hackenbush.specs.Hackenbush.{fits}
use Rattle.lines.specs.Syntax.{Items, Square, Cell, toad, frog, blank, domineering, toads, hackenbush}
use Rattle.boards.specs.Boards.{Position, all, even, squares_of, squares_code, rows_fit, rows_position, cells_code, cells_position, joints, edges_position}
use Rattle.boards.specs.Laws.{CodesBelow, RowsLegal, CellsLegal}
use Rattle.boards.proofs.Squares.{code_below}
use Rattle.boards.proofs.RowByRow.{long, even_count}
use Rattle.boards.proofs.Strips.{spelt, all_right, as_many, same_code}

-- what stands for something fits, and stands for that
meant : (b : Bool) (q p : Position) → cond b (Some q) None ≡ Some p → (b ≡ true) × (q ≡ p)
meant true q p e = (refl, cc)
meant false q p e = let z : ◌≡◌ {A = ℕ} 0 1 = cc in absurd (omega arith)

rows_below : (rows : Items (Items Square)) → rows_fit rows ≡ true → squares_code (squares_of (all rows)) < 2 ^ (length (all rows) * long rows.first)
rows_below rows f =
    let e = (and_parts (even (long rows.first) (all rows)) (rows_sized (length (all rows)) (long rows.first)) f).0 in
    subst (λ n. squares_code (squares_of (all rows)) < 2 ^ n) (even_count (long rows.first) (all rows) e) (code_below (squares_of (all rows)))

cells_below : (cells : List Cell) → cells_code cells < 4 ^ length cells
cells_below [] = omega arith
cells_below (toad ∷ cells) = let k = cells_below cells in omega (arith, pow-suc 4 (length cells))
cells_below (frog ∷ cells) = let k = cells_below cells in omega (arith, pow-suc 4 (length cells))
cells_below (blank ∷ cells) = let k = cells_below cells in omega (arith, pow-suc 4 (length cells))

pub codes_below : CodesBelow
codes_below (domineering rows) p e =
    let m = meant (rows_fit rows) (rows_position rows) p e in
    subst (λ q. q.code < q.rules.limit) m.1 (rows_below rows m.0)
codes_below (toads cells) p e =
    subst (λ q. q.code < q.rules.limit) (meant (strip_sized (length (all cells))) (cells_position cells) p e).1 (cells_below (all cells))
codes_below (hackenbush edges) p e =
    let k = pow_pos (length (joints edges)) in
    let l : (edges_position edges).code < (edges_position edges).rules.limit = omega arith in
    subst (λ q. q.code < q.rules.limit) (meant (fits (joints edges)) (edges_position edges) p e).1 l

pub rows_legal : RowsLegal
rows_legal rows p e =
    let m = meant (rows_fit rows) (rows_position rows) p e in
    subst (λ q. q.rules.legal q.code ≡ true) m.1 (lt-ltb _ _ (rows_below rows m.0))

pub cells_legal : CellsLegal
cells_legal cells p e =
    let r = (code_reads (spelt (all cells)) (all_right (all cells))).0 in
    subst (λ q. q.rules.legal q.code ≡ true) (meant (strip_sized (length (all cells))) (cells_position cells) p e).1
    (ap₂ legal (sym (as_many (all cells))) (sym (same_code (all cells))) ∙ r)
