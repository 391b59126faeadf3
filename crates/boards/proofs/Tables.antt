-- A Domineering board set up from its written rows.
-- Assumes nothing.
use Rattle.std.proofs.Common.{◌≡◌, ℕ, ◌+◌, ◌-◌, ◌*◌, ◌/◌, ◌<◌, true, false, ◌&&◌, eqb, ltb, List, length, Some, None, Option, sym, ap, ◌∙◌, subst, ap₂, ⊎_elim, arith}
use Rattle.std.specs.Option.{option_map}
use Rattle.std.proofs.lemmas.Nat.{div-mul-add}
use Rattle.std.proofs.lemmas.Bool.{cond-true, cond-false, cond_both, cases_Bool, ltb-true, eqb-true, and_from, and_parts, and_right}
use Rattle.rulesets.specs.Rules.{Rules}
use Rattle.domineering.specs.Domineering.{domineering as domineering_rules, sized}
use Rattle.domineering.specs.Size.{cells_high}
use Rattle.lines.specs.Syntax.{Items, Square, domineering, items_of}
use Rattle.boards.specs.declared.setup.rows.Begun.{Begun}
use Rattle.boards.specs.declared.setup.rows.Rows.{Rows}
use Rattle.boards.specs.Boards.{all, even, squares_of, squares_code, rows_fit, rows_position, meaning}
use Rattle.boards.specs.Stepping.{run}
use Rattle.boards.specs.RowsRead.{no_rows, as_long, closed, row_step, last_closed, rows_read}
use Rattle.boards.proofs.Same.{at_code, same_position}
use Rattle.boards.proofs.RowByRow.{long, even_count, Ended, Outcome, rows_outcome}

-- rows that have ended have squares
abbrev Long : Option Rows → Type 0
Long None = Unit {0}
Long (Some t) = 0 < t.columns

closed_long : (s : Begun) → Long (closed s)
closed_long s =
    cond_both (ltb s.start s.squares && as_long s.columns (s.squares - s.start)) (Some (s.squares - s.start)) None
    (λ o. Long (option_map (λ (n : ℕ). record { columns = n; squares = s.squares; code = s.code }) o))
    (λ h. let l = ltb-true s.start s.squares (and_parts (ltb s.start s.squares) (as_long s.columns (s.squares - s.start)) h).0 in omega arith)
    (λ h. tt)

last_long : (o : Option Begun) → Long (last_closed o)
last_long None = tt
last_long (Some s) = closed_long s

pub rows_long : (text : List ℕ) (t : Rows) → Some t ≡ rows_read text → 0 < t.columns
rows_long text t e = subst Long (sym e) (last_long (run row_step (Some no_rows) text))

module _ (text : List ℕ) (rows : Items (Items Square)) (e : text ≡ items_of (domineering rows)) where
  outcome : (o : Option Rows) → o ≡ rows_read text → Outcome no_rows (all rows) o
  outcome o r = subst (Outcome no_rows (all rows)) (sym (r ∙ ap rows_read e)) (rows_outcome rows)

  -- uneven rows or too many squares
  pub rows_refused : None ≡ rows_read text → meaning (domineering rows) ≡ None
  rows_refused r = ⊎_elim
      (λ h.
      let p = and_parts (even (long rows.first) (all rows)) (sized (length (all rows)) (long rows.first)) h in
      let k = outcome None r (long rows.first) tt p.0 in
      let n = even_count (long rows.first) (all rows) p.0 in
      let m = cells_high (length (all rows)) (long rows.first) p.1 in
      absurd (omega arith))
      (λ h. cond-false (rows_fit rows) (Some (rows_position rows)) None h)
      (cases_Bool (rows_fit rows))

  -- even rows
  module _ (t : Rows) (r : Some t ≡ rows_read text) where
    were : Ended no_rows (all rows) t
    were = outcome (Some t) r

    columns_are : long rows.first ≡ t.columns
    columns_are = eqb-true _ _ (and_parts (eqb (long rows.first) t.columns) (even t.columns rows.more) were.are_even).0

    rows_are : t.squares / t.columns ≡ length (all rows)
    rows_are =
        let n = even_count t.columns (all rows) were.are_even in
        let k = were.count in
        let q : t.squares ≡ length (all rows) * t.columns + 0 = omega arith in
        ap (λ m. m / t.columns) q ∙ div-mul-add (length (all rows)) t.columns 0 (rows_long text t r)

    code_is : t.code ≡ squares_code (squares_of (all rows))
    code_is = were.coded ∙ (let z : 0 + 1 * squares_code (squares_of (all rows)) ≡ squares_code (squares_of (all rows)) = omega arith in z)

    size_is : sized (t.squares / t.columns) t.columns ≡ sized (length (all rows)) (long rows.first)
    size_is = ap₂ sized rows_are (sym columns_are)

    pub board_set : (R : Rules) → sized (t.squares / t.columns) t.columns ≡ true → R ≡ domineering_rules (t.squares / t.columns) t.columns → meaning (domineering rows) ≡ at_code R t.code
    board_set R s p =
        cond-true (rows_fit rows) (Some (rows_position rows)) None
        (and_from (even (long rows.first) (all rows)) _ (ap (λ c. even c (all rows)) columns_are ∙ were.are_even) (sym size_is ∙ s))
        ∙ same_position (sym (p ∙ ap₂ domineering_rules rows_are (sym columns_are))) (sym code_is)

    pub board_refused : sized (t.squares / t.columns) t.columns ≡ false → meaning (domineering rows) ≡ None
    board_refused s = cond-false (rows_fit rows) (Some (rows_position rows)) None (and_right (even (long rows.first) (all rows)) _ (sym size_is ∙ s))
