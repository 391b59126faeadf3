-- Written rows, read row by row: what is left when the last has ended, or that they do not fit a board.
-- Assumes nothing.
use Rattle.std.proofs.Common.{◌≡◌, ℕ, ◌+◌, ◌-◌, ◌*◌, ◌^◌, ◌<◌, ◌≤◌, true, false, ◌&&◌, eqb, ltb, ◌⊎◌, List, [], ◌∷◌, ◌++◌, length, Some, None, Option, sym, refl, ap, ◌∙◌, subst, inl, ⊎_elim, suc-mul, arith}
use Rattle.std.specs.Option.{option_map}
use Rattle.std.proofs.lemmas.Nat.{pow-add, mul-add-lt}
use Rattle.std.proofs.lemmas.List.{length-append}
use Rattle.std.proofs.lemmas.Bool.{cond-true, cond-false, lt-ltb, eq-eqb, eqb-true, ne_eqb, and_from, and_parts, and_right, cases_lt, cases_eq}
use Rattle.lines.specs.Syntax.{Items, Square, domineering, spell_row, spell_more, items_of}
use Rattle.boards.specs.declared.setup.rows.Begun.{Begun}
use Rattle.boards.specs.declared.setup.rows.Rows.{Rows}
use Rattle.boards.specs.Boards.{all, even, squares_of, squares_code}
use Rattle.boards.specs.Stepping.{run}
use Rattle.boards.specs.RowsRead.{no_rows, as_long, row_length, ended, closed, row_step, last_closed, rows_read}
use Rattle.boards.proofs.Running.{run_none, run_append}
use Rattle.boards.proofs.Squares.{spelt, code_below, code_append, after, put_all, put_too_many}

-- how many squares a row has
abbrev pub long : Items Square → ℕ
long row = length (all row)

pub even_count : (c : ℕ) (rows : List (Items Square)) → even c rows ≡ true → length (squares_of rows) ≡ length rows * c
even_count c [] e = (let z : 0 ≡ 0 * c = omega arith in z)
even_count c (row ∷ rows) e =
    let p = and_parts (eqb (long row) c) (even c rows) e in
    let n = eqb-true (long row) c p.0 in
    let k = even_count c rows p.1 in
    let m = suc-mul (length rows) c in
    length-append (all row) (squares_of rows) ∙ omega arith

-- a row is about to begin
record Ready (s : Begun) : Type 0 where
  begun : s.start ≡ s.squares
  few : s.squares ≤ 30
  small : s.code < 2 ^ s.squares

-- a row of c squares can follow
abbrev pub Suits : Option ℕ → ℕ → Type 0
Suits None c = Unit {0}
Suits (Some k) c = k ≡ c

suited : (o : Option ℕ) (c : ℕ) → Suits o c → as_long o c ≡ true
suited None c u = refl
suited (Some k) c e = eq-eqb c k (sym e)

unsuited : (o : Option ℕ) (c : ℕ) → (Suits o c → ⊥) → as_long o c ≡ false
unsuited None c no_fit = absurd (no_fit tt)
unsuited (Some k) c no_fit = ne_eqb c k (λ e. no_fit (sym e))

suits_or_not : (o : Option ℕ) (c : ℕ) → Suits o c ⊎ (Suits o c → ⊥)
suits_or_not None c = inl tt
suits_or_not (Some k) c = cases_eq k c

-- the state when the row has ended, and what is read when it is the last
abbrev next : Begun → Items Square → Begun
next s row = record { columns = Some (long row); start = s.squares + long row; squares = s.squares + long row; code = s.code + 2 ^ s.squares * squares_code (all row) }

abbrev last : Begun → Items Square → Rows
last s row = record { columns = long row; squares = s.squares + long row; code = s.code + 2 ^ s.squares * squares_code (all row) }

module _ (s : Begun) (ready : Ready s) (row : Items Square) where
  abbrev finished : Begun
  finished = after s (all row)

  along : finished.squares - finished.start ≡ long row
  along = let b = ready.begun in omega arith

  row_fits : Suits s.columns (long row) → row_length finished ≡ Some (long row)
  row_fits u =
      cond-true (ltb finished.start finished.squares && as_long s.columns (finished.squares - finished.start)) (Some (finished.squares - finished.start)) None
      (and_from (ltb finished.start finished.squares) _ (lt-ltb _ _ (let b = ready.begun in omega arith)) (ap (as_long s.columns) along ∙ suited s.columns (long row) u))
      ∙ ap Some along

  row_uneven : (Suits s.columns (long row) → ⊥) → row_length finished ≡ None
  row_uneven no_fit =
      cond-false (ltb finished.start finished.squares && as_long s.columns (finished.squares - finished.start)) (Some (finished.squares - finished.start)) None
      (and_right (ltb finished.start finished.squares) _ (ap (as_long s.columns) along ∙ unsuited s.columns (long row) no_fit))

  row_ends : Suits s.columns (long row) → ended finished ≡ Some (next s row)
  row_ends u = ap (option_map (λ (n : ℕ). record { columns = Some n; start = finished.squares; squares = finished.squares; code = finished.code })) (row_fits u)

  row_closes : Suits s.columns (long row) → closed finished ≡ Some (last s row)
  row_closes u = ap (option_map (λ (n : ℕ). record { columns = n; squares = finished.squares; code = finished.code })) (row_fits u)

  not_ended : (Suits s.columns (long row) → ⊥) → ended finished ≡ None
  not_ended no_fit = ap (option_map (λ (n : ℕ). record { columns = Some n; start = finished.squares; squares = finished.squares; code = finished.code })) (row_uneven no_fit)

  not_closed : (Suits s.columns (long row) → ⊥) → closed finished ≡ None
  not_closed no_fit = ap (option_map (λ (n : ℕ). record { columns = n; squares = finished.squares; code = finished.code })) (row_uneven no_fit)

  next_ready : s.squares + long row ≤ 30 → Ready (next s row)
  next_ready h = record {
    begun = refl;
    few = h;
    small = less s.code (2 ^ s.squares) (squares_code (all row)) (2 ^ long row) ready.small (code_below (all row)) (pow-add 2 s.squares (long row));
  }
    where
      less : (c p n q : ℕ) → c < p → n < q → {m : ℕ} → m ≡ p * q → c + p * n < m
      less c p n q h l e = let k = mul-add-lt n p c q l h in omega arith

-- what reading rows from a state leads to
pub record Ended (s : Begun) (rows : List (Items Square)) (t : Rows) : Type 0 where
  pub suits : Suits s.columns t.columns
  pub are_even : even t.columns rows ≡ true
  pub count : t.squares ≡ s.squares + length (squares_of rows)
  pub coded : t.code ≡ s.code + 2 ^ s.squares * squares_code (squares_of rows)

-- where nothing is left, rows of one length would have too many squares
abbrev pub Outcome : Begun → List (Items Square) → Option Rows → Type 0
Outcome s rows None = (c : ℕ) → Suits s.columns c → even c rows ≡ true → 30 < s.squares + length (squares_of rows)
Outcome s rows (Some t) = Ended s rows t

-- one row in front
outcome_more : (s : Begun) (row : Items Square) (rows : List (Items Square)) (o : Option Rows) → Suits s.columns (long row) → Outcome (next s row) rows o → Outcome s (row ∷ rows) o
outcome_more s row rows None u h = λ c v e.
    let p = and_parts (eqb (long row) c) (even c rows) e in
    let n = eqb-true (long row) c p.0 in
    let k = h c n p.1 in
    let m = length-append (all row) (squares_of rows) in
    omega arith
outcome_more s row rows (Some t) u h =
    let same = h.suits in
    let m = length-append (all row) (squares_of rows) in
    let k = h.count in
    record {
      suits = subst (Suits s.columns) same u;
      are_even = and_from (eqb (long row) t.columns) _ (eq-eqb _ _ same) h.are_even;
      count = omega arith;
      coded =
          h.coded
          ∙ ap (λ p. s.code + 2 ^ s.squares * squares_code (all row) + p * squares_code (squares_of rows)) (pow-add 2 s.squares (long row))
          ∙ grouped s.code (2 ^ s.squares) (squares_code (all row)) (2 ^ long row) (squares_code (squares_of rows))
          ∙ ap (λ n. s.code + 2 ^ s.squares * n) (sym (code_append (all row) (squares_of rows)));
    }
  where
    grouped : (c p x q y : ℕ) → c + p * x + p * q * y ≡ c + p * (x + q * y)
    grouped c p x q y = grind arith

-- no row at all, after the last
outcome_none : (s : Begun) (row : Items Square) → Outcome (next s row) [] (Some (last s row))
outcome_none s row = record { suits = refl; are_even = refl; count = omega arith; coded = omega arith }

-- a row that is too long, or of another length than the row before it
module _ (s : Begun) (row : Items Square) (rows : List (Items Square)) where
  too_long : 30 < s.squares + long row → Outcome s (row ∷ rows) None
  too_long h c v e = let m = length-append (all row) (squares_of rows) in omega arith

  uneven : (Suits s.columns (long row) → ⊥) → Outcome s (row ∷ rows) None
  uneven no_fit c v e =
      let n = eqb-true (long row) c (and_parts (eqb (long row) c) (even c rows) e).0 in
      absurd (no_fit (subst (Suits s.columns) (sym n) v))

-- the bytes after the first row
abbrev pub rest_of : List (Items Square) → List ℕ
rest_of rows = spell_more (47 ∷ []) spell_row rows

module _ (s : Begun) (ready : Ready s) (row : Items Square) (rows : List (Items Square)) (rest : List ℕ) where
  abbrev left_by : Option Begun → Option Rows
  left_by q = last_closed (run row_step q rest)

  -- the first row fits, and is followed by what the rest says, or it does not fit
  first_row : (s.squares + long row ≤ 30 → Outcome s (row ∷ rows) (left_by (Some (after s (all row))))) → Outcome s (row ∷ rows) (last_closed (run row_step (Some s) (spelt (all row) ++ rest)))
  first_row goes_on = ⊎_elim
      (λ h.
      let e : run row_step (Some s) (spelt (all row) ++ rest) ≡ None =
      run_append row_step (Some s) (spelt (all row)) rest ∙ ap (λ q. run row_step q rest) (put_too_many s (all row) ready.few h ready.small) ∙ run_none row_step rest in
      subst (λ q. Outcome s (row ∷ rows) (last_closed q)) (sym e) (too_long s row rows h))
      (λ h.
      let e : run row_step (Some s) (spelt (all row) ++ rest) ≡ run row_step (Some (after s (all row))) rest =
      run_append row_step (Some s) (spelt (all row)) rest ∙ ap (λ q. run row_step q rest) (put_all s (all row) h ready.small) in
      subst (λ q. Outcome s (row ∷ rows) (last_closed q)) (sym e) (goes_on h))
      (cases_lt 30 (s.squares + long row))

-- written rows from a state in which a row is about to begin
rows_run : (s : Begun) → Ready s → (row : Items Square) (rows : List (Items Square)) → Outcome s (row ∷ rows) (last_closed (run row_step (Some s) (spelt (all row) ++ rest_of rows)))
rows_run s ready row [] = first_row s ready row [] [] (λ h. ⊎_elim
    (λ u. subst (λ q. Outcome s (row ∷ []) q) (sym (row_closes s ready row u)) (outcome_more s row [] (Some (last s row)) u (outcome_none s row)))
    (λ no_fit. subst (λ q. Outcome s (row ∷ []) q) (sym (not_closed s ready row no_fit)) (uneven s row [] no_fit))
    (suits_or_not s.columns (long row)))
rows_run s ready row (second ∷ rows) = first_row s ready row (second ∷ rows) (rest_of (second ∷ rows)) (λ h. ⊎_elim
    (λ u.
    let e : run row_step (Some (after s (all row))) (rest_of (second ∷ rows)) ≡ run row_step (Some (next s row)) (spelt (all second) ++ rest_of rows) =
    ap (λ q. run row_step q (spelt (all second) ++ rest_of rows)) (row_ends s ready row u) in
    subst (λ q. Outcome s (row ∷ second ∷ rows) (last_closed q)) (sym e) (outcome_more s row (second ∷ rows) _ u (rows_run (next s row) (next_ready s ready row h) second rows)))
    (λ no_fit.
    let e : run row_step (Some (after s (all row))) (rest_of (second ∷ rows)) ≡ None =
    ap (λ q. run row_step q (spelt (all second) ++ rest_of rows)) (not_ended s ready row no_fit) ∙ run_none row_step (spelt (all second) ++ rest_of rows) in
    subst (λ q. Outcome s (row ∷ second ∷ rows) (last_closed q)) (sym e) (uneven s row (second ∷ rows) no_fit))
    (suits_or_not s.columns (long row)))

-- all the rows of a board
pub rows_outcome : (rows : Items (Items Square)) → Outcome no_rows (all rows) (rows_read (items_of (domineering rows)))
rows_outcome rows = rows_run no_rows (record { begun = refl; few = omega arith; small = omega arith }) rows.first rows.more
