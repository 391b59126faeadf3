-- Bytes that are read as rows spell them.
-- Assumes nothing.
use Rattle.std.proofs.Common.{◌≡◌, ℕ, ◌+◌, ◌-◌, ◌*◌, ◌^◌, ◌<◌, true, cond, ◌&&◌, eqb, ltb, List, [], ◌∷◌, ◌++◌, length, Some, None, Option, sym, refl, ap, ◌∙◌, ap₂, arith}
use lib.Bits.{bit_or}
use Rattle.std.specs.Option.{option_map}
use Rattle.std.proofs.lemmas.List.{append_assoc}
use Rattle.std.proofs.lemmas.Bool.{cond_both, ltb-true, eqb-true, and_parts}
use Rattle.lines.specs.Syntax.{Items, Square, vacant, filled, domineering, spell_square, items_of}
use Rattle.boards.specs.declared.setup.rows.Begun.{Begun}
use Rattle.boards.specs.declared.setup.rows.Rows.{Rows}
use Rattle.boards.specs.Boards.{square_bit}
use Rattle.boards.specs.Stepping.{run}
use Rattle.boards.specs.RowsRead.{no_rows, put, as_long, ended, closed, row_step, last_closed, rows_read}
use Rattle.boards.proofs.Running.{run_none}
use Rattle.boards.proofs.Squares.{spelt}
use Rattle.boards.proofs.RowByRow.{rest_of}

-- the bytes spell what the row still has, and the rows after it; the whole row has squares
record Spelt (s : Begun) (t : List ℕ) : Type 0 where
  row : List Square
  rows : List (Items Square)
  squared : s.start < s.squares + length row
  spells : t ≡ spelt row ++ rest_of rows

-- a row that ends has squares
has_length : (s : Begun) → (ltb s.start s.squares && as_long s.columns (s.squares - s.start)) ≡ true → s.start < s.squares
has_length s h = ltb-true s.start s.squares (and_parts (ltb s.start s.squares) (as_long s.columns (s.squares - s.start)) h).0

at_end : (s : Begun) (r : Rows) → closed s ≡ Some r → s.start < s.squares
at_end s r =
    cond_both (ltb s.start s.squares && as_long s.columns (s.squares - s.start)) (Some (s.squares - s.start)) None
    (λ o. option_map (λ (n : ℕ). record { columns = n; squares = s.squares; code = s.code }) o ≡ Some r → s.start < s.squares)
    (λ h g. has_length s h)
    (λ h g. let z : ◌≡◌ {A = ℕ} 0 1 = cc in absurd (omega arith))

-- a byte in front of bytes that, from any state, spell what they are read as
module _ (s : Begun) (b : ℕ) (t : List ℕ) (r : Rows) (goes_on : (s : Begun) → last_closed (run row_step (Some s) t) ≡ Some r → Spelt s t) where
  abbrev Reads : Option Begun → Type 0
  Reads o = last_closed (run row_step o t) ≡ Some r → Spelt s (b ∷ t)

  stops : Reads None
  stops g =
      let n : None ≡ Some r = sym (ap last_closed (run_none row_step t)) ∙ g in
      let z : ◌≡◌ {A = ℕ} 0 1 = cc in
      absurd (omega arith)

  one_square : (q : Square) → b ∷ [] ≡ spell_square q → Reads (put s (square_bit q))
  one_square q e =
      cond_both (ltb s.squares 30) (Some (record { columns = s.columns; start = s.start; squares = s.squares + 1; code = bit_or s.code (square_bit q * 2 ^ s.squares) })) None Reads
      (λ h g.
      let w = goes_on _ g in
      let k = w.squared in
      record {
        row = q ∷ w.row;
        rows = w.rows;
        squared = omega arith;
        spells = ap₂ ◌++◌ e w.spells ∙ sym (append_assoc (spell_square q) (spelt w.row) (rest_of w.rows));
      })
      (λ h. stops)

  another_row : s.start < s.squares → b ≡ 47 → (row : List Square) (rows : List (Items Square)) → s.squares < s.squares + length row → t ≡ spelt row ++ rest_of rows → Spelt s (b ∷ t)
  another_row l e [] rows h k = absurd (omega arith)
  another_row l e (q ∷ row) rows h k = record { row = []; rows = record { first = q; more = row } ∷ rows; squared = omega arith; spells = ap₂ ◌∷◌ e k }

  row_ends : b ≡ 47 → Reads (ended s)
  row_ends e =
      cond_both (ltb s.start s.squares && as_long s.columns (s.squares - s.start)) (Some (s.squares - s.start)) None
      (λ o. Reads (option_map (λ (n : ℕ). record { columns = Some n; start = s.squares; squares = s.squares; code = s.code }) o))
      (λ h g. let w = goes_on _ g in another_row (has_length s h) e w.row w.rows w.squared w.spells)
      (λ h. stops)

  one_byte : Reads (row_step s b)
  one_byte =
      cond_both (eqb b 46) (put s 0) (cond (eqb b 35) (put s 1) (cond (eqb b 47) (ended s) None)) Reads
      (λ h. one_square vacant (ap (λ c. c ∷ []) (eqb-true b 46 h)))
      (λ _. cond_both (eqb b 35) (put s 1) (cond (eqb b 47) (ended s) None) Reads
      (λ h. one_square filled (ap (λ c. c ∷ []) (eqb-true b 35 h)))
      (λ _. cond_both (eqb b 47) (ended s) None Reads
      (λ h. row_ends (eqb-true b 47 h))
      (λ _. stops)))

spelt_on : (t : List ℕ) (r : Rows) (s : Begun) → last_closed (run row_step (Some s) t) ≡ Some r → Spelt s t
spelt_on [] r s g = record { row = []; rows = []; squared = (let l = at_end s r g in omega arith); spells = refl }
spelt_on (b ∷ t) r s g = one_byte s b t r (spelt_on t r) g

-- all the rows
pub rows_spelt : (t : List ℕ) (r : Rows) → rows_read t ≡ Some r → (rows : Items (Items Square)) × (t ≡ items_of (domineering rows))
rows_spelt t r g =
    let w = spelt_on t r no_rows g in
    first_row w.row w.rows w.squared w.spells
  where
    first_row : (row : List Square) (rows : List (Items Square)) → 0 < 0 + length row → t ≡ spelt row ++ rest_of rows → (rows : Items (Items Square)) × (t ≡ items_of (domineering rows))
    first_row [] rows l e = absurd (omega arith)
    first_row (q ∷ row) rows l e = (record { first = record { first = q; more = row }; more = rows }, e)
