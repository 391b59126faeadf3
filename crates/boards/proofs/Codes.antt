-- What the bits and digits of a code say of a written board.
-- Assumes nothing.
use Rattle.std.proofs.Common.{◌≡◌, ℕ, zero, suc, ◌+◌, ◌*◌, ◌/◌, ◌%◌, ◌<◌, eqb, List, [], ◌∷◌, ◌++◌, length, Some, refl, ap, ◌∙◌, suc-mul, zero-mul, arith}
use Rattle.std.specs.List.{slice_get}
use Rattle.std.proofs.lemmas.Bool.{and_parts, eqb-true}
use Rattle.bits.specs.Bits.{bit}
use Rattle.bits.specs.Digits.{digit}
use Rattle.bits.proofs.Words.{bit_first, bit_next, bit_none, bit_mask}
use Rattle.bits.proofs.Digits.{digit_first, digit_next, digit_past}
use Rattle.toads.specs.Cells.{digit_of}
use Rattle.lines.specs.Syntax.{Square, vacant, filled, Cell, toad, frog, blank}
use Rattle.boards.specs.Boards.{all, even, squares_of, square_bit, squares_code, held, cells_code}
use Rattle.boards.specs.Laws.{is_filled, SquaresRead, RowsRead, CellsRead, EdgesStand}

half : (s : Square) (n : ℕ) → (square_bit s + 2 * n) / 2 ≡ n
half vacant n = omega arith
half filled n = omega arith

lowest : (s : Square) (n : ℕ) → eqb ((square_bit s + 2 * n) % 2) 1 ≡ is_filled (Some s)
lowest vacant n = ap (λ d. eqb d 1) (let e : (0 + 2 * n) % 2 ≡ 0 = omega arith in e)
lowest filled n = ap (λ d. eqb d 1) (let e : (1 + 2 * n) % 2 ≡ 1 = omega arith in e)

pub squares_read : SquaresRead
squares_read [] i = bit_none i
squares_read (s ∷ ss) zero = bit_first (squares_code (s ∷ ss)) ∙ lowest s (squares_code ss)
squares_read (s ∷ ss) (suc i) = bit_next (squares_code (s ∷ ss)) i ∙ ap (λ n. bit n i) (half s (squares_code ss)) ∙ squares_read ss i

-- an item in the first of two lists, and one in the second
nth_before : {X : Type 0} (xs ys : List X) (i : ℕ) → i < length xs → slice_get (xs ++ ys) i ≡ slice_get xs i
nth_before [] ys i h = absurd (omega arith)
nth_before (x ∷ xs) ys zero h = refl
nth_before (x ∷ xs) ys (suc i) h = nth_before xs ys i (omega arith)

nth_after : {X : Type 0} (xs ys : List X) (i : ℕ) → slice_get (xs ++ ys) (length xs + i) ≡ slice_get ys i
nth_after [] ys i = ap (slice_get ys) (nothing i)
  where
    nothing : (i : ℕ) → 0 + i ≡ i
    nothing i = omega arith
nth_after (x ∷ xs) ys i = ap (slice_get (x ∷ (xs ++ ys))) (one_more (length xs) i) ∙ nth_after xs ys i
  where
    one_more : (m i : ℕ) → suc m + i ≡ suc (m + i)
    one_more m i = omega arith

pub rows_read : RowsRead
rows_read c [] e x y h = refl
rows_read c (row ∷ rows) e x zero h =
    let n : length (all row) ≡ c = eqb-true _ _ (and_parts (eqb (length (all row)) c) (even c rows) e).0 in
    let at : zero * c + x ≡ x = ap (λ k. k + x) (zero-mul c) ∙ (let z : 0 + x ≡ x = omega arith in z) in
    ap (slice_get (squares_of (row ∷ rows))) at ∙ nth_before (all row) (squares_of rows) x (omega arith)
rows_read c (row ∷ rows) e x (suc y) h =
    let n : length (all row) ≡ c = eqb-true _ _ (and_parts (eqb (length (all row)) c) (even c rows) e).0 in
    let at : suc y * c + x ≡ length (all row) + (y * c + x) = (let k = suc-mul y c in omega arith) in
    ap (slice_get (squares_of (row ∷ rows))) at ∙ nth_after (all row) (squares_of rows) (y * c + x) ∙ rows_read c rows (and_parts (eqb (length (all row)) c) (even c rows) e).1 x y h

quarter : (c : Cell) (n : ℕ) → (digit_of (held c) + 4 * n) / 4 ≡ n
quarter toad n = omega arith
quarter frog n = omega arith
quarter blank n = omega arith

lowest_digit : (c : Cell) (n : ℕ) → (digit_of (held c) + 4 * n) % 4 ≡ digit_of (held c)
lowest_digit toad n = omega arith
lowest_digit frog n = omega arith
lowest_digit blank n = omega arith

pub cells_read : CellsRead
cells_read [] i = digit_past 0 0 i (omega arith) (omega arith)
cells_read (c ∷ cs) zero = digit_first (cells_code (c ∷ cs)) ∙ lowest_digit c (cells_code cs)
cells_read (c ∷ cs) (suc i) = digit_next (cells_code (c ∷ cs)) i ∙ ap (λ n. digit n i) (quarter c (cells_code cs)) ∙ cells_read cs i

pub edges_stand : EdgesStand
edges_stand n i = bit_mask n i
