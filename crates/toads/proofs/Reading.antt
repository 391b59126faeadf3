-- The text of a strip: its first wrong character, and its code.
-- Assumes nothing.
use Rattle.std.proofs.Common.{◌≡◌, ℕ, zero, suc, ◌+◌, ◌*◌, ◌/◌, ◌%◌, ◌^◌, ◌<◌, ◌≤◌, cond, ltb, List, [], ◌∷◌, ◌++◌, map, length, is_some, get_or, take, position, Some, None, Ok, Option, sym, refl, ap, ◌∙◌, ap₂, inl, inr, pow-suc, arith}
use native.Mathlib.Nat.{pow-le-pow_right}
use Rattle.std.specs.List.{range_with_len}
use Rattle.std.specs.Option.{option_map, ok_or}
use Rattle.std.specs.Result.{IsOk}
use Rattle.std.proofs.lemmas.List.{take_more, length-take}
use Rattle.std.proofs.lemmas.Bool.{cases_lt, and_from, lt-ltb, le-ltb}
use Rattle.bits.specs.Digits.{digit}
use Rattle.bits.proofs.Digits.{digit_first, digit_next}
use Rattle.toads.specs.declared.cell.NoCell.{NoCell}
use Rattle.toads.specs.Cells.{Cell, Empty, Toad, Frog, cell_of, char_read, digit_of}
use Rattle.toads.specs.Strips.{no_cell, first_wrong, digit_or_none, char_digit, code_of}
use Rattle.toads.specs.Laws.{CodeReads}
use Rattle.toads.specs.Moves.{every_from}
use Rattle.toads.specs.LawsLemmas.{digit_up}

-- a place in a list that has one item more in front
place_later : (p n : ℕ) → cond (ltb (1 + p) (suc n)) (Some (1 + p)) None ≡ option_map suc (cond (ltb p n) (Some p) None)
place_later p n = elim (cases_lt p n) [
  | inl h ↦ rw (lt-ltb (1 + p) (suc n) (omega arith), lt-ltb p n h) (ap Some (omega arith))
  | inr h ↦ rw (le-ltb (1 + p) (suc n) (omega arith), le-ltb p n h)
]

-- the first character that stands for no cell is found by its place
pub first_wrong_is : (cs : List ℕ) → position no_cell cs ≡ first_wrong cs
first_wrong_is [] = refl
first_wrong_is (c ∷ cs) = go (cell_of c) refl (first_wrong_is cs)
  where
    go : (o : Option Cell) → cell_of c ≡ o → position no_cell cs ≡ first_wrong cs → position no_cell (c ∷ cs) ≡ first_wrong (c ∷ cs)
    go None e rest = rw (e, lt-ltb 0 (suc (length cs)) (omega arith))
    go (Some x) e rest = rw e (place_later _ (length cs) ∙ ap (option_map suc) rest)

-- no character of a text is wrong: not the first, and none of the rest
first : (o : Option Cell) (rest : Option ℕ) → cond (is_some o) (option_map suc rest) (Some 0) ≡ None → IsOk (ok_or {E = NoCell} o (record {})) × (rest ≡ None)
first None rest none = cc
first (Some x) None none = (refl, refl)
first (Some x) (Some i) none = cc

-- each character of a text with no wrong one is read as a cell
pub cell_there : (cs : List ℕ) (i : ℕ) → i < length cs → first_wrong cs ≡ None → IsOk (char_read (get_or cs i 0))
cell_there [] i h none = absurd (omega arith)
cell_there (c ∷ cs) zero h none = (first (cell_of c) (first_wrong cs) none).0
cell_there (c ∷ cs) (suc i) h none = cell_there cs i (omega arith) (first (cell_of c) (first_wrong cs) none).1

-- and a character that is read as a cell has its digit
pub digit_is : (c : ℕ) (x : Cell) → char_read c ≡ Ok x → char_digit c ≡ digit_of x
digit_is c x = of (cell_of c)
  where
    of : (o : Option Cell) → ok_or {E = NoCell} o (record {}) ≡ Ok x → digit_or_none o ≡ digit_of x
    of None e = cc
    of (Some y) e = cc

-- a character's digit is below 3
digit_below : (o : Option Cell) → digit_or_none o < 3
digit_below None = omega arith
digit_below (Some Empty) = omega arith
digit_below (Some Toad) = omega arith
digit_below (Some Frog) = omega arith

-- the code with one more character
pub code_push : (cs : List ℕ) (c : ℕ) → code_of (cs ++ c ∷ []) ≡ code_of cs + char_digit c * 4 ^ length cs
code_push [] c = let k = digit_below (cell_of c) in omega arith
code_push (x ∷ cs) c =
    let k = code_push cs c in
    let e : char_digit c * 4 ^ suc (length cs) ≡ char_digit c * 4 ^ length cs * 4 = ap (λ p. char_digit c * p) (pow-suc 4 (length cs)) ∙ grouped (char_digit c) (4 ^ length cs) in
    omega arith
  where
    grouped : (a b : ℕ) → a * (b * 4) ≡ a * b * 4
    grouped a b = grind arith

pub code_below : (cs : List ℕ) → code_of cs < 4 ^ length cs
code_below [] = omega arith
code_below (c ∷ cs) = let k = code_below cs in let d = digit_below (cell_of c) in omega (arith, pow-suc 4 (length cs))

-- the loop's step
pub code_more : (cs : List ℕ) (i : ℕ) → i < length cs → code_of (take (i + 1) cs) ≡ code_of (take i cs) + char_digit (get_or cs i 0) * 4 ^ i
code_more cs i h =
    let n : length (take i cs) ≡ i = length-take i cs ∙ omega arith in
    ap code_of (take_more cs i 0 h) ∙ code_push (take i cs) (get_or cs i 0) ∙ ap (λ k. code_of (take i cs) + char_digit (get_or cs i 0) * 4 ^ k) n

-- digit i of the code is that of character i
digit_there : (cs : List ℕ) (i : ℕ) → i < length cs → digit (code_of cs) i ≡ char_digit (get_or cs i 0)
digit_there [] i h = absurd (omega arith)
digit_there (c ∷ cs) zero h = digit_first (code_of (c ∷ cs)) ∙ (let d = digit_below (cell_of c) in omega arith)
digit_there (c ∷ cs) (suc i) h =
    let rest : (char_digit c + 4 * code_of cs) / 4 ≡ code_of cs = (let d = digit_below (cell_of c) in omega arith) in
    digit_next (code_of (c ∷ cs)) i ∙ ap (λ x. digit x i) rest ∙ digit_there cs i (omega arith)

cells_there : (cs : List ℕ) (code a : ℕ) → ((i : ℕ) → i < length cs → digit code (a + i) ≡ char_digit (get_or cs i 0)) → map (digit code) (range_with_len a (length cs)) ≡ map char_digit cs
cells_there [] code a f = refl
cells_there (c ∷ cs) code a f =
    let first : digit code a ≡ char_digit c = ap (digit code) (omega' a) ∙ f 0 (omega arith) in
    ap₂ ◌∷◌ first (cells_there cs code (a + 1) (λ i h. ap (digit code) (shift a i) ∙ f (suc i) (omega arith)))
  where
    omega' : (a : ℕ) → a ≡ a + 0
    omega' a = omega arith

    shift : (a i : ℕ) → a + 1 + i ≡ a + suc i
    shift a i = omega arith

pub code_reads : (cs : List ℕ) → CodeReads cs
code_reads cs _ = (
  and_from (ltb (code_of cs) (4 ^ length cs)) _ (lt-ltb _ _ (code_below cs))
      (every_from (λ d. ltb d 3) (code_of cs) 0 (length cs) (λ i l h. lt-ltb _ 3 (rw (digit_there cs i (omega arith)) (digit_below (cell_of (get_or cs i 0)))))),
  cells_there cs (code_of cs) 0 (λ i h. ap (digit (code_of cs)) (zero_plus i) ∙ digit_there cs i h),
)
  where
    zero_plus : (i : ℕ) → 0 + i ≡ i
    zero_plus i = omega arith

-- the loop's step in a word of 64 bits
module _ (cs : List ℕ) (i : ℕ) (h : i < length cs) (few : length cs ≤ 12) where
  pub word_more : code_of (take i cs) + char_digit (get_or cs i 0) * 2 ^ (2 * i) % 18446744073709551616 ≡ code_of (take (i + 1) cs)
  word_more = ap (λ x. code_of (take i cs) + x) (digit_up (char_digit (get_or cs i 0)) i (digit_below (cell_of (get_or cs i 0))) (omega arith)) ∙ sym (code_more cs i h)

  pub word_small : code_of (take i cs) + char_digit (get_or cs i 0) * 2 ^ (2 * i) % 18446744073709551616 < 2 ^ 24
  word_small =
      let n : length (take (i + 1) cs) ≤ 12 = rw (length-take (i + 1) cs) (omega arith) in
      let k = code_below (take (i + 1) cs) in
      let most = pow-le-pow_right {n = 4} (omega arith) {i = length (take (i + 1) cs)} {j = 12} n in
      let e = word_more in
      omega arith
