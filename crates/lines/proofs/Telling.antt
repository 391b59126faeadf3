-- A spelling tells its line.
-- Assumes nothing.
use Rattle.std.proofs.Common.{◌≡◌, ℕ, zero, suc, ◌<◌, ◌⊎◌, cond, eqb, List, [], ◌∷◌, ◌++◌, map, get_or, codes, sym, refl, ap, ◌∙◌, subst, ap₂, inl, inr, append_assoc, arith}
use mathlib.Core.Option.{Option, some}
use Rattle.std.specs.Int.Digits.{digits_of, AllBelowBase}
use Rattle.std.proofs.lemmas.Int.Digits.{all_below_base_digits_of, same_from_digits_of}
use Rattle.std.proofs.lemmas.List.{append_cancel_left}
use Rattle.games.specs.Text.{bytes}
use Rattle.games.specs.declared.side.Side.{Side}
use Rattle.games.specs.declared.side.Side.TheVariants.{Left, Right}
use Rattle.games.proofs.Text.{bytes_injective}
use Rattle.lines.specs.Syntax.{Square, vacant, filled, Cell, toad, frog, blank, Colour, for_left, for_right, for_both, Board, domineering, toads, hackenbush, Subject, plain, minus, sum, written, value, comparison, first_move}
use Rattle.lines.specs.Syntax.{spell_more, spell_items, numeral, spell_square, spell_row, spell_cell, spell_colour, spell_edge, heading, items_of, spell_board, spell_subject, spell_side}
use Rattle.lines.specs.Faults.{SpellingTells}
use Rattle.lines.specs.Machine.{Symbol, board, subject, text, step, run}
use Rattle.lines.proofs.Machine.{never_some}
use Rattle.lines.proofs.Numerals.{ascii, numeral_zero, numeral_digits, figures}
use Rattle.lines.proofs.Complete.{Emptied, run_board, run_subject, run_text}

-- A spelling tells what it spells, and where it ends, before bytes that may follow it.
abbrev Tells : {A : Type 0} → (List ℕ → Type 0) → (A → List ℕ) → Type 0
Tells {A} May spelt = (x y : A) (r s : List ℕ) → May r → May s → spelt x ++ r ≡ spelt y ++ s → (x ≡ y) × (r ≡ s)

abbrev Any : List ℕ → Type 0
Any r = Unit {0}

-- behind a word
after : {A : Type 0} (spelt : A → List ℕ) → Tells Any spelt → (w : List ℕ) (x y : A) (r s : List ℕ) → w ++ (spelt x ++ r) ≡ w ++ (spelt y ++ s) → (x ≡ y) × (r ≡ s)
after spelt tells w x y r s e = tells x y r s tt tt (append_cancel_left w (spelt x ++ r) (spelt y ++ s) e)

-- what is spelt by one byte, which gives it back
abbrev OneByte : {A : Type 0} → (A → List ℕ) → (ℕ → A) → Type 0
OneByte {A} spelt back = (x : A) → (b : ℕ) × (spelt x ≡ b ∷ []) × (back b ≡ x)

byte_tells : {A : Type 0} (spelt : A → List ℕ) (back : ℕ → A) → OneByte spelt back → Tells Any spelt
byte_tells spelt back each x y r s h k e =
    let (b, p, p') = each x in
    let (c, q, q') = each y in
    let f : b ∷ r ≡ c ∷ s = ap (λ w. w ++ r) (sym p) ∙ (e ∙ ap (λ w. w ++ s) q) in
    let g : b ≡ c = cc in
    let i : r ≡ s = cc in
    (sym p' ∙ (ap back g ∙ q'), i)

-- Lists of parts: `One` may follow a part, `All` the list, and `All` does not begin as one more part does.
module _ {A : Type 0} (separator : List ℕ) (spelt : A → List ℕ) (One All : List ℕ → Type 0)
    (tells : Tells One spelt) (begins : (x : A) (t : List ℕ) → One (separator ++ (spelt x ++ t)))
    (ends : (t : List ℕ) → All t → One t) (apart : (x : A) (t : List ℕ) → ¬ All (separator ++ (spelt x ++ t))) where
  abbrev rest : List A → List ℕ → List ℕ
  rest xs r = spell_more separator spelt xs ++ r

  follows : (xs : List A) (r : List ℕ) → All r → One (rest xs r)
  follows [] r h = ends r h
  follows (x ∷ xs) r h = simp append_assoc (begins x (rest xs r))

  more_tell : Tells All (spell_more separator spelt)
  more_tell [] [] r s h k e = (refl, e)
  more_tell [] (y ∷ ys) r s h k e = absurd (apart y (rest ys s) (subst All (simp append_assoc at e) h))
  more_tell (x ∷ xs) [] r s h k e = absurd (apart x (rest xs r) (subst All (sym (simp append_assoc at e)) k))
  more_tell (x ∷ xs) (y ∷ ys) r s h k e =
      let f : spelt x ++ rest xs r ≡ spelt y ++ rest ys s = append_cancel_left separator (spelt x ++ rest xs r) (spelt y ++ rest ys s) (simp append_assoc at e) in
      let (p, d) = tells x y (rest xs r) (rest ys s) (follows xs r h) (follows ys s k) f in
      let (q, g) = more_tell xs ys r s h k d in
      (ap₂ ◌∷◌ p q, g)

  items_tell : Tells All (spell_items separator spelt)
  items_tell x y r s h k e =
      let (p, d) = tells x.first y.first (rest x.more r) (rest y.more s) (follows x.more r h) (follows y.more s k) (simp append_assoc at e) in
      let (q, g) = more_tell x.more y.more r s h k d in
      (λ i. record { first = p i; more = q i }, g)

abbrev Closing : List ℕ → Type 0
Closing r = get_or r 0 0 ≡ 41

-- squares and cells
abbrev square_of : ℕ → Square
square_of b = cond (eqb b 46) vacant filled

square_tells : Tells Any spell_square
square_tells = byte_tells spell_square square_of each
  where
    each : OneByte spell_square square_of
    each vacant = (46, refl, refl)
    each filled = (35, refl, refl)

abbrev RowEnds : List ℕ → Type 0
RowEnds r = (get_or r 0 0 ≡ 47) ⊎ Closing r

row_tells : Tells RowEnds spell_row
row_tells = items_tell [] spell_square Any RowEnds square_tells (λ x t. tt) (λ t h. tt) apart
  where
    apart : (x : Square) (t : List ℕ) → ¬ RowEnds (spell_square x ++ t)
    apart vacant t h = omega arith
    apart filled t h = omega arith

rows_tell : Tells Closing (spell_items (codes "/") spell_row)
rows_tell = items_tell (codes "/") spell_row RowEnds Closing row_tells (λ x t. inl refl) (λ t h. inr h) (λ x t h. omega arith)

abbrev cell_of : ℕ → Cell
cell_of b = cond (eqb b 84) toad (cond (eqb b 70) frog blank)

cell_tells : Tells Any spell_cell
cell_tells = byte_tells spell_cell cell_of each
  where
    each : OneByte spell_cell cell_of
    each toad = (84, refl, refl)
    each frog = (70, refl, refl)
    each blank = (46, refl, refl)

cells_tell : Tells Closing (spell_items [] spell_cell)
cells_tell = items_tell [] spell_cell Any Closing cell_tells (λ x t. tt) (λ t h. tt) apart
  where
    apart : (x : Cell) (t : List ℕ) → ¬ Closing (spell_cell x ++ t)
    apart toad t h = omega arith
    apart frog t h = omega arith
    apart blank t h = omega arith

-- numerals, before what is no digit
abbrev NoDigit : List ℕ → Type 0
NoDigit r = (get_or r 0 0 < 48) ⊎ (57 < get_or r 0 0)

digits_tell : (ds es r s : List ℕ) → AllBelowBase 10 ds → AllBelowBase 10 es → NoDigit r → NoDigit s → map ascii ds ++ r ≡ map ascii es ++ s → (ds ≡ es) × (r ≡ s)
digits_tell [] [] r s u v h k e = (refl, e)
digits_tell [] (c ∷ es) r s u v h k e = let z : get_or r 0 0 ≡ ascii c = ap (λ t. get_or t 0 0) e in let l : c < 10 = v.0 in absurd (omega arith)
digits_tell (d ∷ ds) [] r s u v h k e = let z : ascii d ≡ get_or s 0 0 = ap (λ t. get_or t 0 0) e in let l : d < 10 = u.0 in absurd (omega arith)
digits_tell (d ∷ ds) (c ∷ es) r s u v h k e =
    let z : ascii d ≡ ascii c = cc in
    let f : d ≡ c = omega arith in
    let (p, q) = digits_tell ds es r s u.1 v.1 h k cc in
    (ap₂ ◌∷◌ f p, q)

zero_apart : (n : ℕ) (r s : List ℕ) → 0 < n → ¬ (numeral 0 ++ r ≡ numeral n ++ s)
zero_apart n r s l e =
    let k = figures n l in
    let f : 48 ∷ r ≡ ascii k.first ∷ (map ascii k.others ++ s) = ap (λ w. w ++ r) (sym numeral_zero) ∙ (e ∙ ap (λ w. w ++ s) k.are) in
    let z : 48 ≡ ascii k.first = ap (λ t. get_or t 0 0) f in
    omega (arith, k.positive)

numeral_tells : Tells NoDigit numeral
numeral_tells zero zero r s h k e = (refl, append_cancel_left (numeral 0) r s e)
numeral_tells zero (suc m) r s h k e = absurd (zero_apart (suc m) r s (omega arith) e)
numeral_tells (suc n) zero r s h k e = absurd (zero_apart (suc n) s r (omega arith) (sym e))
numeral_tells (suc n) (suc m) r s h k e =
    let a = numeral_digits (suc n) (omega arith) in
    let b = numeral_digits (suc m) (omega arith) in
    let (p, q) = digits_tell (digits_of 10 (suc n)) (digits_of 10 (suc m)) r s (all_below_base_digits_of 10 (suc n) (omega arith)) (all_below_base_digits_of 10 (suc m) (omega arith)) h k cc in
    (same_from_digits_of 10 (suc n) (suc m) (omega arith) p, q)

-- edges
abbrev colour_of : ℕ → Colour
colour_of b = cond (eqb b 76) for_left (cond (eqb b 82) for_right for_both)

colour_tells : Tells Any spell_colour
colour_tells = byte_tells spell_colour colour_of each
  where
    each : OneByte spell_colour colour_of
    each for_left = (76, refl, refl)
    each for_right = (82, refl, refl)
    each for_both = (66, refl, refl)

colour_no_digit : (c : Colour) (r : List ℕ) → NoDigit (spell_colour c ++ r)
colour_no_digit for_left r = inr (omega arith)
colour_no_digit for_right r = inr (omega arith)
colour_no_digit for_both r = inr (omega arith)

edge_tells : Tells Any spell_edge
edge_tells x y r s h k e =
    let u = spell_colour x.colour ++ r in
    let v = spell_colour y.colour ++ s in
    let (p, d) = numeral_tells x.from y.from (45 ∷ (numeral x.to ++ u)) (45 ∷ (numeral y.to ++ v)) (inl (omega arith)) (inl (omega arith)) (simp append_assoc at e) in
    let (q, f) = numeral_tells x.to y.to u v (colour_no_digit x.colour r) (colour_no_digit y.colour s) (append_cancel_left (codes "-") (numeral x.to ++ u) (numeral y.to ++ v) d) in
    let (o, g) = colour_tells x.colour y.colour r s tt tt f in
    (λ i. record { from = p i; to = q i; colour = o i }, g)

edges_tell : Tells Closing (spell_items (codes ",") spell_edge)
edges_tell = items_tell (codes ",") spell_edge Any Closing edge_tells (λ x t. tt) (λ t h. tt) (λ x t h. omega arith)

-- Of two texts that the machine takes to its end, neither begins the other.
parted : (q : Option (List Symbol)) (a b r s : List ℕ) → run q a ≡ some [] → run q b ≡ some [] → a ++ r ≡ b ++ s → (a ≡ b) × (r ≡ s)
parted q [] [] r s m n e = (refl, e)
parted q [] (c ∷ b) r s m n e = absurd (never_some b (ap (λ o. run (step o c) b) (sym m) ∙ n))
parted q (c ∷ a) [] r s m n e = absurd (never_some a (ap (λ o. run (step o c) a) (sym n) ∙ m))
parted q (c ∷ a) (d ∷ b) r s m n e =
    let f : c ≡ d = cc in
    let (x, y) = parted (step q c) a b r s m (ap (λ z. run (step q z) b) f ∙ n) cc in
    (ap₂ ◌∷◌ f x, y)

-- so these need only be told apart where nothing follows
whole_tells : {A : Type 0} (spelt : A → List ℕ) (x : Symbol) → ((a : A) → Emptied (x ∷ []) (spelt a)) → ((a b : A) → spelt a ≡ spelt b → a ≡ b) → Tells Any spelt
whole_tells spelt x runs same a b r s h k e = let (p, q) = parted (some (x ∷ [])) (spelt a) (spelt b) r s (runs a) (runs b) e in (same a b p, q)

-- boards, told apart by the byte behind the opening bracket
abbrev letter : List ℕ → ℕ
letter t = get_or t 1 0

in_brackets : (a b : Board) → heading a ≡ heading b → spell_board a ≡ spell_board b → items_of a ++ codes ")" ≡ items_of b ++ codes ")"
in_brackets a b h e = append_cancel_left (heading a) (items_of a ++ codes ")") (items_of b ++ codes ")") (e ∙ ap (λ w. w ++ (items_of b ++ codes ")")) (sym h))

board_same : (a b : Board) → spell_board a ≡ spell_board b → a ≡ b
board_same (domineering x) (domineering y) e = ap domineering (rows_tell x y (codes ")") (codes ")") refl refl (in_brackets (domineering x) (domineering y) refl e)).0
board_same (toads x) (toads y) e = ap toads (cells_tell x y (codes ")") (codes ")") refl refl (in_brackets (toads x) (toads y) refl e)).0
board_same (hackenbush x) (hackenbush y) e = ap hackenbush (edges_tell x y (codes ")") (codes ")") refl refl (in_brackets (hackenbush x) (hackenbush y) refl e)).0
board_same a b e = let z = ap letter e in absurd (omega arith)

board_tells : Tells Any spell_board
board_tells = whole_tells spell_board board run_board board_same

board_letter : (b : Board) → (letter (spell_board b) ≡ 100) ⊎ ((letter (spell_board b) ≡ 116) ⊎ (letter (spell_board b) ≡ 104))
board_letter (domineering x) = inl refl
board_letter (toads x) = inr (inl refl)
board_letter (hackenbush x) = inr (inr refl)

-- subjects
subject_same : (p q : Subject) → spell_subject p ≡ spell_subject q → p ≡ q
subject_same (plain a) (plain b) e = ap plain (board_same a b e)
subject_same (minus a) (minus b) e = ap minus (after spell_board board_tells (codes "(minus ") a b (codes ")") (codes ")") e).0
subject_same (sum a c) (sum b d) e =
    let (p, f) = after spell_board board_tells (codes "(sum ") a b (codes " " ++ (spell_board c ++ codes ")")) (codes " " ++ (spell_board d ++ codes ")")) e in
    let (q, g) = after spell_board board_tells (codes " ") c d (codes ")") (codes ")") f in
    ap₂ sum p q
subject_same (written g) (written h) e = ap written (after bytes (whole_tells bytes text run_text bytes_injective) (codes "(form ") g h (codes ")") (codes ")") e).0
subject_same (plain a) q e = let z = ap letter e in let k = board_letter a in absurd (omega arith)
subject_same p (plain b) e = let z = ap letter e in let k = board_letter b in absurd (omega arith)
subject_same p q e = let z = ap letter e in absurd (omega arith)

subject_tells : Tells Any spell_subject
subject_tells = whole_tells spell_subject subject run_subject subject_same

-- lines
abbrev side_of : ℕ → Side
side_of b = cond (eqb b 76) Left Right

side_tells : Tells Any spell_side
side_tells = byte_tells spell_side side_of each
  where
    each : OneByte spell_side side_of
    each Left = (76, refl, refl)
    each Right = (82, refl, refl)

pub spelling_tells : SpellingTells
spelling_tells (value p) (value q) e = ap value (after spell_subject subject_tells (codes "(value ") p q (codes ")") (codes ")") e).0
spelling_tells (comparison a c) (comparison b d) e =
    let (p, f) = after spell_subject subject_tells (codes "(compare ") a b (codes " " ++ (spell_subject c ++ codes ")")) (codes " " ++ (spell_subject d ++ codes ")")) e in
    let (q, g) = after spell_subject subject_tells (codes " ") c d (codes ")") (codes ")") f in
    ap₂ comparison p q
spelling_tells (first_move i a) (first_move j b) e =
    let (p, f) = after spell_side side_tells (codes "(move ") i j (codes " " ++ (spell_board a ++ codes ")")) (codes " " ++ (spell_board b ++ codes ")")) e in
    let (q, g) = after spell_board board_tells (codes " ") a b (codes ")") (codes ")") f in
    ap₂ first_move p q
spelling_tells l m e = let z = ap letter e in absurd (omega arith)
