-- The machine takes each spelling to its end.
-- Assumes nothing.
use Rattle.std.proofs.Common.{◌≡◌, ℕ, zero, suc, ◌<◌, List, [], ◌∷◌, ◌++◌, map, codes, refl, ap, ◌∙◌, append_assoc, arith}
use mathlib.Core.Option.{some}
use Rattle.games.specs.Form.{Form, Forms, form, ∅, ◌&◌}
use Rattle.games.specs.Text.{bar, close_mark, byte, texts, more, bytes}
use Rattle.games.specs.Text.{text as marks}
use Rattle.games.specs.declared.side.Side.{Side}
use Rattle.games.specs.declared.side.Side.TheVariants.{Left, Right}
use Rattle.std.specs.Int.Digits.{AllBelowBase}
use Rattle.std.proofs.lemmas.List.{map-append}
use Rattle.lines.specs.Syntax.{Items, Square, vacant, filled, Cell, toad, frog, blank, Colour, for_left, for_right, for_both, Edge, Board, domineering, toads, hackenbush, Subject, plain, minus, sum, written, Line, value, comparison, first_move}
use Rattle.lines.specs.Syntax.{spell_more, spell_items, numeral, spell_square, spell_row, spell_cell, spell_colour, spell_edge, items_of, spell_board, spell_subject, spell_side, spell}
use Rattle.lines.specs.Machine.{Symbol, just, line, subject, board, side, squares, more_squares, cells, more_cells, from, from_digits, to, to_digits, colour, more_edges, text, in_left, after_left, in_right, after_right, next, run}
use Rattle.lines.proofs.Machine.{run_through, run_word}
use Rattle.lines.proofs.Numerals.{ascii, numeral_zero, figures, digit_cases}
use Rattle.lines.proofs.Sound.{rows_text, cells_text, edges_text}

abbrev pub Emptied : List Symbol → List ℕ → Type 0
Emptied s t = run (some s) t ≡ some []

-- items
run_squares : (these : List Square) (u : List ℕ) → run (some (more_squares ∷ [])) (spell_more [] spell_square these ++ u) ≡ run (some (more_squares ∷ [])) u
run_squares [] u = refl
run_squares (vacant ∷ these) u = run_squares these u
run_squares (filled ∷ these) u = run_squares these u

run_row : (row : Items Square) (u : List ℕ) → run (some (squares ∷ [])) (spell_row row ++ u) ≡ run (some (more_squares ∷ [])) u
run_row row u = go row.first
  where
    go : (x : Square) → run (some (squares ∷ [])) ((spell_square x ++ spell_more [] spell_square row.more) ++ u) ≡ run (some (more_squares ∷ [])) u
    go vacant = run_squares row.more u
    go filled = run_squares row.more u

run_rows : (rows : List (Items Square)) → Emptied (more_squares ∷ []) (rows_text rows)
run_rows [] = refl
run_rows (row ∷ rows) = ap (λ z. run (some (squares ∷ [])) z) (append_assoc (spell_row row) (spell_more (codes "/") spell_row rows) (codes ")")) ∙ (run_row row (rows_text rows) ∙ run_rows rows)

run_all_rows : (rows : Items (Items Square)) → Emptied (squares ∷ []) (spell_items (codes "/") spell_row rows ++ codes ")")
run_all_rows rows = run_rows (rows.first ∷ rows.more)

run_cells : (these : List Cell) → Emptied (more_cells ∷ []) (cells_text these)
run_cells [] = refl
run_cells (toad ∷ these) = run_cells these
run_cells (frog ∷ these) = run_cells these
run_cells (blank ∷ these) = run_cells these

run_all_cells : (these : Items Cell) → Emptied (cells ∷ []) (spell_items [] spell_cell these ++ codes ")")
run_all_cells these = go these.first
  where
    go : (x : Cell) → Emptied (cells ∷ []) ((spell_cell x ++ spell_more [] spell_cell these.more) ++ codes ")")
    go toad = run_cells these.more
    go frog = run_cells these.more
    go blank = run_cells these.more

-- numbers
abbrev DigitOn : Symbol → Symbol → ℕ → Type 0
DigitOn x y d = next (x ∷ []) (ascii d) ≡ some (y ∷ [])

from_on : (d : ℕ) → d < 10 → DigitOn from_digits from_digits d
from_on = digit_cases (DigitOn from_digits from_digits) refl refl refl refl refl refl refl refl refl refl

to_on : (d : ℕ) → d < 10 → DigitOn to_digits to_digits d
to_on = digit_cases (DigitOn to_digits to_digits) refl refl refl refl refl refl refl refl refl refl

from_first : (d : ℕ) → d < 10 → 0 < d → DigitOn from from_digits d
from_first = digit_cases (λ d. 0 < d → DigitOn from from_digits d) (λ l. absurd (omega arith)) (λ l. refl) (λ l. refl) (λ l. refl) (λ l. refl) (λ l. refl) (λ l. refl) (λ l. refl) (λ l. refl) (λ l. refl)

to_first : (d : ℕ) → d < 10 → 0 < d → DigitOn to to_digits d
to_first = digit_cases (λ d. 0 < d → DigitOn to to_digits d) (λ l. absurd (omega arith)) (λ l. refl) (λ l. refl) (λ l. refl) (λ l. refl) (λ l. refl) (λ l. refl) (λ l. refl) (λ l. refl) (λ l. refl)

run_digits : (x : Symbol) → ((d : ℕ) → d < 10 → DigitOn x x d) → (ds u : List ℕ) → AllBelowBase 10 ds → run (some (x ∷ [])) (map ascii ds ++ u) ≡ run (some (x ∷ [])) u
run_digits x f [] u h = refl
run_digits x f (d ∷ ds) u h = ap (λ q. run q (map ascii ds ++ u)) (f d h.0) ∙ run_digits x f ds u h.1

-- a number that is not 0
run_positive : (x y : Symbol) → ((d : ℕ) → d < 10 → 0 < d → DigitOn x y d) → ((d : ℕ) → d < 10 → DigitOn y y d) → (n : ℕ) → 0 < n → (u : List ℕ) → run (some (x ∷ [])) (numeral n ++ u) ≡ run (some (y ∷ [])) u
run_positive x y f g n p u =
    let k = figures n p in
    ap (λ z. run (some (x ∷ [])) (z ++ u)) k.are
    ∙ (ap (λ q. run q (map ascii k.others ++ u)) (f k.first k.small k.positive) ∙ run_digits y g k.others u k.under)

run_from : (n : ℕ) (u : List ℕ) → run (some (from ∷ [])) (numeral n ++ (45 ∷ u)) ≡ run (some (to ∷ [])) u
run_from zero u = ap (λ z. run (some (from ∷ [])) (z ++ (45 ∷ u))) numeral_zero
run_from (suc n) u = run_positive from from_digits from_first from_on (suc n) (omega arith) (45 ∷ u)

run_to : (n : ℕ) (c : Colour) (u : List ℕ) → run (some (to ∷ [])) (numeral n ++ (spell_colour c ++ u)) ≡ run (some (more_edges ∷ [])) u
run_to zero c u = ap (λ z. run (some (to ∷ [])) (z ++ (spell_colour c ++ u))) numeral_zero ∙ go c
  where
    go : (d : Colour) → run (some (colour ∷ [])) (spell_colour d ++ u) ≡ run (some (more_edges ∷ [])) u
    go for_left = refl
    go for_right = refl
    go for_both = refl
run_to (suc n) c u = run_positive to to_digits to_first to_on (suc n) (omega arith) (spell_colour c ++ u) ∙ go c
  where
    go : (d : Colour) → run (some (to_digits ∷ [])) (spell_colour d ++ u) ≡ run (some (more_edges ∷ [])) u
    go for_left = refl
    go for_right = refl
    go for_both = refl

run_edge : (e : Edge) (u : List ℕ) → run (some (from ∷ [])) (spell_edge e ++ u) ≡ run (some (more_edges ∷ [])) u
run_edge e u = simp append_assoc (run_from e.from (numeral e.to ++ (spell_colour e.colour ++ u)) ∙ run_to e.to e.colour u)

run_edges : (edges : List Edge) → Emptied (more_edges ∷ []) (edges_text edges)
run_edges [] = refl
run_edges (e ∷ edges) = ap (λ z. run (some (from ∷ [])) z) (append_assoc (spell_edge e) (spell_more (codes ",") spell_edge edges) (codes ")")) ∙ (run_edge e (edges_text edges) ∙ run_edges edges)

run_all_edges : (edges : Items Edge) → Emptied (from ∷ []) (spell_items (codes ",") spell_edge edges ++ codes ")")
run_all_edges edges = run_edges (edges.first ∷ edges.more)

-- texts: what stands behind the opening bracket
abbrev inner : Form → List ℕ
inner (form ls rs) = map byte (texts ls ++ (bar ∷ (texts rs ++ (close_mark ∷ []))))

whole : (g : Form) → Emptied (in_left ∷ []) (inner g) → Emptied (text ∷ []) (bytes g)
whole (form ls rs) e = e

entered : (g : Form) (x y : Symbol) → next (x ∷ []) 123 ≡ some (in_left ∷ y ∷ []) → Emptied (in_left ∷ []) (inner g) → (u : List ℕ) → run (some (x ∷ [])) (bytes g ++ u) ≡ run (some (y ∷ [])) u
entered (form ls rs) x y e h u = ap (λ q. run q (inner (form ls rs) ++ u)) e ∙ run_through (inner (form ls rs)) u (in_left ∷ []) (y ∷ []) h

-- the two symbols of a list: at its start and after an option, and the mark that ends it
mutual
  run_inner : (g : Form) → Emptied (in_left ∷ []) (inner g)
  run_inner (form ls rs) =
      ap (λ z. run (some (in_left ∷ [])) z) (map-append byte (texts ls) (bar ∷ (texts rs ++ (close_mark ∷ []))))
      ∙ (run_list ls in_left after_left 124 (map byte (texts rs ++ (close_mark ∷ []))) refl refl refl
      ∙ (ap (λ z. run (some (in_right ∷ [])) z) (map-append byte (texts rs) (close_mark ∷ [])) ∙ run_list rs in_right after_right 125 [] refl refl refl))

  run_list : (gs : Forms) (x y : Symbol) (b : ℕ) (u : List ℕ) → next (x ∷ []) 123 ≡ some (in_left ∷ y ∷ []) → next (y ∷ []) 44 ≡ some (text ∷ y ∷ []) → next (x ∷ []) b ≡ next (y ∷ []) b
      → run (some (x ∷ [])) (map byte (texts gs) ++ (b ∷ u)) ≡ run (next (y ∷ []) b) u
  run_list ∅ x y b u p q r = ap (λ z. run z u) r
  run_list (g & gs) x y b u p q r =
      ap (λ z. run (some (x ∷ [])) (z ++ (b ∷ u))) (map-append byte (marks g) (more gs))
      ∙ (ap (λ z. run (some (x ∷ [])) z) (append_assoc (bytes g) (map byte (more gs)) (b ∷ u))
      ∙ (entered g x y p (run_inner g) (map byte (more gs) ++ (b ∷ u)) ∙ run_more gs y b u q))

  run_more : (gs : Forms) (y : Symbol) (b : ℕ) (u : List ℕ) → next (y ∷ []) 44 ≡ some (text ∷ y ∷ []) → run (some (y ∷ [])) (map byte (more gs) ++ (b ∷ u)) ≡ run (next (y ∷ []) b) u
  run_more ∅ y b u q = refl
  run_more (g & gs) y b u q =
      ap (λ z. run z (map byte (marks g ++ more gs) ++ (b ∷ u))) q
      ∙ (ap (λ z. run (some (text ∷ y ∷ [])) (z ++ (b ∷ u))) (map-append byte (marks g) (more gs))
      ∙ (ap (λ z. run (some (text ∷ y ∷ [])) z) (append_assoc (bytes g) (map byte (more gs)) (b ∷ u))
      ∙ (run_through (bytes g) (map byte (more gs) ++ (b ∷ u)) (text ∷ []) (y ∷ []) (whole g (run_inner g)) ∙ run_more gs y b u q)))

pub run_text : (g : Form) → Emptied (text ∷ []) (bytes g)
run_text g = whole g (run_inner g)

-- boards, subjects, lines
pub run_board : (b : Board) → Emptied (board ∷ []) (spell_board b)
run_board (domineering rows) = run_word (codes "omineering ") (items_of (domineering rows) ++ codes ")") (squares ∷ []) ∙ run_all_rows rows
run_board (toads these) = run_word (codes "oads ") (items_of (toads these) ++ codes ")") (cells ∷ []) ∙ run_all_cells these
run_board (hackenbush edges) = run_word (codes "ackenbush ") (items_of (hackenbush edges) ++ codes ")") (from ∷ []) ∙ run_all_edges edges

as_subject : (b : Board) → Emptied (board ∷ []) (spell_board b) → Emptied (subject ∷ []) (spell_board b)
as_subject (domineering rows) e = e
as_subject (toads these) e = e
as_subject (hackenbush edges) e = e

pub run_subject : (p : Subject) → Emptied (subject ∷ []) (spell_subject p)
run_subject (plain b) = as_subject b (run_board b)
run_subject (minus b) = run_word (codes "inus ") (spell_board b ++ codes ")") (board ∷ just 41 ∷ []) ∙ run_through (spell_board b) (codes ")") (board ∷ []) (just 41 ∷ []) (run_board b)
run_subject (sum a b) =
    run_word (codes "um ") (spell_board a ++ (codes " " ++ (spell_board b ++ codes ")"))) (board ∷ just 32 ∷ board ∷ just 41 ∷ [])
    ∙ (run_through (spell_board a) (codes " " ++ (spell_board b ++ codes ")")) (board ∷ []) (just 32 ∷ board ∷ just 41 ∷ []) (run_board a)
    ∙ run_through (spell_board b) (codes ")") (board ∷ []) (just 41 ∷ []) (run_board b))
run_subject (written g) = run_word (codes "orm ") (bytes g ++ codes ")") (text ∷ just 41 ∷ []) ∙ run_through (bytes g) (codes ")") (text ∷ []) (just 41 ∷ []) (run_text g)

run_side : (s : Side) → Emptied (side ∷ []) (spell_side s)
run_side Left = refl
run_side Right = refl

pub run_line : (l : Line) → Emptied (line ∷ []) (spell l)
run_line (value p) = run_word (codes "alue ") (spell_subject p ++ codes ")") (subject ∷ just 41 ∷ []) ∙ run_through (spell_subject p) (codes ")") (subject ∷ []) (just 41 ∷ []) (run_subject p)
run_line (comparison p q) =
    run_word (codes "ompare ") (spell_subject p ++ (codes " " ++ (spell_subject q ++ codes ")"))) (subject ∷ just 32 ∷ subject ∷ just 41 ∷ [])
    ∙ (run_through (spell_subject p) (codes " " ++ (spell_subject q ++ codes ")")) (subject ∷ []) (just 32 ∷ subject ∷ just 41 ∷ []) (run_subject p)
    ∙ run_through (spell_subject q) (codes ")") (subject ∷ []) (just 41 ∷ []) (run_subject q))
run_line (first_move s b) =
    run_word (codes "ove ") (spell_side s ++ (codes " " ++ (spell_board b ++ codes ")"))) (side ∷ just 32 ∷ board ∷ just 41 ∷ [])
    ∙ (run_through (spell_side s) (codes " " ++ (spell_board b ++ codes ")")) (side ∷ []) (just 32 ∷ board ∷ just 41 ∷ []) (run_side s)
    ∙ run_through (spell_board b) (codes ")") (board ∷ []) (just 41 ∷ []) (run_board b))
