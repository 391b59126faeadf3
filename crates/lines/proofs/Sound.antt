-- What the machine takes to its end is a spelling.
-- Assumes nothing.
use Rattle.std.proofs.Common.{◌≡◌, ℕ, ◌+◌, ◌*◌, ◌<◌, List, [], ◌∷◌, ◌++◌, map, codes, sym, refl, ap, ◌∙◌, subst, append_assoc, append-nil, arith}
use mathlib.Core.Option.{Option, none, some}
use Rattle.games.specs.Form.{Form, Forms, form, ∅, ◌&◌}
use Rattle.games.specs.Text.{Mark, bar, close_mark, comma, byte, texts, more, bytes}
use Rattle.games.specs.Text.{text as marks}
use Rattle.games.specs.declared.side.Side.{Side}
use Rattle.games.specs.declared.side.Side.TheVariants.{Left, Right}
use Rattle.std.proofs.lemmas.List.{map-append}
use Rattle.lines.specs.Syntax.{Items, Square, vacant, filled, Cell, toad, frog, blank, Colour, for_left, for_right, for_both, Edge, Board, domineering, toads, hackenbush, Subject, plain, minus, sum, written, Line, value, comparison, first_move}
use Rattle.lines.specs.Syntax.{spell_more, spell_items, numeral, spell_square, spell_row, spell_cell, spell_colour, spell_edge, spell_board, spell_subject, spell_side, spell}
use Rattle.lines.specs.Machine.{Symbol, just, line, line_word, subject, subject_word, board, board_word, side, squares, more_squares, cells, more_cells, from, from_digits, to, to_digits, colour, more_edges, text, in_left, after_left, in_right, after_right, letters, nonzero_then, board_rules, rules, pick, onto, run}
use Rattle.lines.proofs.Machine.{never_some, Each, picked}
use Rattle.lines.proofs.Numerals.{ascii, numeral_zero, numeral_one, numeral_more}

abbrev pub rows_text : List (Items Square) → List ℕ
rows_text rows = spell_more (codes "/") spell_row rows ++ codes ")"

abbrev pub squares_text : List Square → List (Items Square) → List ℕ
squares_text these rows = spell_more [] spell_square these ++ rows_text rows

abbrev pub cells_text : List Cell → List ℕ
cells_text these = spell_more [] spell_cell these ++ codes ")"

abbrev pub edges_text : List Edge → List ℕ
edges_text edges = spell_more (codes ",") spell_edge edges ++ codes ")"

abbrev pub colour_text : Colour → List Edge → List ℕ
colour_text c edges = spell_colour c ++ edges_text edges

-- the texts of a symbol
abbrev pub Of : Symbol → List ℕ → Type 0
Of (just b) t = t ≡ b ∷ []
Of line t = (l : Line) × (spell l ≡ t)
Of line_word t = (l : Line) × (spell l ≡ 40 ∷ t)
Of subject t = (p : Subject) × (spell_subject p ≡ t)
Of subject_word t = (p : Subject) × (spell_subject p ≡ 40 ∷ t)
Of board t = (b : Board) × (spell_board b ≡ t)
Of board_word t = (b : Board) × (spell_board b ≡ 40 ∷ t)
Of side t = (s : Side) × (spell_side s ≡ t)
Of squares t = (rows : Items (Items Square)) × (spell_items (codes "/") spell_row rows ++ codes ")" ≡ t)
Of more_squares t = (these : List Square) × (rows : List (Items Square)) × (squares_text these rows ≡ t)
Of cells t = (these : Items Cell) × (spell_items [] spell_cell these ++ codes ")" ≡ t)
Of more_cells t = (these : List Cell) × (cells_text these ≡ t)
Of from t = (edges : Items Edge) × (spell_items (codes ",") spell_edge edges ++ codes ")" ≡ t)
Of from_digits t = (m : ℕ) → 0 < m → (n : ℕ) × (v : ℕ) × (c : Colour) × (edges : List Edge) × (numeral n ++ (45 ∷ (numeral v ++ colour_text c edges)) ≡ numeral m ++ t)
Of to t = (v : ℕ) × (c : Colour) × (edges : List Edge) × (numeral v ++ colour_text c edges ≡ t)
Of to_digits t = (m : ℕ) → 0 < m → (v : ℕ) × (c : Colour) × (edges : List Edge) × (numeral v ++ colour_text c edges ≡ numeral m ++ t)
Of colour t = (c : Colour) × (edges : List Edge) × (colour_text c edges ≡ t)
Of more_edges t = (edges : List Edge) × (edges_text edges ≡ t)
Of text t = (g : Form) × (bytes g ≡ t)
Of in_left t = (ls : Forms) × (rs : Forms) × (map byte (texts ls ++ (bar ∷ (texts rs ++ (close_mark ∷ [])))) ≡ t)
Of after_left t = (ls : Forms) × (rs : Forms) × (map byte (more ls ++ (bar ∷ (texts rs ++ (close_mark ∷ [])))) ≡ t)
Of in_right t = (rs : Forms) × (map byte (texts rs ++ (close_mark ∷ [])) ≡ t)
Of after_right t = (rs : Forms) × (map byte (more rs ++ (close_mark ∷ [])) ≡ t)

-- and of symbols, one after the other
abbrev pub OfAll : List Symbol → List ℕ → Type 0
OfAll [] t = t ≡ []
OfAll (x ∷ k) t = (u : List ℕ) × (v : List ℕ) × Of x u × OfAll k v × (u ++ v ≡ t)

-- taken apart again
pub part : (s k : List Symbol) (t : List ℕ) → OfAll (s ++ k) t → (u : List ℕ) × (v : List ℕ) × OfAll s u × OfAll k v × (u ++ v ≡ t)
part [] k t h = ([], t, refl, h, refl)
part (x ∷ s) k t (u, v, p, q, e) =
    let (a, b, r, w, d) = part s k v q in
    (u ++ a, b, (u, a, p, r, refl), w, append_assoc u a b ∙ (ap (λ z. u ++ z) d ∙ e))

past_word : (w : List ℕ) (k : List Symbol) (t : List ℕ) → OfAll (letters w ++ k) t → (v : List ℕ) × OfAll k v × (t ≡ w ++ v)
past_word [] k t h = (t, h, refl)
past_word (b ∷ w) k t (u, v, p, q, e) =
    let (a, r, d) = past_word w k v q in
    (a, r, sym e ∙ (ap (λ z. z ++ v) p ∙ ap (λ z. b ∷ z) d))

pub alone : (x : Symbol) (t : List ℕ) → OfAll (x ∷ []) t → Of x t
alone x t (u, v, p, q, e) = subst (λ z. Of x z) (sym (append-nil u) ∙ (ap (λ z. u ++ z) (sym q) ∙ e)) p

-- each rule
abbrev Sound : Symbol → ℕ → List Symbol → Type 0
Sound x b s = (t : List ℕ) → OfAll s t → Of x (b ∷ t)

a_value : Sound line_word 118 (letters (codes "alue ") ++ (subject ∷ just 41 ∷ []))
a_value t h =
    let (v, (u, w, (p, e), q, d), f) = past_word (codes "alue ") (subject ∷ just 41 ∷ []) t h in
    let k : w ≡ 41 ∷ [] = alone (just 41) w q in
    (value p, cc)

a_comparison : Sound line_word 99 (letters (codes "ompare ") ++ (subject ∷ just 32 ∷ subject ∷ just 41 ∷ []))
a_comparison t h =
    let (v, (u, w, (p, e), q, d), f) = past_word (codes "ompare ") (subject ∷ just 32 ∷ subject ∷ just 41 ∷ []) t h in
    let (v', (u', w', (p', e'), q', d'), f') = past_word (codes " ") (subject ∷ just 41 ∷ []) w q in
    let k : w' ≡ 41 ∷ [] = alone (just 41) w' q' in
    (comparison p p', cc)

a_first_move : Sound line_word 109 (letters (codes "ove ") ++ (side ∷ just 32 ∷ board ∷ just 41 ∷ []))
a_first_move t h =
    let (v, (u, w, (p, e), q, d), f) = past_word (codes "ove ") (side ∷ just 32 ∷ board ∷ just 41 ∷ []) t h in
    let (v', (u', w', (p', e'), q', d'), f') = past_word (codes " ") (board ∷ just 41 ∷ []) w q in
    let k : w' ≡ 41 ∷ [] = alone (just 41) w' q' in
    (first_move p p', cc)

a_minus : Sound subject_word 109 (letters (codes "inus ") ++ (board ∷ just 41 ∷ []))
a_minus t h =
    let (v, (u, w, (p, e), q, d), f) = past_word (codes "inus ") (board ∷ just 41 ∷ []) t h in
    let k : w ≡ 41 ∷ [] = alone (just 41) w q in
    (minus p, cc)

a_sum : Sound subject_word 115 (letters (codes "um ") ++ (board ∷ just 32 ∷ board ∷ just 41 ∷ []))
a_sum t h =
    let (v, (u, w, (p, e), q, d), f) = past_word (codes "um ") (board ∷ just 32 ∷ board ∷ just 41 ∷ []) t h in
    let (v', (u', w', (p', e'), q', d'), f') = past_word (codes " ") (board ∷ just 41 ∷ []) w q in
    let k : w' ≡ 41 ∷ [] = alone (just 41) w' q' in
    (sum p p', cc)

a_form : Sound subject_word 102 (letters (codes "orm ") ++ (text ∷ just 41 ∷ []))
a_form t h =
    let (v, (u, w, (p, e), q, d), f) = past_word (codes "orm ") (text ∷ just 41 ∷ []) t h in
    let k : w ≡ 41 ∷ [] = alone (just 41) w q in
    (written p, cc)

-- the boards, as boards and as subjects
a_board : Each (Sound board_word) board_rules
a_board = (of_rows, (of_cells, (of_edges, tt)))
  where
    of_rows : Sound board_word 100 (letters (codes "omineering ") ++ (squares ∷ []))
    of_rows t h =
        let (v, q, f) = past_word (codes "omineering ") (squares ∷ []) t h in
        let (rows, e) = alone squares v q in
        (domineering rows, cc)

    of_cells : Sound board_word 116 (letters (codes "oads ") ++ (cells ∷ []))
    of_cells t h =
        let (v, q, f) = past_word (codes "oads ") (cells ∷ []) t h in
        let (these, e) = alone cells v q in
        (toads these, cc)

    of_edges : Sound board_word 104 (letters (codes "ackenbush ") ++ (from ∷ []))
    of_edges t h =
        let (v, q, f) = past_word (codes "ackenbush ") (from ∷ []) t h in
        let (edges, e) = alone from v q in
        (hackenbush edges, cc)

-- items
a_square : (x : Square) (b : ℕ) → spell_square x ≡ b ∷ [] → Sound more_squares b (more_squares ∷ [])
a_square x b e t h = let (these, rows, d) = alone more_squares t h in (x ∷ these, rows, rw e (ap (λ z. b ∷ z) d))

first_square : (x : Square) (b : ℕ) → spell_square x ≡ b ∷ [] → Sound squares b (more_squares ∷ [])
first_square x b e t h =
    let (these, rows, d) = alone more_squares t h in
    (record { first = record { first = x; more = these }; more = rows }, rw e (ap (λ z. b ∷ z) (append_assoc (spell_more [] spell_square these) (spell_more (codes "/") spell_row rows) (codes ")") ∙ d)))

next_row : Sound more_squares 47 (squares ∷ [])
next_row t h = let (rows, d) = alone squares t h in ([], rows.first ∷ rows.more, ap (λ z. 47 ∷ z) d)

no_row : Sound more_squares 41 []
no_row t h = ([], [], ap (λ z. 41 ∷ z) (sym h))

a_cell : (x : Cell) (b : ℕ) → spell_cell x ≡ b ∷ [] → Sound more_cells b (more_cells ∷ [])
a_cell x b e t h = let (these, d) = alone more_cells t h in (x ∷ these, rw e (ap (λ z. b ∷ z) d))

first_cell : (x : Cell) (b : ℕ) → spell_cell x ≡ b ∷ [] → Sound cells b (more_cells ∷ [])
first_cell x b e t h = let (these, d) = alone more_cells t h in (record { first = x; more = these }, rw e (ap (λ z. b ∷ z) d))

-- edges
abbrev edge_of : ℕ → ℕ → Colour → Edge
edge_of n v c = record { from = n; to = v; colour = c }

edges_of : (n v : ℕ) (c : Colour) (edges : List Edge) (t : List ℕ) → numeral n ++ (45 ∷ (numeral v ++ colour_text c edges)) ≡ t → Of from t
edges_of n v c edges t e = (record { first = edge_of n v c; more = edges }, simp append_assoc e)

from_zero : Sound from 48 (just 45 ∷ to ∷ [])
from_zero t h =
    let (u, q, f) = past_word (codes "-") (to ∷ []) t h in
    let (v, c, edges, e) = alone to u q in
    edges_of 0 v c edges (48 ∷ t) (ap (λ z. z ++ (45 ∷ (numeral v ++ colour_text c edges))) numeral_zero ∙ (ap (λ z. 48 ∷ 45 ∷ z) e ∙ ap (λ z. 48 ∷ z) (sym f)))

from_digit : (d : ℕ) → 0 < d → d < 10 → Sound from (ascii d) (from_digits ∷ [])
from_digit d p l t h =
    let (n, v, c, edges, e) = alone from_digits t h d p in
    edges_of n v c edges (ascii d ∷ t) (e ∙ ap (λ z. z ++ t) (numeral_one d p l))

from_more : (d : ℕ) → d < 10 → Sound from_digits (ascii d) (from_digits ∷ [])
from_more d l t h m p =
    let (n, v, c, edges, e) = alone from_digits t h (m * 10 + d) (omega arith) in
    (n, v, c, edges, e ∙ (ap (λ z. z ++ t) (numeral_more m d p l) ∙ append_assoc (numeral m) (ascii d ∷ []) t))

from_end : Sound from_digits 45 (to ∷ [])
from_end t h m p = let (v, c, edges, e) = alone to t h in (m, v, c, edges, ap (λ z. numeral m ++ (45 ∷ z)) e)

to_zero : Sound to 48 (colour ∷ [])
to_zero t h = let (c, edges, e) = alone colour t h in (0, c, edges, ap (λ z. z ++ colour_text c edges) numeral_zero ∙ ap (λ z. 48 ∷ z) e)

to_digit : (d : ℕ) → 0 < d → d < 10 → Sound to (ascii d) (to_digits ∷ [])
to_digit d p l t h =
    let (v, c, edges, e) = alone to_digits t h d p in
    (v, c, edges, e ∙ ap (λ z. z ++ t) (numeral_one d p l))

to_more : (d : ℕ) → d < 10 → Sound to_digits (ascii d) (to_digits ∷ [])
to_more d l t h m p =
    let (v, c, edges, e) = alone to_digits t h (m * 10 + d) (omega arith) in
    (v, c, edges, e ∙ (ap (λ z. z ++ t) (numeral_more m d p l) ∙ append_assoc (numeral m) (ascii d ∷ []) t))

to_end : (c : Colour) (b : ℕ) → spell_colour c ≡ b ∷ [] → Sound to_digits b (more_edges ∷ [])
to_end c b e t h m p = let (edges, d) = alone more_edges t h in (m, c, edges, ap (λ z. numeral m ++ z) (rw e (ap (λ z. b ∷ z) d)))

a_colour : (c : Colour) (b : ℕ) → spell_colour c ≡ b ∷ [] → Sound colour b (more_edges ∷ [])
a_colour c b e t h = let (edges, d) = alone more_edges t h in (c, edges, rw e (ap (λ z. b ∷ z) d))

next_edge : Sound more_edges 44 (from ∷ [])
next_edge t h = let (edges, e) = alone from t h in (edges.first ∷ edges.more, ap (λ z. 44 ∷ z) e)

-- texts
two : (a b c : List Mark) (u w t : List ℕ) → map byte a ≡ u → map byte (b ++ c) ≡ w → u ++ w ≡ t → map byte ((a ++ b) ++ c) ≡ t
two a b c u w t p q d = ap (map byte) (append_assoc a b c) ∙ (map-append byte a (b ++ c) ∙ (ap (λ z. z ++ map byte (b ++ c)) p ∙ (ap (λ z. u ++ z) q ∙ d)))

nested_left : Sound in_left 123 (in_left ∷ after_left ∷ [])
nested_left t (u, w, (ls, rs, e), q, d) =
    let (ls', rs', e') = alone after_left w q in
    (form ls rs & ls', rs', two (marks (form ls rs)) (more ls') (bar ∷ (texts rs' ++ (close_mark ∷ []))) (123 ∷ u) w (123 ∷ t) (ap (λ z. 123 ∷ z) e) e' (ap (λ z. 123 ∷ z) d))

next_left : Sound after_left 44 (text ∷ after_left ∷ [])
next_left t (u, w, (g, e), q, d) =
    let (ls', rs', e') = alone after_left w q in
    (g & ls', rs', two (comma ∷ marks g) (more ls') (bar ∷ (texts rs' ++ (close_mark ∷ []))) (44 ∷ u) w (44 ∷ t) (ap (λ z. 44 ∷ z) e) e' (ap (λ z. 44 ∷ z) d))

nested_right : Sound in_right 123 (in_left ∷ after_right ∷ [])
nested_right t (u, w, (ls, rs, e), q, d) =
    let (rs', e') = alone after_right w q in
    (form ls rs & rs', two (marks (form ls rs)) (more rs') (close_mark ∷ []) (123 ∷ u) w (123 ∷ t) (ap (λ z. 123 ∷ z) e) e' (ap (λ z. 123 ∷ z) d))

next_right : Sound after_right 44 (text ∷ after_right ∷ [])
next_right t (u, w, (g, e), q, d) =
    let (rs', e') = alone after_right w q in
    (g & rs', two (comma ∷ marks g) (more rs') (close_mark ∷ []) (44 ∷ u) w (44 ∷ t) (ap (λ z. 44 ∷ z) e) e' (ap (λ z. 44 ∷ z) d))

a_text : Sound text 123 (in_left ∷ [])
a_text t h = let (ls, rs, e) = alone in_left t h in (form ls rs, ap (λ z. 123 ∷ z) e)

end_of_left : Sound in_left 124 (in_right ∷ [])
end_of_left t h = let (rs, e) = alone in_right t h in (∅, rs, ap (λ z. 124 ∷ z) e)

end_after_left : Sound after_left 124 (in_right ∷ [])
end_after_left t h = let (rs, e) = alone in_right t h in (∅, rs, ap (λ z. 124 ∷ z) e)

end_of_right : Sound in_right 125 []
end_of_right t h = (∅, ap (λ z. 125 ∷ z) (sym h))

end_after_right : Sound after_right 125 []
end_after_right t h = (∅, ap (λ z. 125 ∷ z) (sym h))

-- digits
digits_sound : (x : Symbol) (s : List Symbol) → ((d : ℕ) → 0 < d → d < 10 → Sound x (ascii d) s) → Each (Sound x) (nonzero_then s)
digits_sound x s f = (f 1 (omega arith) (omega arith), (f 2 (omega arith) (omega arith), (f 3 (omega arith) (omega arith), (f 4 (omega arith) (omega arith), (f 5 (omega arith) (omega arith), (f 6 (omega arith) (omega arith), (f 7 (omega arith) (omega arith), (f 8 (omega arith) (omega arith), (f 9 (omega arith) (omega arith), tt)))))))))

as_subject : {b : ℕ} (t : List ℕ) → Of board_word (b ∷ t) → Of subject_word (b ∷ t)
as_subject t (b, e) = (plain b, e)

rule_sound : (x : Symbol) → Each (Sound x) (rules x)
rule_sound (just b) = (λ t h. ap (λ z. b ∷ z) h, tt)
rule_sound line = (λ t h. alone line_word t h, tt)
rule_sound line_word = (a_value, (a_comparison, (a_first_move, tt)))
rule_sound subject = (λ t h. alone subject_word t h, tt)
rule_sound subject_word = (a_minus, (a_sum, (a_form, (λ t h. as_subject t (a_board.0 t h), (λ t h. as_subject t (a_board.1.0 t h), (λ t h. as_subject t (a_board.1.1.0 t h), tt))))))
rule_sound board = (λ t h. alone board_word t h, tt)
rule_sound board_word = a_board
rule_sound side = (λ t h. (Left, ap (λ z. 76 ∷ z) (sym h)), (λ t h. (Right, ap (λ z. 82 ∷ z) (sym h)), tt))
rule_sound squares = (first_square vacant 46 refl, (first_square filled 35 refl, tt))
rule_sound more_squares = (a_square vacant 46 refl, (a_square filled 35 refl, (next_row, (no_row, tt))))
rule_sound cells = (first_cell toad 84 refl, (first_cell frog 70 refl, (first_cell blank 46 refl, tt)))
rule_sound more_cells = (a_cell toad 84 refl, (a_cell frog 70 refl, (a_cell blank 46 refl, (λ t h. ([], ap (λ z. 41 ∷ z) (sym h)), tt))))
rule_sound from = (from_zero, digits_sound from (from_digits ∷ []) from_digit)
rule_sound from_digits = (from_end, (from_more 0 (omega arith), digits_sound from_digits (from_digits ∷ []) (λ d p. from_more d)))
rule_sound to = (to_zero, digits_sound to (to_digits ∷ []) to_digit)
rule_sound to_digits = (to_end for_left 76 refl, (to_end for_right 82 refl, (to_end for_both 66 refl, (to_more 0 (omega arith), digits_sound to_digits (to_digits ∷ []) (λ d p. to_more d)))))
rule_sound colour = (a_colour for_left 76 refl, (a_colour for_right 82 refl, (a_colour for_both 66 refl, tt)))
rule_sound more_edges = (next_edge, (λ t h. ([], ap (λ z. 41 ∷ z) (sym h)), tt))
rule_sound text = (a_text, tt)
rule_sound in_left = (nested_left, (end_of_left, tt))
rule_sound after_left = (next_left, (end_after_left, tt))
rule_sound in_right = (nested_right, (end_of_right, tt))
rule_sound after_right = (next_right, (end_after_right, tt))

-- what empties a stack is a text of its symbols
pub sound : (t : List ℕ) (s : List Symbol) → run (some s) t ≡ some [] → OfAll s t
sound [] [] e = refl
sound [] (x ∷ k) e = let z : ◌≡◌ {A = ℕ} 0 1 = cc in absurd (omega arith)
sound (b ∷ t) [] e = absurd (never_some t e)
sound (b ∷ t) (x ∷ k) e = go (λ s. sound t (s ++ k)) (pick b (rules x)) refl e
  where
    go : ((s : List Symbol) → run (some (s ++ k)) t ≡ some [] → OfAll (s ++ k) t) → (q : Option (List Symbol)) → pick b (rules x) ≡ q → run (onto q k) t ≡ some [] → OfAll (x ∷ k) (b ∷ t)
    go later none p d = absurd (never_some t d)
    go later (some s) p d =
        let (u, v, h, j, f) = part s k t (later s d) in
        (b ∷ u, v, picked (Sound x) (rules x) b s (rule_sound x) p u h, j, ap (λ z. b ∷ z) f)
