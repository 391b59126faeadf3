-- What a reader's proof needs: the forms of the brackets closed so far are sealed in turn, and each open bracket has the numbers of its options.
-- Assumes nothing.
use Rattle.std.proofs.Common.{◌≡◌, ℕ, suc, ◌+◌, Bool, true, false, cond, eqb, List, [], ◌∷◌, ◌++◌, map, length, get_or, Some, None, sym, refl, ap, ◌∙◌, subst, ap₂, subst₂, inl, inr, append_assoc, append-nil, arith}
use mathlib.Core.Option.{some}
use Rattle.std.proofs.lemmas.List.{length-append, length-map, map-append}
use Rattle.games.specs.Form.{Form, Forms, form, ∅, ◌&◌, ◌⧺◌, 𝟎, lefts, rights}
use Rattle.games.specs.Numbered.{Lists}
use Rattle.games.specs.Text.{Mark, open_mark, bar, close_mark, comma, byte, text, bytes}
use Rattle.games.specs.Reader.{Bracket, in_left, in_right, State, wants, fresh, after, done, wrong, put, finish, next, run, Alive, at, brackets, outside}
use Rattle.games.proofs.Reader.{result}
use Rattle.games.proofs.Reading.{run_++}
use Rattle.calls.specs.Rows.{Rows, no_numbers, first}
use Rattle.calls.specs.Answers.{Answer, told, refused, refused_at}
use Rattle.calls.specs.Sealing.{Seals, SealsNumbers}
use Rattle.calls.specs.Entering.{Entry, entry, parts, parts_of_all, place_after, SealsInTurn, Enters, accepted, ended}
use Rattle.calls.specs.Texts.{times, closings}
use Rattle.calls.specs.Brackets.{put_number, put_outside}
use Rattle.calls.specs.Laws.{Equal, none_left}
use Rattle.calls.proofs.Entering.{turn_snoc, seals_grows}
use Rattle.calls.proofs.Turns.{turn_then}
use Rattle.calls.proofs.Ones.{sealing_goes_by_numbers}
use Rattle.calls.proofs.Texts.{closes, wrong_stays, alive_dec, text_done}
use Rattle.calls.proofs.Evaluating.{turn_length, parts_⧺, equal_extends, equal_push, refused_same}

-- the forms closed so far in an open bracket, in the brackets that are open, innermost first, and in all
abbrev pub bracket_parts : Bracket → List Form
bracket_parts (in_left ls) = parts_of_all ls
bracket_parts (in_right ls rs) = parts_of_all ls ++ parts_of_all rs

abbrev pub open_parts : List Bracket → List Form
open_parts [] = []
open_parts (b ∷ bs) = open_parts bs ++ bracket_parts b

abbrev pub closed_parts : State → List Form
closed_parts (wants bs) = open_parts bs
closed_parts (fresh b bs) = open_parts (b ∷ bs)
closed_parts (after b bs) = open_parts (b ∷ bs)
closed_parts (done g) = parts g
closed_parts wrong = []

-- the form of the innermost bracket, as far as it was read
abbrev pub whole : Bracket → Form
whole (in_left ls) = form ls ∅
whole (in_right ls rs) = form ls rs

abbrev pub closing : State → Form
closing (wants bs) = 𝟎
closing (fresh b bs) = whole b
closing (after b bs) = whole b
closing (done g) = 𝟎
closing wrong = 𝟎

-- a closing bracket adds its form to those closed
put_parts : (g : Form) (b : Bracket) → bracket_parts (put g b) ≡ bracket_parts b ++ parts g
put_parts g (in_left ls) = parts_⧺ ls (g & ∅) ∙ ap (λ l. parts_of_all ls ++ l) (append-nil (parts g))
put_parts g (in_right ls rs) =
    ap (λ l. parts_of_all ls ++ l) (parts_⧺ rs (g & ∅) ∙ ap (λ l. parts_of_all rs ++ l) (append-nil (parts g))) ∙ sym (append_assoc (parts_of_all ls) (parts_of_all rs) (parts g))

finish_parts : (ls rs : Forms) (bs : List Bracket) → closed_parts (finish (form ls rs) bs) ≡ open_parts (in_right ls rs ∷ bs) ++ form ls rs ∷ []
finish_parts ls rs [] = sym (append_assoc (parts_of_all ls) (parts_of_all rs) (form ls rs ∷ []))
finish_parts ls rs (b ∷ bs) =
    let f = form ls rs in
    let o = open_parts bs in
    ap (λ l. o ++ l) (put_parts f b)
    ∙ (sym (append_assoc o (bracket_parts b) (parts f))
    ∙ (ap (λ l. (o ++ bracket_parts b) ++ l) (sym (append_assoc (parts_of_all ls) (parts_of_all rs) (f ∷ [])))
    ∙ sym (append_assoc (o ++ bracket_parts b) (parts_of_all ls ++ parts_of_all rs) (f ∷ []))))

pub close_parts : (q : State) → Alive (next q close_mark) → closed_parts (next q close_mark) ≡ closed_parts q ++ closing q ∷ []
close_parts (wants bs) a = absurd a
close_parts (fresh (in_left ls) bs) a = absurd a
close_parts (fresh (in_right ls rs) bs) a = finish_parts ls rs bs
close_parts (after (in_left ls) bs) a = absurd a
close_parts (after (in_right ls rs) bs) a = finish_parts ls rs bs
close_parts (done g) a = absurd a
close_parts wrong a = absurd a

-- any other mark adds none
pub open_same : (q : State) → Alive (next q open_mark) → closed_parts (next q open_mark) ≡ closed_parts q
open_same (wants bs) a = append-nil (open_parts bs)
open_same (fresh b bs) a = append-nil (open_parts (b ∷ bs))
open_same (after b bs) a = absurd a
open_same (done g) a = absurd a
open_same wrong a = absurd a

pub bar_same : (q : State) → Alive (next q bar) → closed_parts (next q bar) ≡ closed_parts q
bar_same (wants bs) a = absurd a
bar_same (fresh (in_left ls) bs) a = ap (λ l. open_parts bs ++ l) (append-nil (parts_of_all ls))
bar_same (fresh (in_right ls rs) bs) a = absurd a
bar_same (after (in_left ls) bs) a = ap (λ l. open_parts bs ++ l) (append-nil (parts_of_all ls))
bar_same (after (in_right ls rs) bs) a = absurd a
bar_same (done g) a = absurd a
bar_same wrong a = absurd a

pub comma_same : (q : State) → Alive (next q comma) → closed_parts (next q comma) ≡ closed_parts q
comma_same (wants bs) a = absurd a
comma_same (fresh b bs) a = absurd a
comma_same (after b bs) a = refl
comma_same (done g) a = absurd a
comma_same wrong a = absurd a

-- what a mark adds
record Added (q : State) (m : Mark) : Type 0 where
  list : List Form
  is : closed_parts (next q m) ≡ closed_parts q ++ list
  many : length list ≡ closes (m ∷ [])

adds : (m : Mark) (q : State) → Alive (next q m) → Added q m
adds open_mark q a = record { list = []; is = open_same q a ∙ sym (append-nil (closed_parts q)); many = refl }
adds bar q a = record { list = []; is = bar_same q a ∙ sym (append-nil (closed_parts q)); many = refl }
adds comma q a = record { list = []; is = comma_same q a ∙ sym (append-nil (closed_parts q)); many = refl }
adds close_mark q a = record { list = closing q ∷ []; is = close_parts q a; many = refl }

-- a reader that is not wrong at the end was never wrong
pub alive_before : (q : State) (ms : List Mark) → Alive (run q ms) → Alive q
alive_before q ms a = elim (alive_dec q) [ inl x ↦ x | inr e ↦ absurd (subst Alive (ap (λ p. run p ms) e ∙ wrong_stays ms) a) ]

record AddedAll (q : State) (ms : List Mark) : Type 0 where
  list : List Form
  is : closed_parts (run q ms) ≡ closed_parts q ++ list
  many : length list ≡ closes ms

adds_all : (ms : List Mark) (q : State) → Alive (run q ms) → AddedAll q ms
adds_all [] q a = record { list = []; is = sym (append-nil (closed_parts q)); many = refl }
adds_all (m ∷ ms) q a =
    let x = adds m q (alive_before (next q m) ms a) in
    let y = adds_all ms (next q m) a in
    let l = length-append x.list y.list in
    let i = x.many in
    let j = y.many in
    let k = closes_more m ms in
    record { list = x.list ++ y.list; is = y.is ∙ (ap (λ l. l ++ y.list) x.is ∙ append_assoc (closed_parts q) x.list y.list); many = omega arith }
  where
    closes_more : (m : Mark) (ms : List Mark) → closes (m ∷ ms) ≡ closes (m ∷ []) + closes ms
    closes_more open_mark ms = omega arith
    closes_more bar ms = omega arith
    closes_more comma ms = omega arith
    closes_more close_mark ms = omega arith

-- The numbers of an open bracket's options so far: E says which numbers stand for which forms.
abbrev pub Frame : (List ℕ → Forms → Type 0) → Bracket → Lists → Type 0
Frame E (in_left ls) l = E l.left ls × (l.right ≡ [])
Frame E (in_right ls rs) l = E l.left ls × E l.right rs

abbrev pub Frames : (List ℕ → Forms → Type 0) → List Bracket → List Lists → Type 0
Frames E [] [] = Unit {0}
Frames E [] (l ∷ ls) = ⊥
Frames E (b ∷ bs) [] = ⊥
Frames E (b ∷ bs) (l ∷ ls) = Frame E b l × Frames E bs ls

frame_map : (E D : List ℕ → Forms → Type 0) → ((ns : List ℕ) (gs : Forms) → E ns gs → D ns gs) → (b : Bracket) (l : Lists) → Frame E b l → Frame D b l
frame_map E D h (in_left ls) l f = (h _ _ f.0, f.1)
frame_map E D h (in_right ls rs) l f = (h _ _ f.0, h _ _ f.1)

frames_map : (E D : List ℕ → Forms → Type 0) → ((ns : List ℕ) (gs : Forms) → E ns gs → D ns gs) → (bs : List Bracket) (ls : List Lists) → Frames E bs ls → Frames D bs ls
frames_map E D h [] [] f = tt
frames_map E D h [] (l ∷ ls) f = absurd f
frames_map E D h (b ∷ bs) [] f = absurd f
frames_map E D h (b ∷ bs) (l ∷ ls) f = (frame_map E D h b l f.0, frames_map E D h bs ls f.1)

module _ (E : List ℕ → Forms → Type 0) (none : E [] ∅) where
  pub frames_open : (q : State) (ls : List Lists) → Alive (next q open_mark) → Frames E (brackets q) ls → Frames E (brackets (next q open_mark)) (no_numbers ∷ ls)
  frames_open (wants bs) ls a f = ((none, refl), f)
  frames_open (fresh b bs) ls a f = ((none, refl), f)
  frames_open (after b bs) ls a f = absurd a
  frames_open (done g) ls a f = absurd a
  frames_open wrong ls a f = absurd a

  bracket_bar : (b : Bracket) (bs : List Bracket) (ls : List Lists) → Alive (next (fresh b bs) bar) → Frames E (b ∷ bs) ls → Frames E (brackets (next (fresh b bs) bar)) ls
  bracket_bar (in_left xs) bs [] a f = absurd f
  bracket_bar (in_left xs) bs (l ∷ ls) a f = ((f.0.0, subst (λ ns. E ns ∅) (sym f.0.1) none), f.1)
  bracket_bar (in_right xs ys) bs ls a f = absurd a

  pub frames_bar : (q : State) (ls : List Lists) → Alive (next q bar) → Frames E (brackets q) ls → Frames E (brackets (next q bar)) ls
  frames_bar (wants bs) ls a f = absurd a
  frames_bar (fresh b bs) ls a f = bracket_bar b bs ls a f
  frames_bar (after b bs) ls a f = bracket_bar b bs ls a f
  frames_bar (done g) ls a f = absurd a
  frames_bar wrong ls a f = absurd a

  pub frames_comma : (q : State) (ls : List Lists) → Alive (next q comma) → Frames E (brackets q) ls → Frames E (brackets (next q comma)) ls
  frames_comma (wants bs) ls a f = absurd a
  frames_comma (fresh b bs) ls a f = absurd a
  frames_comma (after b bs) ls a f = f
  frames_comma (done g) ls a f = absurd a
  frames_comma wrong ls a f = absurd a

module _ (E : List ℕ → Forms → Type 0) (n : ℕ) (g : Form) (push : (ns : List ℕ) (gs : Forms) → E ns gs → E (ns ++ n ∷ []) (gs ⧺ (g & ∅))) where
  frame_put : (b : Bracket) (l : Lists) → Frame E b l → Frame E (put g b) (put_number n b l)
  frame_put (in_left ls) l f = (push _ _ f.0, f.1)
  frame_put (in_right ls rs) l f = (f.0, push _ _ f.1)

  frames_put : (bs : List Bracket) (ls : List Lists) → Frames E bs ls → Frames E (brackets (finish g bs)) (put_outside n bs ls)
  frames_put [] ls f = f
  frames_put (b ∷ bs) [] f = absurd f
  frames_put (b ∷ bs) (l ∷ ls) f = (frame_put b l f.0, f.1)

  pub frames_close : (q : State) (l : Lists) (ls : List Lists) → closing q ≡ g → Alive (next q close_mark) → Frames E (brackets q) (l ∷ ls) → Frames E (brackets (next q close_mark)) (put_outside n (outside q) ls)
  frames_close (wants bs) l ls e a f = absurd a
  frames_close (fresh (in_left xs) bs) l ls e a f = absurd a
  frames_close (fresh (in_right xs ys) bs) l ls e a f = subst (λ h. Frames E (brackets (finish h bs)) (put_outside n bs ls)) (sym e) (frames_put bs ls f.1)
  frames_close (after (in_left xs) bs) l ls e a f = absurd a
  frames_close (after (in_right xs ys) bs) l ls e a f = subst (λ h. Frames E (brackets (finish h bs)) (put_outside n bs ls)) (sym e) (frames_put bs ls f.1)
  frames_close (done h) l ls e a f = absurd a
  frames_close wrong l ls e a f = absurd a

-- the numbers of the innermost bracket are those of its form's two lists
bracket_lists : (E : List ℕ → Forms → Type 0) (b : Bracket) (bs : List Bracket) (l : Lists) (ls : List Lists) → Alive (next (fresh b bs) close_mark) → Frames E (b ∷ bs) (l ∷ ls)
    → E l.left (lefts (whole b)) × E l.right (rights (whole b))
bracket_lists E (in_left xs) bs l ls a f = absurd a
bracket_lists E (in_right xs ys) bs l ls a f = f.0

pub closing_lists : (E : List ℕ → Forms → Type 0) (q : State) (l : Lists) (ls : List Lists) → Alive (next q close_mark) → Frames E (brackets q) (l ∷ ls)
    → E l.left (lefts (closing q)) × E l.right (rights (closing q))
closing_lists E (wants bs) l ls a f = absurd a
closing_lists E (fresh b bs) l ls a f = bracket_lists E b bs l ls a f
closing_lists E (after b bs) l ls a f = bracket_lists E b bs l ls a f
closing_lists E (done g) l ls a f = absurd a
closing_lists E wrong l ls a f = absurd a

-- the place of the closing bracket that stands after a
closing_at : (i : ℕ) (a rest : List ℕ) → get_or (closings i (a ++ 125 ∷ rest)) (times 125 a) 0 ≡ i + length a
closing_at i [] rest = omega arith
closing_at i (x ∷ a) rest = go (eqb 125 x) (closing_at (suc i) a rest)
  where
    go : (b : Bool) → get_or (closings (suc i) (a ++ 125 ∷ rest)) (times 125 a) 0 ≡ suc i + length a
        → get_or (cond b (i ∷ closings (suc i) (a ++ 125 ∷ rest)) (closings (suc i) (a ++ 125 ∷ rest))) (cond b (suc (times 125 a)) (times 125 a)) 0 ≡ i + suc (length a)
    go true e = e ∙ omega arith
    go false e = e ∙ omega arith

-- the text of a form is read to its end
done_is : (q : State) (g : Form) → result q ≡ some g → q ≡ done g
done_is (wants bs) g e = let z : ◌≡◌ {A = ℕ} 0 1 = cc in absurd (omega arith)
done_is (fresh b bs) g e = let z : ◌≡◌ {A = ℕ} 0 1 = cc in absurd (omega arith)
done_is (after b bs) g e = let z : ◌≡◌ {A = ℕ} 0 1 = cc in absurd (omega arith)
done_is (done h) g e = let same : h ≡ g = cc in ap done same
done_is wrong g e = let z : ◌≡◌ {A = ℕ} 0 1 = cc in absurd (omega arith)

pub text_at : (g : Form) → at (text g) ≡ done g
text_at g = done_is (at (text g)) g (text_done g)

text_alive : (g : Form) → Alive (at (text g))
text_alive g = subst Alive (sym (text_at g)) tt

text_parts : (g : Form) → parts g ≡ closed_parts (at (text g))
text_parts g = ap closed_parts (sym (text_at g))

-- the form of the last bracket is the whole form
last_bracket : (g : Form) (b : Bracket) (bs : List Bracket) → next (fresh b bs) close_mark ≡ done g → whole b ≡ g
last_bracket g (in_left xs) bs e = absurd (subst Alive (sym e) tt)
last_bracket g (in_right xs ys) [] e = cc
last_bracket g (in_right xs ys) (b ∷ bs) e = let z : ◌≡◌ {A = ℕ} 0 1 = cc in absurd (omega arith)

pub last_form : (g : Form) (q : State) → next q close_mark ≡ done g → closing q ≡ g
last_form g (wants bs) e = absurd (subst Alive (sym e) tt)
last_form g (fresh b bs) e = last_bracket g b bs e
last_form g (after b bs) e = last_bracket g b bs e
last_form g (done h) e = absurd (subst Alive (sym e) tt)
last_form g wrong e = absurd (subst Alive (sym e) tt)

-- A form's text before and after one of its closing brackets: the forms closed before it, and the bracket's place.
pub record Split (g : Form) (ms rest : List Mark) : Type 0 where
  pub alive : Alive (next (at ms) close_mark)
  pub behind : List Form
  pub split : parts g ≡ closed_parts (at ms) ++ closing (at ms) ∷ behind
  pub place : get_or (closings 0 (bytes g)) (length (closed_parts (at ms))) 0 ≡ length ms

pub split_at : (g : Form) (ms rest : List Mark) → text g ≡ ms ++ close_mark ∷ rest → Split g ms rest
split_at g ms rest e =
    let q = at ms in
    let whole_run : at (text g) ≡ run (next q close_mark) rest = ap at e ∙ run_++ (wants []) ms (close_mark ∷ rest) in
    let all_alive : Alive (run (next q close_mark) rest) = subst Alive whole_run (text_alive g) in
    let a : Alive (next q close_mark) = alive_before (next q close_mark) rest all_alive in
    let before = adds_all ms (wants []) (alive_before q (close_mark ∷ rest) all_alive) in
    let later = adds_all rest (next q close_mark) all_alive in
    let count : length (closed_parts q) ≡ closes ms = ap length before.is ∙ before.many in
    let b : bytes g ≡ map byte ms ++ 125 ∷ map byte rest = ap (map byte) e ∙ map-append byte ms (close_mark ∷ rest) in
    record {
      alive = a;
      behind = later.list;
      split = text_parts g ∙ (ap closed_parts whole_run ∙ (later.is ∙ (ap (λ gs. gs ++ later.list) (close_parts q a) ∙ append_assoc (closed_parts q) (closing q ∷ []) later.list)));
      place = ap₂ (λ i t. get_or (closings 0 t) i 0) count b ∙ (let h = closing_at 0 (map byte ms) (map byte rest) in let j = length-map ms byte in omega arith);
    }

-- The reader stands at q: the forms closed so far are sealed in turn, and the numbers of the open brackets are kept.
pub record ReadSoFar (c : ℕ) (begin : Rows) (q : State) (frames : List Lists) (rows : Rows) (es : List Entry) : Type 0 where
  pub turn : SealsInTurn c begin (closed_parts q) None rows es
  pub numbers : Frames (Equal rows) (brackets q) frames

pub read_begins : (c : ℕ) (rows : Rows) → ReadSoFar c rows (wants []) [] rows []
read_begins c rows = record { turn = SealsInTurn.done; numbers = tt }

module _ {c : ℕ} {begin rows : Rows} {es : List Entry} where
  moved : (q p : State) (ls ks : List Lists) → closed_parts p ≡ closed_parts q → Frames (Equal rows) (brackets p) ks → ReadSoFar c begin q ls rows es → ReadSoFar c begin p ks rows es
  moved q p ls ks e f x = record { turn = subst (λ gs. SealsInTurn c begin gs None rows es) (sym e) x.turn; numbers = f }

  pub read_opens : (q : State) (ls : List Lists) → Alive (next q open_mark) → ReadSoFar c begin q ls rows es → ReadSoFar c begin (next q open_mark) (no_numbers ∷ ls) rows es
  read_opens q ls a x = moved q (next q open_mark) ls (no_numbers ∷ ls) (open_same q a) (frames_open (Equal rows) none_left q ls a x.numbers) x

  pub read_bars : (q : State) (ls : List Lists) → Alive (next q bar) → ReadSoFar c begin q ls rows es → ReadSoFar c begin (next q bar) ls rows es
  read_bars q ls a x = moved q (next q bar) ls ls (bar_same q a) (frames_bar (Equal rows) none_left q ls a x.numbers) x

  pub read_commas : (q : State) (ls : List Lists) → Alive (next q comma) → ReadSoFar c begin q ls rows es → ReadSoFar c begin (next q comma) ls rows es
  read_commas q ls a x = moved q (next q comma) ls ls (comma_same q a) (frames_comma (Equal rows) none_left q ls a x.numbers) x

  seal_closing : (q : State) (l : Lists) (ls : List Lists) (r : Answer ℕ) (d : Rows) → Alive (next q close_mark) → ReadSoFar c begin q (l ∷ ls) rows es → SealsNumbers c rows l r d → Seals c rows (closing q) r d
  seal_closing q l ls r d a x s = let f = closing_lists (Equal rows) q l ls a x.numbers in (sealing_goes_by_numbers c rows d r l (closing q) f.0 f.1).0 s

  -- a closing bracket is sealed
  pub read_closes : (q : State) (l : Lists) (ls : List Lists) (n : ℕ) (d : Rows) → Alive (next q close_mark) → ReadSoFar c begin q (l ∷ ls) rows es → SealsNumbers c rows l (told n) d
      → ReadSoFar c begin (next q close_mark) (put_outside n (outside q) ls) d (entry n (closing q) ∷ es)
  read_closes q l ls n d a x s =
      let t = seal_closing q l ls (told n) d a x s in
      let g = seals_grows t in
      let z = g.right (entry n (closing q)) first in
      record {
        turn = subst (λ gs. SealsInTurn c begin gs None d (entry n (closing q) ∷ es)) (sym (close_parts q a)) (turn_snoc x.turn t);
        numbers = frames_close (Equal d) n (closing q) (λ ns gs e. equal_push e z.inside z.equals) q l ls refl a
            (frames_map (Equal rows) (Equal d) (λ ns gs e. equal_extends g.extends e) (brackets q) (l ∷ ls) x.numbers);
      }

  -- the last one is the whole form's
  pub read_ends : (q : State) (l : Lists) (g : Form) (n : ℕ) (d : Rows) (ps : List ℕ) → next q close_mark ≡ done g → ReadSoFar c begin q (l ∷ []) rows es → SealsNumbers c rows l (told n) d
      → Enters c begin g ps (told n) d (entry n g ∷ es)
  read_ends q l g n d ps e x s =
      let a : Alive (next q close_mark) = subst Alive (sym e) tt in
      let y = (read_closes q l [] n d a x s).turn in
      accepted (subst (λ f. SealsInTurn c begin (parts g) None d (entry n f ∷ es)) (last_form g q e) (subst (λ p. SealsInTurn c begin (closed_parts p) None d (entry n (closing q) ∷ es)) e y))

  -- a closing bracket whose seal is refused ends the reading, and names its place
  pub read_refused : (g : Form) (ms rest : List Mark) (l : Lists) (ls : List Lists) (k : ℕ) (d : Rows) → text g ≡ ms ++ close_mark ∷ rest → ReadSoFar c begin (at ms) (l ∷ ls) rows es → SealsNumbers c rows l (refused k) d
      → Enters c begin g (closings 0 (bytes g)) (refused_at k (length ms)) d es
  read_refused g ms rest l ls k d e x s =
      let q = at ms in
      let y = split_at g ms rest e in
      let t = seal_closing q l ls (refused k) d y.alive x s in
      let same : d ≡ rows = refused_same t in
      let u : SealsInTurn c begin (closed_parts q ++ closing q ∷ y.behind) (Some k) rows es =
      turn_then x.turn (SealsInTurn.stop (subst (λ z. Seals c rows (closing q) (refused k) z) same t)) in
      let v : SealsInTurn c begin (parts g) (Some k) d es = subst₂ (λ gs z. SealsInTurn c begin gs (Some k) z es) (sym y.split) (sym same) u in
      let place : place_after es (closings 0 (bytes g)) ≡ length ms = ap (λ i. get_or (closings 0 (bytes g)) i 0) (turn_length x.turn) ∙ y.place in
      subst (λ p. Enters c begin g (closings 0 (bytes g)) (refused_at k p) d es) place (ended v)
