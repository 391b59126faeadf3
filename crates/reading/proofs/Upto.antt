-- The marks of a form's text in turn: where the machine stands, and what each mark does to the open brackets.
-- Assumes nothing.
use Rattle.std.proofs.Common.{◌≡◌, ℕ, ◌+◌, ◌<◌, ◌≤◌, List, [], ◌∷◌, ◌++◌, map, length, get_or, take, drop, Some, Ok, Err, Result, sym, refl, ap, ◌∙◌, subst, arith}
use Rattle.std.specs.Prelude.{IsOk}
use Rattle.std.proofs.lemmas.List.{length-map, length-take, take-map, take_all, take_more, drop_more, take-append-drop, get_or-map}
use Rattle.games.specs.Form.{Form, Forms, ∅}
use Rattle.games.specs.Text.{open_mark, bar, close_mark, comma, byte, text}
use Rattle.games.specs.Text
use Rattle.games.specs.Reader.{Bracket, in_left, in_right, State, wants, fresh, after, done, wrong, finish, next, run, brackets, outside, Alive, at}
use Rattle.games.proofs.Reading.{run_++}
use Rattle.games.proofs.Text.{mark, mark_byte}
use Rattle.calls.specs.Texts.{nesting, Written}
use Rattle.calls.proofs.Bracketed.{closing, alive_before, text_at}
use Rattle.calls.proofs.Scanned.{at_more, nesting_is}
use Rattle.reading.specs.declared.mark.Mark.{Mark}
use Rattle.reading.specs.declared.mark.NoMark.{NoMark}
use Rattle.reading.specs.Marks.{Marks, meant, mark_of}
use Rattle.reading.proofs.Marked.{mark_is, no_mark_is}

-- where the machine stands after i marks of g's text
abbrev pub upto : Form → ℕ → State
upto g i = at (take i (text g))

-- the mark at place i of g's text
pub record There (g : Form) (i : ℕ) (m : Text.Mark) : Type 0 where
  pub moves_on : upto g (i + 1) ≡ next (upto g i) m
  pub alive : Alive (next (upto g i) m)
  pub few : length (brackets (next (upto g i) m)) ≤ 96
  pub split : text g ≡ take i (text g) ++ m ∷ drop (i + 1) (text g)

module _ (g : Form) (t : List ℕ) (w : Written t g) where
  upto_alive : (i : ℕ) → Alive (upto g i)
  upto_alive i =
      let e : at (text g) ≡ run (upto g i) (drop i (text g)) = ap at (sym (take-append-drop i (text g))) ∙ run_++ (wants []) (take i (text g)) (drop i (text g)) in
      alive_before (upto g i) (drop i (text g)) (subst Alive (sym (text_at g) ∙ e) tt)

  upto_few : (i : ℕ) → length (brackets (upto g i)) ≤ 96
  upto_few i =
      let n = nesting_is (take i (text g)) (upto_alive i) in
      let e : take i t ≡ map byte (take i (text g)) = ap (take i) (sym w.by_form) ∙ take-map byte i (text g) in
      let h = ap nesting e in
      let k = w.shallow i in
      omega arith

  same_length : length t ≡ length (text g)
  same_length = ap length (sym w.by_form) ∙ length-map (text g) byte

  module _ (i : ℕ) (inside : i < length t) where
    abbrev here : Text.Mark
    here = get_or (text g) i open_mark

    within : i < length (text g)
    within = let l = same_length in omega arith

    byte_here : get_or t i 0 ≡ byte here
    byte_here = ap (λ u. get_or u i 0) (sym w.by_form) ∙ get_or-map byte (text g) i open_mark 0 within

    there_here : There g i here
    there_here =
        let on : upto g (i + 1) ≡ next (upto g i) here = ap at (take_more (text g) i open_mark within) ∙ at_more (take i (text g)) here in
        record {
          moves_on = on;
          alive = subst Alive on (upto_alive (i + 1));
          few = subst (λ q. length (brackets q) ≤ 96) on (upto_few (i + 1));
          split = sym (take-append-drop i (text g)) ∙ ap (λ r. take i (text g) ++ r) (drop_more (text g) i open_mark within);
        }

    -- the code's mark is the text's
    pub there : (k : Mark) → Some k ≡ mark_of (get_or t i 0) → There g i (meant k)
    there k e =
        let a = mark_byte (meant k) in
        let b = mark_byte here in
        let c = ap mark (mark_is (get_or t i 0) k e ∙ byte_here) in
        let s : here ≡ meant k = cc in
        subst (There g i) s there_here

    pub some_mark : (r : Result Mark NoMark) → Marks (get_or t i 0) r → IsOk r
    some_mark (Ok m) e = refl
    some_mark (Err f) e = absurd (no_mark_is (get_or t i 0) e here (sym byte_here))

    -- and so it is where the byte is converted
    pub there_is : (r : Result Mark NoMark) → Marks (get_or t i 0) r → (k l : Mark) → r ≡ Ok k → k ≡ l → There g i (meant l)
    there_is r e k l is same = subst (λ m. There g i (meant m)) same (there k (subst (Marks (get_or t i 0)) is e))

-- what each mark does to the open brackets
pub opened : (q : State) → Alive (next q open_mark) → brackets (next q open_mark) ≡ in_left ∅ ∷ brackets q
opened (wants bs) a = refl
opened (fresh b bs) a = refl
opened (after b bs) a = absurd a
opened (done g) a = absurd a
opened wrong a = absurd a

pub record Barred (q : State) : Type 0 where
  pub lefts : Forms
  pub was : brackets q ≡ in_left lefts ∷ outside q
  pub is : brackets (next q bar) ≡ in_right lefts ∅ ∷ outside q

pub barred : (q : State) → Alive (next q bar) → Barred q
barred (wants bs) a = absurd a
barred (fresh (in_left ls) bs) a = record { lefts = ls; was = refl; is = refl }
barred (fresh (in_right ls rs) bs) a = absurd a
barred (after (in_left ls) bs) a = record { lefts = ls; was = refl; is = refl }
barred (after (in_right ls rs) bs) a = absurd a
barred (done g) a = absurd a
barred wrong a = absurd a

pub comma_same : (q : State) → Alive (next q comma) → brackets (next q comma) ≡ brackets q
comma_same (wants bs) a = absurd a
comma_same (fresh b bs) a = absurd a
comma_same (after b bs) a = refl
comma_same (done g) a = absurd a
comma_same wrong a = absurd a

pub record Shut (q : State) : Type 0 where
  pub inner : Bracket
  pub was : brackets q ≡ inner ∷ outside q
  pub is : next q close_mark ≡ finish (closing q) (outside q)

pub shut : (q : State) → Alive (next q close_mark) → Shut q
shut (wants bs) a = absurd a
shut (fresh (in_left ls) bs) a = absurd a
shut (fresh (in_right ls rs) bs) a = record { inner = in_right ls rs; was = refl; is = refl }
shut (after (in_left ls) bs) a = absurd a
shut (after (in_right ls rs) bs) a = record { inner = in_right ls rs; was = refl; is = refl }
shut (done g) a = absurd a
shut wrong a = absurd a

-- only a closing bracket ends the text
pub not_open : (q : State) (g : Form) → next q open_mark ≡ done g → ⊥
not_open (wants bs) g e = let z : ◌≡◌ {A = ℕ} 0 1 = cc in omega arith
not_open (fresh b bs) g e = let z : ◌≡◌ {A = ℕ} 0 1 = cc in omega arith
not_open (after b bs) g e = let z : ◌≡◌ {A = ℕ} 0 1 = cc in omega arith
not_open (done h) g e = let z : ◌≡◌ {A = ℕ} 0 1 = cc in omega arith
not_open wrong g e = let z : ◌≡◌ {A = ℕ} 0 1 = cc in omega arith

pub not_bar : (q : State) (g : Form) → next q bar ≡ done g → ⊥
not_bar (wants bs) g e = let z : ◌≡◌ {A = ℕ} 0 1 = cc in omega arith
not_bar (fresh (in_left ls) bs) g e = let z : ◌≡◌ {A = ℕ} 0 1 = cc in omega arith
not_bar (fresh (in_right ls rs) bs) g e = let z : ◌≡◌ {A = ℕ} 0 1 = cc in omega arith
not_bar (after (in_left ls) bs) g e = let z : ◌≡◌ {A = ℕ} 0 1 = cc in omega arith
not_bar (after (in_right ls rs) bs) g e = let z : ◌≡◌ {A = ℕ} 0 1 = cc in omega arith
not_bar (done h) g e = let z : ◌≡◌ {A = ℕ} 0 1 = cc in omega arith
not_bar wrong g e = let z : ◌≡◌ {A = ℕ} 0 1 = cc in omega arith

pub not_comma : (q : State) (g : Form) → next q comma ≡ done g → ⊥
not_comma (wants bs) g e = let z : ◌≡◌ {A = ℕ} 0 1 = cc in omega arith
not_comma (fresh b bs) g e = let z : ◌≡◌ {A = ℕ} 0 1 = cc in omega arith
not_comma (after b bs) g e = let z : ◌≡◌ {A = ℕ} 0 1 = cc in omega arith
not_comma (done h) g e = let z : ◌≡◌ {A = ℕ} 0 1 = cc in omega arith
not_comma wrong g e = let z : ◌≡◌ {A = ℕ} 0 1 = cc in omega arith

pub finish_last : (h g : Form) (bs : List Bracket) → finish h bs ≡ done g → bs ≡ []
finish_last h g [] e = refl
finish_last h g (b ∷ bs) e = let z : ◌≡◌ {A = ℕ} 0 1 = cc in absurd (omega arith)

module _ (g : Form) (i : ℕ) where
  pub some_room : There g i open_mark → length (brackets (upto g i)) < 96
  some_room x = let e = ap length (opened (upto g i) x.alive) in let k = x.few in omega arith

-- at the end of the text the machine has read it
pub upto_end : (g : Form) (t : List ℕ) → Written t g → (i : ℕ) → length t ≤ i → upto g i ≡ done g
upto_end g t w i h = let l = same_length g t w in ap at (take_all i (text g) (omega arith)) ∙ text_at g

pub length_upto : (g : Form) (t : List ℕ) → Written t g → (i : ℕ) → i < length t → length (take i (text g)) ≡ i
length_upto g t w i h = let l = same_length g t w in length-take i (text g) ∙ omega arith
