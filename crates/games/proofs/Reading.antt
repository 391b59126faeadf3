-- Reading undoes writing: the machine gives back the form of a form's text, and accepts no other text.
-- Assumes nothing.
use Rattle.std.proofs.Common.{◌≡◌, List, [], ◌∷◌, ◌++◌, sym, refl, ap, ◌∙◌, append_assoc, append-nil}
use mathlib.Core.Option.{some}
use Rattle.games.specs.Form.{Form, Forms, form, ∅, ◌&◌, ◌⧺◌}
use Rattle.games.specs.Text.{Mark, open_mark, bar, close_mark, comma, text, texts, more}
use Rattle.games.specs.Reader.{Bracket, in_left, in_right, State, wants, fresh, after, done, wrong, put, finish, end_left, end_right, next, run}
use Rattle.games.proofs.Reader.{result, read}

pub run_++ : (q : State) (a b : List Mark) → run q (a ++ b) ≡ run (run q a) b
run_++ q [] b = refl
run_++ q (m ∷ a) b = run_++ (next q m) a b

⧺_nil : (xs : Forms) → xs ⧺ ∅ ≡ xs
⧺_nil ∅ = refl
⧺_nil (x & xs) = ap (λ t. x & t) (⧺_nil xs)

⧺_assoc : (xs ys zs : Forms) → (xs ⧺ ys) ⧺ zs ≡ xs ⧺ (ys ⧺ zs)
⧺_assoc ∅ ys zs = refl
⧺_assoc (x & xs) ys zs = ap (λ t. x & t) (⧺_assoc xs ys zs)

-- puts a list's forms into a bracket
abbrev put_all : Forms → Bracket → Bracket
put_all gs (in_left ls) = in_left (ls ⧺ gs)
put_all gs (in_right ls rs) = in_right ls (rs ⧺ gs)

put_all_nil : (b : Bracket) → put_all ∅ b ≡ b
put_all_nil (in_left ls) = ap in_left (⧺_nil ls)
put_all_nil (in_right ls rs) = ap (in_right ls) (⧺_nil rs)

put_all_cons : (g : Form) (gs : Forms) (b : Bracket) → put_all gs (put g b) ≡ put_all (g & gs) b
put_all_cons g gs (in_left ls) = ap in_left (⧺_assoc ls (g & ∅) gs)
put_all_cons g gs (in_right ls rs) = ap (in_right ls) (⧺_assoc rs (g & ∅) gs)

-- where the reader stands after the forms of a list
abbrev then : Forms → Bracket → List Bracket → State
then ∅ b bs = fresh b bs
then (g & gs) b bs = after (put_all (g & gs) b) bs

then_bar : (ls : Forms) (bs : List Bracket) → next (then ls (in_left ∅) bs) bar ≡ fresh (in_right ls ∅) bs
then_bar ∅ bs = refl
then_bar (l & ls) bs = refl

then_close : (ls rs : Forms) (bs : List Bracket) → next (then rs (in_right ls ∅) bs) close_mark ≡ finish (form ls rs) bs
then_close ls ∅ bs = refl
then_close ls (r & rs) bs = refl

-- the reader takes in a form's text, from where a form can begin; a list's; and a list's after a first form
mutual
  run_form : (g : Form) (q : State) (bs : List Bracket) → next q open_mark ≡ fresh (in_left ∅) bs → run q (text g) ≡ finish g bs
  run_form (form ls rs) q bs e =
      ap (λ p. run p (texts ls ++ (bar ∷ (texts rs ++ (close_mark ∷ []))))) e
      ∙ run_++ (fresh (in_left ∅) bs) (texts ls) (bar ∷ (texts rs ++ (close_mark ∷ [])))
      ∙ ap (λ p. run (next p bar) (texts rs ++ (close_mark ∷ []))) (run_texts ls (in_left ∅) bs)
      ∙ ap (λ p. run p (texts rs ++ (close_mark ∷ []))) (then_bar ls bs)
      ∙ run_++ (fresh (in_right ls ∅) bs) (texts rs) (close_mark ∷ [])
      ∙ ap (λ p. next p close_mark) (run_texts rs (in_right ls ∅) bs)
      ∙ then_close ls rs bs

  run_texts : (gs : Forms) (b : Bracket) (bs : List Bracket) → run (fresh b bs) (texts gs) ≡ then gs b bs
  run_texts ∅ b bs = refl
  run_texts (g & gs) b bs =
      run_++ (fresh b bs) (text g) (more gs)
      ∙ ap (λ p. run p (more gs)) (run_form g (fresh b bs) (b ∷ bs) refl)
      ∙ run_more gs (put g b) bs
      ∙ ap (λ c. after c bs) (put_all_cons g gs b)

  run_more : (gs : Forms) (b : Bracket) (bs : List Bracket) → run (after b bs) (more gs) ≡ after (put_all gs b) bs
  run_more ∅ b bs = ap (λ c. after c bs) (sym (put_all_nil b))
  run_more (g & gs) b bs =
      run_++ (wants (b ∷ bs)) (text g) (more gs)
      ∙ ap (λ p. run p (more gs)) (run_form g (wants (b ∷ bs)) (b ∷ bs) refl)
      ∙ run_more gs (put g b) bs
      ∙ ap (λ c. after c bs) (put_all_cons g gs b)

-- reading a form's text gives the form
pub read_text : (g : Form) → read (text g) ≡ some g
unfolding read
read_text g = ap result (run_form g (wants []) [] refl)

-- The other way: what the machine has taken in so far is the text of where it stands.

-- the forms of the list that is being read
abbrev current : Bracket → Forms
current (in_left ls) = ls
current (in_right ls rs) = rs

-- the text of an open bracket, and a comma if a further form is to follow one
abbrev opened : Bracket → List Mark
opened (in_left ls) = open_mark ∷ texts ls
opened (in_right ls rs) = open_mark ∷ (texts ls ++ (bar ∷ texts rs))

abbrev sep : Forms → List Mark
sep ∅ = []
sep (x & xs) = comma ∷ []

abbrev outer : List Bracket → List Mark
outer [] = []
outer (b ∷ bs) = outer bs ++ (opened b ++ sep (current b))

abbrev Taken : State → List Mark → Type 0
Taken (wants bs) t = outer bs ≡ t
Taken (fresh b bs) t = (sep (current b) ≡ []) × (outer bs ++ opened b ≡ t)
Taken (after b bs) t = (sep (current b) ≡ comma ∷ []) × (outer bs ++ opened b ≡ t)
Taken (done g) t = text g ≡ t
Taken wrong t = Unit {0}

-- one more form at the end of a list
more_snoc : (xs : Forms) (g : Form) → more (xs ⧺ (g & ∅)) ≡ more xs ++ (comma ∷ text g)
more_snoc ∅ g = ap (λ t. comma ∷ t) (append-nil (text g))
more_snoc (x & xs) g = ap (λ t. comma ∷ (text x ++ t)) (more_snoc xs g) ∙ ap (λ t. comma ∷ t) (sym (append_assoc (text x) (more xs) (comma ∷ text g)))

texts_snoc : (xs : Forms) (g : Form) → texts (xs ⧺ (g & ∅)) ≡ texts xs ++ (sep xs ++ text g)
texts_snoc ∅ g = append-nil (text g)
texts_snoc (x & xs) g = ap (λ t. text x ++ t) (more_snoc xs g) ∙ sym (append_assoc (text x) (more xs) (comma ∷ text g))

sep_snoc : (xs : Forms) (g : Form) → sep (xs ⧺ (g & ∅)) ≡ comma ∷ []
sep_snoc ∅ g = refl
sep_snoc (x & xs) g = refl

sep_put : (g : Form) (b : Bracket) → sep (current (put g b)) ≡ comma ∷ []
sep_put g (in_left ls) = sep_snoc ls g
sep_put g (in_right ls rs) = sep_snoc rs g

opened_put : (g : Form) (b : Bracket) → opened (put g b) ≡ opened b ++ (sep (current b) ++ text g)
opened_put g (in_left ls) = ap (λ t. open_mark ∷ t) (texts_snoc ls g)
opened_put g (in_right ls rs) =
    ap (λ t. open_mark ∷ (texts ls ++ (bar ∷ t))) (texts_snoc rs g)
    ∙ ap (λ t. open_mark ∷ t) (sym (append_assoc (texts ls) (bar ∷ texts rs) (sep rs ++ text g)))

-- what each kind of step takes in
taken_finish : (g : Form) (bs : List Bracket) (t : List Mark) → outer bs ++ text g ≡ t → Taken (finish g bs) t
taken_finish g [] t e = e
taken_finish g (b ∷ bs) t e = (sep_put g b, rw (opened_put g b) (simp append_assoc at e))

taken_bar : (b : Bracket) (bs : List Bracket) (t : List Mark) → outer bs ++ opened b ≡ t → Taken (end_left b bs) (t ++ (bar ∷ []))
taken_bar (in_left ls) bs t e = (refl, rw (← e) (simp append_assoc))
taken_bar (in_right ls rs) bs t e = tt

taken_close : (b : Bracket) (bs : List Bracket) (t : List Mark) → outer bs ++ opened b ≡ t → Taken (end_right b bs) (t ++ (close_mark ∷ []))
taken_close (in_left ls) bs t e = tt
taken_close (in_right ls rs) bs t e = taken_finish (form ls rs) bs (t ++ (close_mark ∷ [])) (rw (← e) (simp append_assoc))

taken_next : (q : State) (m : Mark) (t : List Mark) → Taken q t → Taken (next q m) (t ++ (m ∷ []))
taken_next (wants bs) open_mark t e = (refl, ap (λ u. u ++ (open_mark ∷ [])) e)
taken_next (wants bs) bar t e = tt
taken_next (wants bs) close_mark t e = tt
taken_next (wants bs) comma t e = tt
taken_next (fresh b bs) open_mark t e = (refl, rw (e.0, append-nil, e.1))
taken_next (fresh b bs) bar t e = taken_bar b bs t e.1
taken_next (fresh b bs) close_mark t e = taken_close b bs t e.1
taken_next (fresh b bs) comma t e = tt
taken_next (after b bs) open_mark t e = tt
taken_next (after b bs) bar t e = taken_bar b bs t e.1
taken_next (after b bs) close_mark t e = taken_close b bs t e.1
taken_next (after b bs) comma t e = rw (e.0, ← e.1) (simp append_assoc)
taken_next (done g) m t e = tt
taken_next wrong m t e = tt

taken_run : (q : State) (ms t : List Mark) → Taken q t → Taken (run q ms) (t ++ ms)
taken_run q [] t e = rw append-nil e
taken_run q (m ∷ ms) t e = rw (append_assoc t (m ∷ []) ms) at (taken_run (next q m) ms (t ++ (m ∷ [])) (taken_next q m t e))

taken_result : (q : State) (t : List Mark) (g : Form) → Taken q t → result q ≡ some g → text g ≡ t
taken_result (wants bs) t g e r = cc
taken_result (fresh b bs) t g e r = cc
taken_result (after b bs) t g e r = cc
taken_result (done h) t g e r = let k : h ≡ g = cc in rw (← k) e
taken_result wrong t g e r = cc

-- a text that is read is the text of what is read
pub text_read : (t : List Mark) (g : Form) → read t ≡ some g → text g ≡ t
unfolding read
text_read t g r = taken_result (run (wants []) t) t g (taken_run (wants []) t [] refl) r
