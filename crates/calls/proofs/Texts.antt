-- A text is a form's, nested at most 96 deep, or it has a fault, and one only.
-- Assumes nothing.
use Rattle.std.proofs.Common.{◌≡◌, ℕ, zero, suc, ◌+◌, ◌<◌, ◌≤◌, Bool, true, false, cond, eqb, ◌⊎◌, List, [], ◌∷◌, ◌++◌, map, length, take, drop, sym, refl, ap, ◌∙◌, subst, ap₂, inl, inr, append_assoc, append-nil, arith}
use mathlib.Core.Option.{none, some}
use native.Mathlib.Decide.{dec_lt, dec_le, ℕ_discrete}
use Rattle.std.proofs.lemmas.List.{take-append-drop, take-take, take_at, take-append-le, take_all, length-append, map-append}
use Rattle.games.specs.Form.{Form, Forms, form, ∅, ◌&◌}
use Rattle.games.specs.Text.{Mark, open_mark, bar, close_mark, comma, byte, text, texts, more, bytes}
use Rattle.games.specs.Reader.{Bracket, in_left, in_right, State, wants, fresh, after, done, wrong, put, finish, run, Alive, at}
use Rattle.games.proofs.Reader.{result, read}
use Rattle.games.proofs.Reading.{run_++, read_text, text_read}
use Rattle.games.proofs.Text.{map_byte_injective}
use Rattle.calls.specs.Entering.{parts, parts_of_all}
use Rattle.calls.specs.Texts.{times, nesting, Shallow, Written, GoesOn, closings, Fault, wrong_byte, early_end, too_deep}

-- a prefix goes on too, and nests no deeper
goes_front : (t : List ℕ) (i : ℕ) → GoesOn t → GoesOn (take i t)
goes_front t i (g, rest, e) = (g, drop i t ++ rest, e ∙ (ap (λ u. u ++ rest) (sym (take-append-drop i t)) ∙ append_assoc (take i t) (drop i t) rest))

goes_less : (t : List ℕ) (i j : ℕ) → i ≤ j → GoesOn (take j t) → GoesOn (take i t)
goes_less t i j l x = subst GoesOn (take-take i j t l) (goes_front (take j t) i x)

nests_less : (t : List ℕ) (i j : ℕ) → i ≤ j → Shallow (take j t) → nesting (take i t) ≤ 96
nests_less t i j l s = subst (λ u. nesting u ≤ 96) (take-take i j t l) (s i)

pub fault_one : {t : List ℕ} {f f' i i' : ℕ} → Fault t f i → Fault t f' i' → (f ≡ f') × (i ≡ i')
fault_one {t} (wrong_byte i l s g n) (wrong_byte j m s' g' n') = (refl, same (dec_lt i j) (dec_lt j i))
  where
    same : Dec (i < j) → Dec (j < i) → i ≡ j
    same (yes p) d = absurd (n (goes_less t (suc i) j p g'))
    same (no p) (yes q) = absurd (n' (goes_less t (suc j) i q g))
    same (no p) (no q) = omega arith
fault_one {t} (wrong_byte i l s g n) (early_end s' g' n') = absurd (n (goes_front t (suc i) g'))
fault_one {t} (wrong_byte i l s g n) (too_deep j m s' g' d) = elim (dec_lt j i) [
  | yes p ↦ let k = nests_less t (suc j) i p s in absurd (omega arith)
  | no p ↦ absurd (n (goes_less t (suc i) (suc j) (omega arith) g'))
]
fault_one {t} (early_end s g n) (wrong_byte j m s' g' n') = absurd (n' (goes_front t (suc j) g))
fault_one (early_end s g n) (early_end s' g' n') = (refl, refl)
fault_one (early_end s g n) (too_deep j m s' g' d) = let k = s (suc j) in absurd (omega arith)
fault_one {t} (too_deep i l s g d) (wrong_byte j m s' g' n') = elim (dec_lt i j) [
  | yes p ↦ let k = nests_less t (suc i) j p s' in absurd (omega arith)
  | no p ↦ absurd (n' (goes_less t (suc j) (suc i) (omega arith) g))
]
fault_one (too_deep i l s g d) (early_end s' g' n') = let k = s' (suc i) in absurd (omega arith)
fault_one {t} (too_deep i l s g d) (too_deep j m s' g' d') = (refl, same (dec_lt i j) (dec_lt j i))
  where
    same : Dec (i < j) → Dec (j < i) → i ≡ j
    same (yes p) x = let k = nests_less t (suc i) j p s' in absurd (omega arith)
    same (no p) (yes q) = let k = nests_less t (suc j) i q s in absurd (omega arith)
    same (no p) (no q) = omega arith

pub no_fault : {t : List ℕ} {f place : ℕ} (g : Form) → Written t g → Fault t f place → ⊥
no_fault {t} g w (wrong_byte i l h p q) = q (goes_front t (suc i) (g, [], w.by_form ∙ sym (append-nil t)))
no_fault g w (early_end h p q) = q g w.by_form
no_fault g w (too_deep i l h p q) = let k = w.shallow (suc i) in omega arith

-- the reader can go on from where it stands, unless it is wrong
abbrev Completes : State → Type 0
Completes q = (ms : List Mark) × (g : Form) × (run q ms ≡ done g)

close_it : (b : Bracket) (bs : List Bracket) → ((h : Form) → Completes (finish h bs)) → Completes (after b bs) × Completes (fresh b bs)
close_it (in_left ls) bs f = let (ms, g, e) = f (form ls ∅) in ((bar ∷ close_mark ∷ ms, g, e), (bar ∷ close_mark ∷ ms, g, e))
close_it (in_right ls rs) bs f = let (ms, g, e) = f (form ls rs) in ((close_mark ∷ ms, g, e), (close_mark ∷ ms, g, e))

completes_finish : (bs : List Bracket) (g : Form) → Completes (finish g bs)
completes_finish [] g = ([], g, refl)
completes_finish (b ∷ bs) g = (close_it (put g b) bs (completes_finish bs)).0

pub alive_dec : (q : State) → Alive q ⊎ (q ≡ wrong)
alive_dec (wants bs) = inl tt
alive_dec (fresh b bs) = inl tt
alive_dec (after b bs) = inl tt
alive_dec (done g) = inl tt
alive_dec wrong = inr refl

completes : (q : State) → Alive q → Completes q
completes (wants bs) a = let (ms, g, e) = (close_it (in_left ∅) bs (completes_finish bs)).1 in (open_mark ∷ ms, g, e)
completes (fresh b bs) a = (close_it b bs (completes_finish bs)).1
completes (after b bs) a = (close_it b bs (completes_finish bs)).0
completes (done g) a = ([], g, refl)
completes wrong a = absurd a

pub read_done : (ms : List Mark) (g : Form) → at ms ≡ done g → text g ≡ ms
unfolding read
read_done ms g e = text_read ms g (ap result e)

pub text_done : (g : Form) → result (at (text g)) ≡ some g
unfolding read
text_done g = read_text g

pub goes_on : (ms : List Mark) → Alive (at ms) → GoesOn (map byte ms)
goes_on ms a =
    let (rest, g, e) = completes (at ms) a in
    let t = read_done (ms ++ rest) g (run_++ (wants []) ms rest ∙ e) in
    (g, map byte rest, ap (map byte) t ∙ map-append byte ms rest)

-- and where it is wrong, no form goes on
pub wrong_stays : (ms : List Mark) → run wrong ms ≡ wrong
wrong_stays [] = refl
wrong_stays (m ∷ ms) = wrong_stays ms

split_map : (xs : List Mark) (ys zs : List ℕ) → map byte xs ≡ ys ++ zs → (us : List Mark) × (vs : List Mark) × (xs ≡ us ++ vs) × (map byte us ≡ ys) × (map byte vs ≡ zs)
split_map xs [] zs e = ([], xs, refl, refl, e)
split_map [] (y ∷ ys) zs e = let z : ◌≡◌ {A = ℕ} 0 1 = cc in absurd (omega arith)
split_map (x ∷ xs) (y ∷ ys) zs e =
    let p : byte x ≡ y = cc in
    let q : map byte xs ≡ ys ++ zs = cc in
    let (us, vs, u, v, w) = split_map xs ys zs q in
    (x ∷ us, vs, ap (λ l. x ∷ l) u, ap₂ ◌∷◌ p v, w)

goes_marks : (t : List ℕ) → GoesOn t → (ms : List Mark) × (map byte ms ≡ t) × Alive (at ms)
goes_marks t (g, rest, e) =
    let (us, vs, u, v, w) = split_map (text g) t rest e in
    (us, v, alive us vs (ap (λ l. result (at l)) (sym u) ∙ text_done g))
  where
    alive : (us vs : List Mark) → result (at (us ++ vs)) ≡ some g → Alive (at us)
    alive us vs r = elim (alive_dec (at us)) [
      | inl a ↦ a
      | inr w ↦
          let x : at (us ++ vs) ≡ wrong = run_++ (wants []) us vs ∙ (ap (λ q. run q vs) w ∙ wrong_stays vs) in
          let y = ap result x in
          let z : ◌≡◌ {A = ℕ} 0 1 = cc in absurd (omega arith)
    ]

-- nesting
times_push : (x : ℕ) (t : List ℕ) (y : ℕ) → (times x t ≤ times x (t ++ y ∷ [])) × (times x (t ++ y ∷ []) ≤ suc (times x t))
times_push x [] y = one (eqb x y)
  where
    one : (b : Bool) → (0 ≤ cond b 1 0) × (cond b 1 0 ≤ 1)
    one true = omega arith
    one false = omega arith
times_push x (z ∷ t) y = more (eqb x z) (times_push x t y)
  where
    more : (b : Bool) → (times x t ≤ times x (t ++ y ∷ [])) × (times x (t ++ y ∷ []) ≤ suc (times x t))
        → (cond b (suc (times x t)) (times x t) ≤ cond b (suc (times x (t ++ y ∷ []))) (times x (t ++ y ∷ []))) × (cond b (suc (times x (t ++ y ∷ []))) (times x (t ++ y ∷ [])) ≤ suc (cond b (suc (times x t)) (times x t)))
    more true h = omega arith
    more false h = omega arith

pub shallow_push : (t : List ℕ) (y : ℕ) → Shallow t → nesting (t ++ y ∷ []) ≤ 96 → Shallow (t ++ y ∷ [])
shallow_push t y s k i = elim (dec_le i (length t)) [
  | yes p ↦ subst (λ u. nesting u ≤ 96) (sym (take-append-le i t (y ∷ []) p)) (s i)
  | no p ↦ let l = length-append t (y ∷ []) in subst (λ u. nesting u ≤ 96) (sym (take_all i (t ++ y ∷ []) (omega arith))) k
]

nests_most : (t : List ℕ) (y : ℕ) → Shallow t → nesting (t ++ y ∷ []) ≤ 97
nests_most t y s =
    let a = times_push 123 t y in
    let b = times_push 125 t y in
    let k = subst (λ u. nesting u ≤ 96) (take_all (length t) t (omega arith)) (s (length t)) in
    omega arith

-- the reading of a text
abbrev pub Verdict : List ℕ → Type 0
Verdict t = ((g : Form) × Written t g) ⊎ ((f : ℕ) × (place : ℕ) × Fault t f place)

-- the text has been read to its end
pub ends_early : (ms : List Mark) → Alive (at ms) → Shallow (map byte ms) → result (at ms) ≡ none → Fault (map byte ms) 7 (length (map byte ms))
ends_early ms a s r = early_end s (goes_on ms a) no_text
  where
    no_text : (g : Form) → ¬ (bytes g ≡ map byte ms)
    no_text g d =
        let x = text_done g in
        let y = map_byte_injective (text g) ms d in
        let u = ap (λ l. result (at l)) y in
        let z : ◌≡◌ {A = ℕ} 0 1 = cc in omega arith

at_end : (ms : List Mark) → Alive (at ms) → Shallow (map byte ms) → (q : State) → at ms ≡ q → Verdict (map byte ms)
at_end ms a s q e = go q e
  where
    early : result (at ms) ≡ none → Verdict (map byte ms)
    early r = inr (7, length (map byte ms), ends_early ms a s r)

    go : (q : State) → at ms ≡ q → Verdict (map byte ms)
    go (wants bs) d = early (ap result d)
    go (fresh b bs) d = early (ap result d)
    go (after b bs) d = early (ap result d)
    go (done g) d = inl (g, record { by_form = ap (map byte) (read_done ms g d); shallow = s })
    go wrong d = early (ap result d)

pub is_mark : (b : ℕ) → ((m : Mark) × (byte m ≡ b)) ⊎ ((m : Mark) → ¬ (byte m ≡ b))
is_mark b = go (ℕ_discrete 123 b) (ℕ_discrete 124 b) (ℕ_discrete 125 b) (ℕ_discrete 44 b)
  where
    go : Dec (123 ≡ b) → Dec (124 ≡ b) → Dec (125 ≡ b) → Dec (44 ≡ b) → ((m : Mark) × (byte m ≡ b)) ⊎ ((m : Mark) → ¬ (byte m ≡ b))
    go (yes e) p q r = inl (open_mark, e)
    go (no f) (yes e) q r = inl (bar, e)
    go (no f) (no g) (yes e) r = inl (close_mark, e)
    go (no f) (no g) (no h) (yes e) = inl (comma, e)
    go (no f) (no g) (no h) (no k) = inr (elim [ open_mark ↦ f | bar ↦ g | close_mark ↦ h | comma ↦ k ])

-- one more byte
module _ (b : ℕ) (rest : List ℕ) (ms : List Mark) (a : Alive (at ms)) (s : Shallow (map byte ms)) where
  abbrev pub here : ℕ
  here = length (map byte ms)

  abbrev pub whole : List ℕ
  whole = map byte ms ++ b ∷ rest

  in_whole : here < length whole
  in_whole = let l = length-append (map byte ms) (b ∷ rest) in omega arith

  before : take here whole ≡ map byte ms
  before = take_at (map byte ms) (b ∷ rest) (length (map byte ms)) refl

  upto : take (suc here) whole ≡ map byte ms ++ b ∷ []
  upto = let l = length-append (map byte ms) (b ∷ []) in
      ap (take (suc (length (map byte ms)))) (sym (append_assoc (map byte ms) (b ∷ []) rest)) ∙ take_at (map byte ms ++ b ∷ []) rest (suc (length (map byte ms))) (omega arith)

  not_on : ¬ GoesOn (map byte ms ++ b ∷ []) → Fault whole 6 here
  not_on n = wrong_byte here in_whole (subst Shallow (sym before) s) (subst GoesOn (sym before) (goes_on ms a)) (λ x. n (subst GoesOn upto x))

  pub deep : GoesOn (map byte ms ++ b ∷ []) → ¬ (nesting (map byte ms ++ b ∷ []) ≤ 96) → Fault whole 8 here
  deep g n =
      let k = nests_most (map byte ms) b s in
      let e : nesting (map byte ms ++ b ∷ []) ≡ 97 = omega arith in
      too_deep here in_whole (subst Shallow (sym before) s) (subst GoesOn (sym upto) g) (subst (λ u. nesting u ≡ 97) (sym upto) e)

  pub no_mark : ((m : Mark) → ¬ (byte m ≡ b)) → Fault whole 6 here
  no_mark f = not_on none_on
    where
      first_is : (vs : List Mark) → map byte vs ≡ b ∷ [] → ⊥
      first_is [] e = let z : ◌≡◌ {A = ℕ} 0 1 = cc in omega arith
      first_is (m ∷ vs) e = f m (cc)

      none_on : ¬ GoesOn (map byte ms ++ b ∷ [])
      none_on x =
          let (us, e, y) = goes_marks (map byte ms ++ b ∷ []) x in
          let (vs, ws, p, q, r) = split_map us (map byte ms) (b ∷ []) e in
          first_is ws r

  pub more_bytes : (m : Mark) → byte m ≡ b → map byte (ms ++ m ∷ []) ≡ map byte ms ++ b ∷ []
  more_bytes m e = map-append byte ms (m ∷ []) ∙ ap (λ x. map byte ms ++ x ∷ []) e

  pub wrong_mark : (m : Mark) → byte m ≡ b → at (ms ++ m ∷ []) ≡ wrong → Fault whole 6 here
  wrong_mark m e w = not_on lost
    where
      lost : ¬ GoesOn (map byte ms ++ b ∷ [])
      lost x =
          let (us, d, y) = goes_marks (map byte ms ++ b ∷ []) x in
          let k : us ≡ ms ++ m ∷ [] = map_byte_injective us (ms ++ m ∷ []) (d ∙ sym (more_bytes m e)) in
          subst Alive (ap at k ∙ w) y

  a_mark : (m : Mark) → byte m ≡ b → (Alive (at (ms ++ m ∷ [])) → Shallow (map byte (ms ++ m ∷ [])) → Verdict (map byte (ms ++ m ∷ []) ++ rest)) → Verdict whole
  a_mark m e rec = go (alive_dec (at (ms ++ m ∷ [])))
    where
      same : map byte (ms ++ m ∷ []) ≡ map byte ms ++ b ∷ []
      same = more_bytes m e

      on : Alive (at (ms ++ m ∷ [])) → Dec (nesting (map byte ms ++ b ∷ []) ≤ 96) → Verdict whole
      on al (yes k) = subst Verdict (ap (λ u. u ++ rest) same ∙ append_assoc (map byte ms) (b ∷ []) rest) (rec al (subst Shallow (sym same) (shallow_push (map byte ms) b s k)))
      on al (no n) = inr (8, here, deep (subst GoesOn same (goes_on (ms ++ m ∷ []) al)) n)

      go : Alive (at (ms ++ m ∷ [])) ⊎ (at (ms ++ m ∷ []) ≡ wrong) → Verdict whole
      go (inl al) = on al (dec_le (nesting (map byte ms ++ b ∷ [])) 96)
      go (inr w) = inr (6, here, wrong_mark m e w)

  one_byte : ((m : Mark) → Alive (at (ms ++ m ∷ [])) → Shallow (map byte (ms ++ m ∷ [])) → Verdict (map byte (ms ++ m ∷ []) ++ rest)) → Verdict (map byte ms ++ b ∷ rest)
  one_byte rec = elim (is_mark b) [ inl (m, e) ↦ a_mark m e (rec m) | inr f ↦ inr (6, here, no_mark f) ]

scan : (rest : List ℕ) (ms : List Mark) → Alive (at ms) → Shallow (map byte ms) → Verdict (map byte ms ++ rest)
scan [] ms a s = subst Verdict (sym (append-nil (map byte ms))) (at_end ms a s (at ms) refl)
scan (b ∷ rest) ms a s = one_byte b rest ms a s (λ m. scan rest (ms ++ m ∷ []))

pub verdict : (t : List ℕ) → Verdict t
verdict t = scan t [] tt shallow
  where
    shallow : Shallow []
    shallow zero = omega arith
    shallow (suc i) = omega arith

-- the closing brackets of a form's text are as many as its parts
closings_times : (i : ℕ) (t : List ℕ) → length (closings i t) ≡ times 125 t
closings_times i [] = refl
closings_times i (b ∷ t) = go (closings_times (suc i) t) (eqb 125 b)
  where
    go : length (closings (suc i) t) ≡ times 125 t → (c : Bool) → length (cond c (i ∷ closings (suc i) t) (closings (suc i) t)) ≡ cond c (suc (times 125 t)) (times 125 t)
    go e true = ap suc e
    go e false = e

abbrev pub closes : List Mark → ℕ
closes ms = times 125 (map byte ms)

closes_++ : (a b : List Mark) → closes (a ++ b) ≡ closes a + closes b
closes_++ [] b = omega arith
closes_++ (m ∷ a) b = go (closes_++ a b) (eqb 125 (byte m))
  where
    go : closes (a ++ b) ≡ closes a + closes b → (c : Bool) → cond c (suc (closes (a ++ b))) (closes (a ++ b)) ≡ cond c (suc (closes a)) (closes a) + closes b
    go e true = omega arith
    go e false = e

mutual
  closes_text : (g : Form) → closes (text g) ≡ length (parts g)
  closes_text (form ls rs) =
      let a = closes_++ (texts ls) (bar ∷ (texts rs ++ close_mark ∷ [])) in
      let b = closes_++ (texts rs) (close_mark ∷ []) in
      let c = closes_texts ls in
      let d = closes_texts rs in
      let e = length-append (parts_of_all ls) (parts_of_all rs ++ form ls rs ∷ []) in
      let f = length-append (parts_of_all rs) (form ls rs ∷ []) in
      omega arith

  closes_texts : (gs : Forms) → closes (texts gs) ≡ length (parts_of_all gs)
  closes_texts ∅ = refl
  closes_texts (g & gs) =
      let a = closes_++ (text g) (more gs) in
      let b = closes_text g in
      let c = closes_more gs in
      let d = length-append (parts g) (parts_of_all gs) in
      omega arith

  closes_more : (gs : Forms) → closes (more gs) ≡ length (parts_of_all gs)
  closes_more ∅ = refl
  closes_more (g & gs) =
      let a = closes_++ (text g) (more gs) in
      let b = closes_text g in
      let c = closes_more gs in
      let d = length-append (parts g) (parts_of_all gs) in
      omega arith

pub closings_parts : (g : Form) → length (closings 0 (bytes g)) ≡ length (parts g)
closings_parts g = closings_times 0 (bytes g) ∙ closes_text g
