-- A line has one answer, and leaves the rows in one way.
-- Assumes nothing.
use Rattle.std.proofs.Common.{◌≡◌, ℕ, zero, suc, ◌+◌, ◌<◌, true, false, List, [], ◌∷◌, length, codes, get_or, Some, None, Option, sym, refl, ap, ◌∙◌, subst, ap₂, arith}
use native.Mathlib.Decide.{dec_lt}
use Rattle.std.proofs.lemmas.Bool.{both_ways}
use Rattle.std.specs.List.{AllByRecursion}
use Rattle.games.specs.declared.side.Side.{Side}
use Rattle.games.specs.Outcomes.{compare, sign}
use Rattle.games.specs.Form.{Form}
use Rattle.games.specs.Text.{bytes}
use Rattle.rulesets.specs.Rules.{Rules}
use Rattle.rulesets.specs.Winning.{mover_wins}
use Rattle.calls.specs.Rows.{Rows, node}
use Rattle.calls.specs.Answers.{Answer, told, refused_at}
use Rattle.calls.specs.Entering.{Entry}
use Rattle.calls.specs.Positions.{FirstMoves, Values, Winning}
use Rattle.calls.specs.Reading.{Reads}
use Rattle.calls.specs.Outcomes.{Effect}
use Rattle.calls.specs.Sound.{Sound}
use Rattle.calls.proofs.Calls.{moves_grows, reads_grows, values_grows}
use Rattle.calls.proofs.Ones.{reading_has_one_outcome, valuing_has_one_outcome}
use Rattle.calls.proofs.Sealing.{sound_empty}
use Rattle.calls.proofs.Turns.{turn_one}
use Rattle.lines.specs.Syntax.{Subject, Line, written}
use Rattle.lines.proofs.Faults.{the_verdict_is_one}
use Rattle.lines.proofs.Telling.{spelling_tells}
use Rattle.valuing.specs.Moved.{Earliest}
use Rattle.boards.specs.Boards.{Position}
use Rattle.calculator.specs.Replies.{Replies, Answers, board_place, second_place, fault_text, move_text, short, value_text}
use Rattle.calculator.specs.Sessions.{OneAnswer, Session, SameAnswers}
use Rattle.calculator.specs.Subjects.{at_place, boards_of, first_illegal, first_oversized, from_place, position_of, EntersSubject}

-- nothing follows from an equation of unlike things
abbrev Same : Answer ℕ → Answer ℕ → Rows → Rows → Type 0
Same x y b d = (x ≡ y) × (b ≡ d)

values_one : {R : Rules} {c code : ℕ} {rows b d : Rows} {x y : Answer ℕ} {es fs : List Entry} → Sound rows → Values R c rows code x b es → Values R c rows code y d fs → Same x y b d
values_one {R} {c} {code} {rows} {b} {d} {x} {y} {es} {fs} s v w =
    let only = (valuing_has_one_outcome R c rows code s).only in
    let e : ◌≡◌ {A = Effect} (record { answer = x; after = b; entries = es }) (record { answer = y; after = d; entries = fs }) = only (record { answer = x; after = b; entries = es }) v ∙ sym (only (record { answer = y; after = d; entries = fs }) w) in
    (ap (λ o. o.answer) e, ap (λ o. o.after) e)

reads_one : {c : ℕ} {rows b d : Rows} {t : List ℕ} {x y : Answer ℕ} {es fs : List Entry} → Sound rows → Reads c rows t x b es → Reads c rows t y d fs → Same x y b d
reads_one {c} {rows} {b} {d} {t} {x} {y} {es} {fs} s v w =
    let only = (reading_has_one_outcome c rows t s).only in
    let e : ◌≡◌ {A = Effect} (record { answer = x; after = b; entries = es }) (record { answer = y; after = d; entries = fs }) = only (record { answer = x; after = b; entries = es }) v ∙ sym (only (record { answer = y; after = d; entries = fs }) w) in
    (ap (λ o. o.answer) e, ap (λ o. o.after) e)

some_one : {A : Type 0} {x y : A} → ◌≡◌ {A = Option A} (Some x) (Some y) → x ≡ y
some_one e = cc

never : {A : Type 0} {x : A} → ◌≡◌ {A = Option A} None (Some x) → ⊥
never e = let z : ◌≡◌ {A = ℕ} 0 1 = cc in omega arith

-- a text is no board
text_boards : (i : ℕ) (s : Subject) (g : Form) → s ≡ written g → first_oversized (boards_of i s) ≡ None
text_boards i s g e = rw e

text_illegal : (i : ℕ) (s : Subject) (g : Form) → s ≡ written g → first_illegal (boards_of i s) ≡ None
text_illegal i s g e = rw e

text_position : (s : Subject) (g : Form) → s ≡ written g → position_of s ≡ None
text_position s g e = rw e

written_one : {g h : Form} → written g ≡ written h → g ≡ h
written_one e = cc

-- a subject is entered in one way
entered_one : {c i : ℕ} {s : Subject} {rows b d : Rows} {x y : Answer ℕ} → Sound rows → EntersSubject c rows i s x b → EntersSubject c rows i s y d → Same x y b d
entered_one k (EntersSubject.oversized h) (EntersSubject.oversized l) = (ap (refused_at 10) (some_one (sym h ∙ l)), refl)
entered_one k (EntersSubject.oversized h) (EntersSubject.illegal l m) = absurd (never (sym l ∙ h))
entered_one k (EntersSubject.oversized h) (EntersSubject.valued l m p v) = absurd (never (sym l ∙ h))
entered_one {i = i} {s = s} k (EntersSubject.oversized h) (EntersSubject.read g e r) = absurd (never (sym (text_boards i s g e) ∙ h))
entered_one k (EntersSubject.illegal l m) (EntersSubject.oversized h) = absurd (never (sym l ∙ h))
entered_one k (EntersSubject.illegal h l) (EntersSubject.illegal m n) = (ap (refused_at 4) (some_one (sym l ∙ n)), refl)
entered_one k (EntersSubject.illegal h l) (EntersSubject.valued m n p v) = absurd (never (sym n ∙ l))
entered_one {i = i} {s = s} k (EntersSubject.illegal h l) (EntersSubject.read g e r) = absurd (never (sym (text_illegal i s g e) ∙ l))
entered_one k (EntersSubject.valued l m p v) (EntersSubject.oversized h) = absurd (never (sym l ∙ h))
entered_one k (EntersSubject.valued m n p v) (EntersSubject.illegal h l) = absurd (never (sym n ∙ l))
entered_one {c = c} {i = i} {rows = rows} {d = d} k (EntersSubject.valued {p = p} {a = a} m n e v) (EntersSubject.valued {p = q} {a = z} {es = fs} m' n' e' w) =
    let same : p ≡ q = some_one (sym e ∙ e') in
    let o = values_one k v (subst (λ r. Values r.rules c rows r.code z d fs) (sym same) w) in
    (ap (at_place i) o.0, o.1)
entered_one {s = s} k (EntersSubject.valued l m p v) (EntersSubject.read g e r) = absurd (never (sym (text_position s g e) ∙ p))
entered_one {i = i} {s = s} k (EntersSubject.read g e r) (EntersSubject.oversized h) = absurd (never (sym (text_boards i s g e) ∙ h))
entered_one {i = i} {s = s} k (EntersSubject.read g e r) (EntersSubject.illegal h l) = absurd (never (sym (text_illegal i s g e) ∙ l))
entered_one {s = s} k (EntersSubject.read g e r) (EntersSubject.valued l m p v) = absurd (never (sym (text_position s g e) ∙ p))
entered_one {c = c} {i = i} {rows = rows} {d = d} k (EntersSubject.read {a = a} g e r) (EntersSubject.read {a = z} {es = fs} h f q) =
    let same : g ≡ h = written_one (sym e ∙ f) in
    let o = reads_one k r (subst (λ w. Reads c rows (bytes w) z d fs) (sym same) q) in
    (ap (from_place (i + length (codes "(form "))) o.0, o.1)

subject_sound : {c i : ℕ} {s : Subject} {rows after : Rows} {x : Answer ℕ} → Sound rows → EntersSubject c rows i s x after → Sound after
subject_sound k (EntersSubject.oversized h) = k
subject_sound k (EntersSubject.illegal h l) = k
subject_sound k (EntersSubject.valued h l p v) = (values_grows v).sound k
subject_sound k (EntersSubject.read g e r) = (reads_grows r).sound k

-- what is told, and what is refused, are known from the answer
told_one : {n m : ℕ} → ◌≡◌ {A = Answer ℕ} (told n) (told m) → n ≡ m
told_one e = cc

refused_one : {k i l j : ℕ} → ◌≡◌ {A = Answer ℕ} (refused_at k i) (refused_at l j) → (k ≡ l) × (i ≡ j)
refused_one e = (cc, cc)

unlike : {n k i : ℕ} → ◌≡◌ {A = Answer ℕ} (told n) (refused_at k i) → ⊥
unlike e = let z : ◌≡◌ {A = ℕ} 0 1 = cc in omega arith

fault_same : {k i l j : ℕ} → (k ≡ l) × (i ≡ j) → fault_text k i ≡ fault_text l j
fault_same e = ap₂ fault_text e.0 e.1

-- the earliest of the moves that win is one
none_wins : (R : Rules) (s : Side) (i : ℕ) (ms : List ℕ) → AllByRecursion (λ m. mover_wins R s m ≡ false) ms → i < length ms → mover_wins R s (get_or ms i 0) ≡ true → ⊥
none_wins R s zero (m ∷ ms) a h e = both_ways _ a.0 e
none_wins R s (suc i) (m ∷ ms) a h e = none_wins R s i ms a.1 (omega arith) e
none_wins R s i [] a h e = omega arith

move_one : {R : Rules} {s : Side} {code : ℕ} {w z : Option ℕ} → Winning R s code w → Winning R s code z → Earliest R s code (told w) → Earliest R s code (told z) → w ≡ z
move_one {R} {s} {code} (Winning.index i h e) (Winning.index j l f) a b =
    elim (dec_lt i j) [
      | yes p ↦ absurd (both_ways _ (b i p) e)
      | no n ↦ elim (dec_lt j i) [
        | yes p ↦ absurd (both_ways _ (a j p) f)
        | no m ↦ let same : i ≡ j = omega arith in ap (λ k. Some k) same
      ]
    ]
move_one {R} {s} {code} (Winning.index i h e) (Winning.nowhere n) a b = absurd (none_wins R s i (R.moves s code) n h e)
move_one {R} {s} {code} (Winning.nowhere n) (Winning.index i h e) a b = absurd (none_wins R s i (R.moves s code) n h e)
move_one (Winning.nowhere n) (Winning.nowhere m) a b = refl

moves_told : {R : Rules} {c code : ℕ} {s : Side} {rows b d : Rows} {w z : Option ℕ} {es fs : List Entry} → Sound rows → FirstMoves R c rows s code (told w) b es → FirstMoves R c rows s code (told z) d fs
    → Earliest R s code (told w) → Earliest R s code (told z) → (w ≡ z) × (b ≡ d)
moves_told k (FirstMoves.valued l t x) (FirstMoves.valued m u y) a b = (move_one x y a b, (turn_one k t u).1)

moves_refused : {R : Rules} {c code k l p q : ℕ} {s : Side} {rows b d : Rows} {es fs : List Entry} → Sound rows → FirstMoves R c rows s code (refused_at k p) b es → FirstMoves R c rows s code (refused_at l q) d fs → (k ≡ l) × (b ≡ d)
moves_refused k (FirstMoves.ended l t) (FirstMoves.ended m u) = let o = turn_one k t u in (some_one o.0, o.1)

moves_unlike : {R : Rules} {c code k p : ℕ} {s : Side} {rows b d : Rows} {w : Option ℕ} {es fs : List Entry} → Sound rows → FirstMoves R c rows s code (told w) b es → FirstMoves R c rows s code (refused_at k p) d fs → ⊥
moves_unlike k (FirstMoves.valued l t x) (FirstMoves.ended m u) = never (turn_one k t u).0

moves_legal : {R : Rules} {c code : ℕ} {s : Side} {rows after : Rows} {w : Option ℕ} {es : List Entry} → FirstMoves R c rows s code (told w) after es → R.legal code ≡ true
moves_legal (FirstMoves.valued l t x) = l

refused_legal : {R : Rules} {c code k p : ℕ} {s : Side} {rows after : Rows} {es : List Entry} → FirstMoves R c rows s code (refused_at k p) after es → R.legal code ≡ true
refused_legal (FirstMoves.ended l t) = l

-- nodes of one dictionary that were told compare in one way
compared_same : {m n k l : ℕ} {b d : Rows} → ◌≡◌ {A = Answer ℕ} (told m) (told k) → ◌≡◌ {A = Answer ℕ} (told n) (told l) → b ≡ d → sign (compare (node b m) (node b n)) ≡ sign (compare (node d k) (node d l))
compared_same {k = k} {l = l} e f same = rw (told_one e, told_one f) (ap (λ r. sign (compare (node r k) (node r l))) same)

illegal_not : {m : Option Position} {p q : Position} → m ≡ Some p → p.rules.legal p.code ≡ false → m ≡ Some q → q.rules.legal q.code ≡ true → ⊥
illegal_not h n l e = let same = some_one (sym h ∙ l) in both_ways _ n (subst (λ r. r.rules.legal r.code ≡ true) (sym same) e)

-- what is asked of a right line has one reply
replied_one : {c : ℕ} {rows b d : Rows} {l : Line} {t u : List ℕ} → Sound rows → Replies c rows l t b → Replies c rows l u d → (t ≡ u) × (b ≡ d)
replied_one k (Replies.value_told x) (Replies.value_told y) = let o = entered_one k x y in (ap₂ (λ r n. short (value_text r n)) o.1 (told_one o.0), o.1)
replied_one k (Replies.value_told x) (Replies.value_refused y) = absurd (unlike (entered_one k x y).0)
replied_one k (Replies.value_refused x) (Replies.value_told y) = absurd (unlike (sym (entered_one k x y).0))
replied_one k (Replies.value_refused x) (Replies.value_refused y) = let o = entered_one k x y in (fault_same (refused_one o.0), o.1)
replied_one {c = c} {d = d} k (Replies.compared {s = s} {u = u} {m = m} {n = n} x y) (Replies.compared {m = m'} {n = n'} z w) =
    let o = entered_one k x z in
    let q = entered_one (subject_sound k x) y (subst (λ r. EntersSubject c r (second_place s) u (told n') d) (sym o.1) w) in
    (compared_same o.0 q.0 q.1, q.1)
replied_one k (Replies.compared x y) (Replies.first_refused z) = absurd (unlike (entered_one k x z).0)
replied_one {c = c} {d = d} k (Replies.compared {s = s} {u = u} x y) (Replies.second_refused {k = f} {i = i} z w) =
    let o = entered_one k x z in absurd (unlike (entered_one (subject_sound k x) y (subst (λ r. EntersSubject c r (second_place s) u (refused_at f i) d) (sym o.1) w)).0)
replied_one k (Replies.first_refused x) (Replies.compared z w) = absurd (unlike (sym (entered_one k x z).0))
replied_one k (Replies.first_refused x) (Replies.first_refused z) = let o = entered_one k x z in (fault_same (refused_one o.0), o.1)
replied_one k (Replies.first_refused x) (Replies.second_refused z w) = absurd (unlike (sym (entered_one k x z).0))
replied_one {c = c} {d = d} k (Replies.second_refused {s = s} {u = u} x y) (Replies.compared {n = n'} z w) =
    let o = entered_one k x z in absurd (unlike (sym (entered_one (subject_sound k x) y (subst (λ r. EntersSubject c r (second_place s) u (told n') d) (sym o.1) w)).0))
replied_one k (Replies.second_refused x y) (Replies.first_refused z) = absurd (unlike (entered_one k x z).0)
replied_one {c = c} {d = d} k (Replies.second_refused {s = s} {u = u} x y) (Replies.second_refused {k = f} {i = i} z w) =
    let o = entered_one k x z in
    let q = entered_one (subject_sound k x) y (subst (λ r. EntersSubject c r (second_place s) u (refused_at f i) d) (sym o.1) w) in
    (fault_same (refused_one q.0), q.1)
replied_one k (Replies.move_oversized h) (Replies.move_oversized l) = (refl, refl)
replied_one k (Replies.move_oversized h) (Replies.move_illegal l n) = absurd (never (sym h ∙ l))
replied_one k (Replies.move_oversized h) (Replies.move_told l m e) = absurd (never (sym h ∙ l))
replied_one k (Replies.move_oversized h) (Replies.move_refused l m) = absurd (never (sym h ∙ l))
replied_one k (Replies.move_illegal l n) (Replies.move_oversized h) = absurd (never (sym h ∙ l))
replied_one k (Replies.move_illegal l n) (Replies.move_illegal m o) = (refl, refl)
replied_one k (Replies.move_illegal {p = p} h n) (Replies.move_told l m e) = absurd (illegal_not h n l (moves_legal m))
replied_one k (Replies.move_illegal h n) (Replies.move_refused l m) = absurd (illegal_not h n l (refused_legal m))
replied_one k (Replies.move_told l m e) (Replies.move_oversized h) = absurd (never (sym h ∙ l))
replied_one k (Replies.move_told l m e) (Replies.move_illegal h n) = absurd (illegal_not h n l (moves_legal m))
replied_one {c = c} {rows = rows} {d = d} k (Replies.move_told {side = side} {p = p} h m e) (Replies.move_told {p = q} {w = z} {es = fs} l n f) =
    let same : p ≡ q = some_one (sym h ∙ l) in
    let o = moves_told k m (subst (λ r. FirstMoves r.rules c rows side r.code (told z) d fs) (sym same) n) e (subst (λ r. Earliest r.rules side r.code (told z)) (sym same) f) in
    (ap move_text o.0, o.1)
replied_one {c = c} {rows = rows} {d = d} k (Replies.move_told {side = side} {p = p} h m e) (Replies.move_refused {p = q} {k = f} {code = i} {es = fs} l n) =
    let same : p ≡ q = some_one (sym h ∙ l) in absurd (moves_unlike k m (subst (λ r. FirstMoves r.rules c rows side r.code (refused_at f i) d fs) (sym same) n))
replied_one k (Replies.move_refused l m) (Replies.move_oversized h) = absurd (never (sym h ∙ l))
replied_one k (Replies.move_refused l m) (Replies.move_illegal h n) = absurd (illegal_not h n l (refused_legal m))
replied_one {c = c} {rows = rows} {d = d} k (Replies.move_refused {side = side} {p = p} h m) (Replies.move_told {p = q} {w = z} {es = fs} l n f) =
    let same : p ≡ q = some_one (sym h ∙ l) in absurd (moves_unlike k (subst (λ r. FirstMoves r.rules c rows side r.code (told z) d fs) (sym same) n) m)
replied_one {c = c} {rows = rows} {d = d} k (Replies.move_refused {side = side} {p = p} h m) (Replies.move_refused {p = q} {k = f} {code = i} {es = fs} l n) =
    let same : p ≡ q = some_one (sym h ∙ l) in
    let o = moves_refused k m (subst (λ r. FirstMoves r.rules c rows side r.code (refused_at f i) d fs) (sym same) n) in
    (ap (λ n. fault_text n (board_place side)) o.0, o.1)

reply_sound : {c : ℕ} {rows after : Rows} {l : Line} {t : List ℕ} → Sound rows → Replies c rows l t after → Sound after
reply_sound k (Replies.value_told x) = subject_sound k x
reply_sound k (Replies.value_refused x) = subject_sound k x
reply_sound k (Replies.compared x y) = subject_sound (subject_sound k x) y
reply_sound k (Replies.first_refused x) = subject_sound k x
reply_sound k (Replies.second_refused x y) = subject_sound (subject_sound k x) y
reply_sound k (Replies.move_oversized h) = k
reply_sound k (Replies.move_illegal h l) = k
reply_sound k (Replies.move_told h m e) = (moves_grows m).sound k
reply_sound k (Replies.move_refused h m) = (moves_grows m).sound k

-- any line
pub one_answer : OneAnswer
one_answer c rows after later line t u k (Answers.long_line h) (Answers.long_line l) = (refl, refl)
one_answer c rows after later line t u k (Answers.long_line h) (Answers.faulty l f) = absurd (omega arith)
one_answer c rows after later line t u k (Answers.long_line h) (Answers.right l w r) = absurd (omega arith)
one_answer c rows after later line t u k (Answers.faulty l f) (Answers.long_line h) = absurd (omega arith)
one_answer c rows after later line t u k (Answers.faulty {f = f} {i = i} h x) (Answers.faulty {f = g} {i = j} l y) = (fault_same (the_verdict_is_one.0 line f g i j x y), refl)
one_answer c rows after later line t u k (Answers.faulty {f = f} {i = i} h x) (Answers.right {l = m} l w r) = absurd (the_verdict_is_one.1 line m f i w x)
one_answer c rows after later line t u k (Answers.right l w r) (Answers.long_line h) = absurd (omega arith)
one_answer c rows after later line t u k (Answers.right {l = m} h w r) (Answers.faulty {f = f} {i = i} l x) = absurd (the_verdict_is_one.1 line m f i w x)
one_answer c rows after later line t u k (Answers.right {l = m} h w r) (Answers.right {l = n} l v q) =
    let same : m ≡ n = spelling_tells m n (w.spelt ∙ sym v.spelt) in replied_one k r (subst (λ z. Replies c rows z u later) (sym same) q)

answer_sound : {c : ℕ} {rows after : Rows} {line t : List ℕ} → Sound rows → Answers c rows line t after → Sound after
answer_sound k (Answers.long_line h) = k
answer_sound k (Answers.faulty h f) = k
answer_sound k (Answers.right h w r) = reply_sound k r

-- lines, one after the other
answered_one : {c : ℕ} {rows after later : Rows} {lines ts us : List (List ℕ)} → Sound rows → Session c rows lines ts after → Session c rows lines us later → (ts ≡ us) × (after ≡ later)
answered_one k Session.over Session.over = (refl, refl)
answered_one {c} {later = later} k (Session.next {rows = rows} {between = b} {line = line} {t = t} {lines = lines} x s) (Session.next {between = d} {t = u} {ts = us} y z) =
    let o = one_answer c rows b d line t u k x y in
    let q = answered_one (answer_sound k x) s (subst (λ r. Session c r lines us later) (sym o.1) z) in
    (ap₂ ◌∷◌ o.0 q.0, q.1)

pub same_answers : SameAnswers
same_answers c after later lines ts us s z = answered_one sound_empty s z
