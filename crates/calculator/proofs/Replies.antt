-- Replies, from what was entered and written.
-- Assumes nothing.
use Rattle.std.proofs.Common.{◌≡◌, ℕ, ◌<◌, ◌≤◌, true, false, List, length, is_some, Some, None, Ok, Err, Option, Result, sym, refl, subst, subst₂, inl, inr, arith}
use Rattle.std.proofs.lemmas.Bool.{both_ways, le-leb, lt-leb}
use Rattle.games.specs.declared.outcome.Comparison.{Comparison}
use Rattle.games.specs.declared.outcome.Comparison.TheVariants.{Less, Greater, Equal, Confused}
use Rattle.games.specs.Outcomes.{compare, sign}
use Rattle.games.specs.Form.{Form}
use Rattle.games.specs.Text.{bytes}
use Rattle.rulesets.specs.Rules.{Rules, Lawful}
use Rattle.calls.specs.Rows.{Rows, first, node}
use Rattle.calls.specs.Answers.{Answer, told, refused, refused_at}
use Rattle.calls.specs.Entering.{Entry, Enters, accepted}
use Rattle.calls.specs.Positions.{FirstMoves, Values, Winning}
use Rattle.calls.specs.Reading.{Reads}
use Rattle.calls.proofs.Entering.{turn_grows}
use Rattle.calls.proofs.Calls.{reads_grows, values_grows}
use Rattle.calls.proofs.Sealing.{extends_length}
use Rattle.calls.specs.Asking.{Compares}
use Rattle.lines.specs.Syntax.{Board, Subject, Line, value, comparison, first_move}
use Rattle.games.specs.declared.side.Side.{Side}
use Rattle.dictionary.specs.Faults as Dictionaries
use Rattle.valuing.specs.Answers as Valuing
use Rattle.valuing.specs.Answers.{refusal}
use Rattle.valuing.specs.Moved.{Earliest}
use Rattle.valuing.specs.declared.fault.ValueFault.{ValueFault}
use Rattle.valuing.specs.declared.fault.ValueFault.TheVariants.{Illegal, Position as At}
use Rattle.boards.specs.Boards.{Position, meaning}
use Rattle.calculator.specs.Laying.{Stood}
use Rattle.calculator.specs.declared.fault.CalculatorFault.{CalculatorFault}
use Rattle.calculator.specs.Faults.{number_of, place_of}
use Rattle.calculator.specs.Replies.{Replies, move_text, fault_text, value_text, short, value_place, first_place, second_place, board_place}
use Rattle.calculator.specs.Subjects.{at_place, from_place, is_legal, EntersSubject}
use Rattle.calculator.proofs.Numbers.{most_64}
use Rattle.calculator.specs.Written.{AtFront, Replied, WroteValue}

-- a number that is told is a node's
enters_in : {c n : ℕ} {rows after : Rows} {g : Form} {ps : List ℕ} {es : List Entry} → Enters c rows g ps (told n) after es → n < length after
enters_in (accepted t) = ((turn_grows t).right _ first).inside

values_in : {R : Rules} {c code n : ℕ} {rows after : Rows} {es : List Entry} → Values R c rows code (told n) after es → n < length after
values_in (Values.legal l e) = enters_in e

reads_in : {c n : ℕ} {rows after : Rows} {t : List ℕ} {es : List Entry} → Reads c rows t (told n) after es → n < length after
reads_in (Reads.well g w e) = enters_in e

at_told : (i n : ℕ) (a : Answer ℕ) → at_place i a ≡ told n → a ≡ told n
at_told i n (told m) e = e
at_told i n (refused k) e = let z : ◌≡◌ {A = ℕ} 0 1 = cc in absurd (omega arith)
at_told i n (refused_at k p) e = let z : ◌≡◌ {A = ℕ} 0 1 = cc in absurd (omega arith)

from_told : (i n : ℕ) (a : Answer ℕ) → from_place i a ≡ told n → a ≡ told n
from_told i n (told m) e = e
from_told i n (refused k) e = let z : ◌≡◌ {A = ℕ} 0 1 = cc in absurd (omega arith)
from_told i n (refused_at k p) e = let z : ◌≡◌ {A = ℕ} 0 1 = cc in absurd (omega arith)

subject_told : {c i : ℕ} {s : Subject} {rows after : Rows} {x : Answer ℕ} (n : ℕ) → x ≡ told n → EntersSubject c rows i s x after → n < length after
subject_told n e (EntersSubject.oversized h) = let z : ◌≡◌ {A = ℕ} 0 1 = cc in absurd (omega arith)
subject_told n e (EntersSubject.illegal g h) = let z : ◌≡◌ {A = ℕ} 0 1 = cc in absurd (omega arith)
subject_told {c = c} {i = i} {rows = rows} {after = after} n e (EntersSubject.valued {p = p} {a = a} {es = es} g h q v) = values_in (subst (λ y. Values p.rules c rows p.code y after es) (at_told i n a e) v)
subject_told {c = c} {rows = rows} {after = after} n e (EntersSubject.read {a = a} {es = es} g h r) = reads_in (subst (λ y. Reads c rows (bytes g) y after es) (from_told _ n a e) r)

pub subject_in : {c i n : ℕ} {s : Subject} {rows after : Rows} → EntersSubject c rows i s (told n) after → n < length after
subject_in {n = n} x = subject_told n refl x

-- rows are only added
subject_grows : {c i : ℕ} {s : Subject} {rows after : Rows} {x : Answer ℕ} → EntersSubject c rows i s x after → length rows ≤ length after
subject_grows (EntersSubject.oversized h) = omega arith
subject_grows (EntersSubject.illegal g h) = omega arith
subject_grows (EntersSubject.valued g h q v) = extends_length (values_grows v).extends
subject_grows (EntersSubject.read g h r) = extends_length (reads_grows r).extends

short_fits : (t : List ℕ) → length t ≤ 4096 → short t ≡ t
short_fits t h = rw (le-leb (length t) 4096 h)

short_not : (t : List ℕ) → 4096 < length t → short t ≡ fault_text 5 0
short_not t h = rw (lt-leb (length t) 4096 h)

-- nodes that are known compare
pub comparison_known : {rows : Rows} {m n k : ℕ} → Compares rows m n (refused k) → m < length rows → n < length rows → ⊥
comparison_known (Compares.unknown (inl l)) a b = omega arith
comparison_known (Compares.unknown (inr l)) a b = omega arith

pub comparison_told : {rows : Rows} {m n : ℕ} {o : Comparison} → Compares rows m n (told o) → o ≡ compare (node rows m) (node rows n)
comparison_told (Compares.known a b) = refl

-- a subject that was entered stays, whatever is entered after it
pub subject_stays : {c c' i j m : ℕ} {s u : Subject} {rows between after : Rows} {x : Answer ℕ} → EntersSubject c rows i s (told m) between → EntersSubject c' between j u x after → m < length after
subject_stays y z = let l = subject_in y in let g = subject_grows z in omega arith

comparison_small : (o : Comparison) → length (sign o) ≤ 4096
comparison_small Less = omega arith
comparison_small Greater = omega arith
comparison_small Equal = omega arith
comparison_small Confused = omega arith

winning_small : (R : Rules) → Lawful R → (s : Side) (code : ℕ) (w : Option ℕ) → Winning R s code w → length (move_text w) ≤ 4096
winning_small R law s code w (Winning.index i k e) = let m = most_64 i (omega (arith, law.narrow s code, law.width_high)) in omega arith
winning_small R law s code w (Winning.nowhere a) = omega arith

move_small : {R : Rules} {c code : ℕ} {rows after : Rows} {s : Side} {w : Option ℕ} {es : List Entry} → Lawful R → FirstMoves R c rows s code (told w) after es → length (move_text w) ≤ 4096
move_small {R = R} {code = code} {s = s} {w = w} law (FirstMoves.valued l t x) = winning_small R law s code w x

not_illegal : {R : Rules} {c code k : ℕ} {rows after : Rows} {s : Side} {es : List Entry} → R.legal code ≡ true → FirstMoves R c rows s code (refused k) after es → ⊥
not_illegal l (FirstMoves.illegal h) = both_ways _ h l

module _ (c : ℕ) (rows : Rows) (before after : List ℕ) (later : Rows) where
  -- what was entered is written as a value
  pub value_replied : (s : Subject) (n : ℕ) (r : Result ℕ CalculatorFault) → EntersSubject c rows value_place s (told n) later → WroteValue later n before after r → Replied c rows (value s) before after later r
  value_replied s n (Ok l) x w =
      Replied.told (value_text later n) (subst (λ t. Replies c rows (value s) t later) (short_fits (value_text later n) (let e = w.0 in let b = w.1 in omega arith)) (Replies.value_told x)) w.0 (let e = w.0 in let b = w.1 in omega arith) w.2
  value_replied s n (Err f) x w =
      Replied.faulty f (subst₂ (λ k p. Replies c rows (value s) (fault_text k p) later) (sym w.0) (sym w.1) (subst (λ t. Replies c rows (value s) t later) (short_not (value_text later n) w.2) (Replies.value_told x))) w.3

  -- a fault is passed on, with nothing written
  pub passed_on : (l : Line) (f : CalculatorFault) (r : Result ℕ CalculatorFault) → r ≡ Err f → after ≡ before → Replies c rows l (fault_text (number_of f) (place_of f)) later → Replied c rows l before after later r
  passed_on l f r e same x = subst (Replied c rows l before after later) (sym e) (Replied.faulty f x same)

  -- two things that were entered are compared
  pub compare_replied : (s u : Subject) (m n : ℕ) (between : Rows) (o : Comparison) (l : ℕ) → EntersSubject c rows first_place s (told m) between → EntersSubject c between (second_place s) u (told n) later → Compares later m n (told o)
      → l ≡ length (sign o) → AtFront before (sign o) after → Replied c rows (comparison s u) before after later (Ok l)
  compare_replied s u m n between o l x y z e w =
      Replied.told (sign o) (subst (λ p. Replies c rows (comparison s u) (sign p) later) (sym (comparison_told z)) (Replies.compared x y)) e (comparison_small o) w

  -- a move was told
  pub move_replied : (side : Side) (b : Board) (p : Position) (w : Option ℕ) (es : List Entry) (l : ℕ) → meaning b ≡ Some p → FirstMoves p.rules c rows side p.code (told w) later es → Earliest p.rules side p.code (told w)
      → Lawful p.rules → l ≡ length (move_text w) → AtFront before (move_text w) after → Replied c rows (first_move side b) before after later (Ok l)
  move_replied side b p w es l q m f law e v = Replied.told (move_text w) (Replies.move_told q m f) e (move_small law m) v

  -- a board that does not stand
  pub move_stood : (side : Side) (b : Board) (f : CalculatorFault) → later ≡ rows → Stood (board_place side) b (Err f) → Replies c rows (first_move side b) (fault_text (number_of f) (place_of f)) later
  move_stood side b f e l =
      subst (λ z. Replies c rows (first_move side b) (fault_text (number_of f) (place_of f)) z) (sym e)
      (elim l.1 [
        | inl x ↦ subst₂ (λ k p. Replies c rows (first_move side b) (fault_text k p) rows) (sym x.0) (sym l.0) (Replies.move_oversized x.1)
        | inr x ↦ subst₂ (λ k p. Replies c rows (first_move side b) (fault_text k p) rows) (sym x.0) (sym l.0) (illegal_move (meaning b) refl x.1 x.2)
      ])
    where
      illegal_move : (m : Option Position) → meaning b ≡ m → is_some m ≡ true → is_legal m ≡ false → Replies c rows (first_move side b) (fault_text 4 (board_place side)) rows
      illegal_move None q h n = let z : ◌≡◌ {A = ℕ} 0 1 = cc in absurd (omega arith)
      illegal_move (Some p) q h n = Replies.move_illegal q n

  -- what a first move refuses
  pub move_refused : (side : Side) (b : Board) (p : Position) (f : ValueFault) (j : ℕ) (es : List Entry) → meaning b ≡ Some p → p.rules.legal p.code ≡ true → j ≡ board_place side → FirstMoves p.rules c rows side p.code (refusal f) later es
      → Replies c rows (first_move side b) (fault_text (Valuing.number_of f) j) later
  move_refused side b p Illegal j es q l e m = absurd (not_illegal l m)
  move_refused side b p (At code f) j es q l e m = subst (λ i. Replies c rows (first_move side b) (fault_text (Dictionaries.number_of f) i) later) (sym e) (Replies.move_refused q m)
