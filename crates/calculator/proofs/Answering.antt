-- A line is answered, from what was replied to its question.
-- Assumes nothing.
use Rattle.std.proofs.Common.{◌≡◌, ℕ, ◌+◌, ◌^◌, ◌<◌, ◌≤◌, List, ◌++◌, length, take, drop, codes, Ok, Err, Result, sym, refl, ap, ◌∙◌, subst, zero-add, arith}
use Rattle.std.proofs.lemmas.List.{append_assoc, drop-append-le, length-append, take-append-drop, length-take-le}
use Rattle.games.specs.declared.side.Side.{Side}
use Rattle.calls.specs.Rows.{Rows}
use Rattle.calls.specs.Faults as Calls
use Rattle.calls.specs.declared.fault.TextFault.{TextFault}
use Rattle.lines.specs.Syntax.{Board, Subject, Line, value, comparison, first_move, spell, spell_subject}
use Rattle.lines.specs.Faults.{RightLine, Fault}
use Rattle.lines.specs.Questions.{DescribesBoard, DescribesSubject, Describes, a_value, a_comparison, a_first_move}
use Rattle.lines.specs.declared.question.Board.{Board as BoardPart}
use Rattle.lines.specs.declared.question.Subject.{Subject as SubjectPart}
use Rattle.lines.specs.declared.question.Question.TheVariants.{Value, Compare, Move}
use Rattle.dictionary.specs.Printing.{over}
use Rattle.calculator.specs.declared.fault.CalculatorFault.{CalculatorFault}
use Rattle.calculator.specs.declared.fault.CalculatorFault.TheVariants.{LongLine, Line as LineFault}
use Rattle.calculator.specs.Faults.{number_of, place_of}
use Rattle.calculator.specs.Replies.{Answers, fault_text, value_place, first_place, second_place, board_place}
use Rattle.calculator.specs.Written.{AtFront, Replied, Handled, Answered}

-- what a question asks is what the line says, part by part
pub value_is : (l : Line) (p : SubjectPart) → Describes (Value p) l → (s : Subject) × (l ≡ value s) × DescribesSubject value_place p s
value_is l p (a_value q s d) = (s, refl, d)

pub comparison_is : (l : Line) (p q : SubjectPart) → Describes (Compare p q) l → (s : Subject) × (u : Subject) × (l ≡ comparison s u) × DescribesSubject first_place p s × DescribesSubject (second_place s) q u
comparison_is l p q (a_comparison x y s u d e) = (s, u, refl, d, e)

pub first_move_is : (l : Line) (side : Side) (p : BoardPart) → Describes (Move side p) l → (b : Board) × (l ≡ first_move side b) × DescribesBoard (board_place side) p b
first_move_is l side p (a_first_move z q b d) = (b, refl, d)

-- its subjects end before the line does
pub value_fits : (s : Subject) → length (spell (value s)) ≤ 1000 → value_place + length (spell_subject s) < 2 ^ 64
value_fits s h = let l = length-append (spell_subject s) (codes ")") in omega arith

pub first_fits : (s u : Subject) → length (spell (comparison s u)) ≤ 1000 → first_place + length (spell_subject s) < 2 ^ 64
first_fits s u h = let l = length-append (spell_subject s) (codes " " ++ (spell_subject u ++ codes ")")) in omega arith

pub second_fits : (s u : Subject) → length (spell (comparison s u)) ≤ 1000 → second_place s + length (spell_subject u) < 2 ^ 64
second_fits s u h =
    let l = length-append (spell_subject s) (codes " " ++ (spell_subject u ++ codes ")")) in
    let m = length-append (spell_subject u) (codes ")") in
    let n = length-append (spell_subject s) (codes " ") in
    omega arith

module _ (c : ℕ) (rows : Rows) (line before after : List ℕ) (later : Rows) where
  pub long_handled : 1000 < length line → Handled c rows line before before rows (Err LongLine)
  long_handled h = Handled.faulty LongLine (Answers.long_line h) refl

  pub fault_handled : (f : TextFault) (r : Result ℕ CalculatorFault) → r ≡ Err (LineFault f) → length line ≤ 1000 → Fault line (Calls.number_of f) (Calls.place_of f) → Handled c rows line before before rows r
  fault_handled f r e h x = subst (Handled c rows line before before rows) (sym e) (Handled.faulty (LineFault f) (Answers.faulty h x) refl)

  -- what was replied to a right line is what a line is answered
  pub right_handled : (l : Line) (r : Result ℕ CalculatorFault) → length line ≤ 1000 → RightLine line l → Replied c rows l before after later r → Handled c rows line before after later r
  right_handled l (Ok n) h w (Replied.told t x e y z) = Handled.told t (Answers.right h w x) e y z
  right_handled l (Err f) h w (Replied.faulty g x e) = Handled.faulty f (Answers.right h w x) e

-- the answer stands in the first 4,096 bytes of the buffer, and the bytes behind them are left
module _ (c : ℕ) (rows : Rows) (line before first : List ℕ) (later : Rows) (enough : 4096 ≤ length before) (front : first ≡ take 4096 before) where
  whole : before ≡ first ++ drop 4096 before
  whole = sym (take-append-drop 4096 before) ∙ ap (λ z. z ++ drop 4096 before) (sym front)

  room : length first ≡ 4096
  room = ap length front ∙ length-take-le 4096 before enough

  behind : (t : List ℕ) → length t ≤ 4096 → drop (length t) first ++ drop 4096 before ≡ drop (length t) before
  behind t small = let r = room in sym (drop-append-le (length t) first (drop 4096 before) (omega arith)) ∙ ap (drop (length t)) (sym whole)

  stands : (t out : List ℕ) → length t ≤ 4096 → AtFront first t out → AtFront before t (out ++ drop 4096 before)
  stands t out small w = ap (λ z. z ++ drop 4096 before) w ∙ append_assoc t (drop (length t) first) (drop 4096 before) ∙ ap (λ z. t ++ z) (behind t small)

  pub told_answered : (out : List ℕ) (n : ℕ) → Handled c rows line first out later (Ok n) → Answered c rows line before (out ++ drop 4096 before) later (Ok n)
  told_answered out n (Handled.told t x e small w) = Answered.written t enough x e (stands t out small w)

  abbrev over_front : List ℕ → List ℕ → List ℕ
  over_front t xs = over xs 0 t

  pub fault_answered : (out put : List ℕ) (f : CalculatorFault) (n : ℕ) → Handled c rows line first out later (Err f) → n ≡ length (fault_text (number_of f) (place_of f)) → put ≡ over out 0 (fault_text (number_of f) (place_of f))
      → n ≤ 4096 → Answered c rows line before (put ++ drop 4096 before) later (Ok n)
  fault_answered out put f n (Handled.faulty g x same) e w small =
      let t = fault_text (number_of f) (place_of f) in
      Answered.written t enough x e (stands t put (omega arith) (w ∙ ap (over_front t) same ∙ ap (λ k. t ++ drop k first) (zero-add (length t))))
