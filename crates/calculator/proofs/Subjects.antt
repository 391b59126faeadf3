-- Subjects of a line are entered, board by board.
-- Assumes nothing.
use Rattle.std.proofs.Common.{◌≡◌, ℕ, ◌+◌, ◌^◌, ◌<◌, List, [], ◌∷◌, ◌++◌, length, Some, Ok, Err, codes, Result, sym, refl, ap, ◌∙◌, subst, subst₂, ap₂, inl, inr, arith}
use Rattle.std.proofs.lemmas.List.{length-append}
use Rattle.calls.specs.Rows.{Rows}
use Rattle.calls.specs.Answers.{Answer, refused_at}
use Rattle.sums.specs.Sums
use Rattle.calls.specs.Reading.{Reads}
use Rattle.games.specs.Form.{Form as Game}
use Rattle.games.specs.Text.{bytes}
use Rattle.lines.specs.Syntax.{Board, Subject, plain, minus, sum, written, spell_board, spell_subject}
use Rattle.lines.specs.Questions.{DescribesPart, DescribesBoard, DescribesContent, a_plain, a_minus, a_sum, a_form}
use Rattle.lines.specs.declared.question.Part.{Part}
use Rattle.lines.specs.declared.question.Board.{Board as BoardPart}
use Rattle.lines.specs.declared.question.Content.TheVariants.{Plain, Minus, Sum, Form}
use Rattle.boards.specs.Boards.{Position}
use Rattle.boards.specs.AnyBoards.{any_rules}
use Rattle.boards.specs.declared.setup.Setup.{Setup}
use Rattle.calculator.specs.declared.fault.CalculatorFault.{CalculatorFault}
use Rattle.reading.specs.Faults.{ReadFault, fault_place, read_answer, read_number}
use Rattle.reading.specs.TextRead.{TextRead}
use Rattle.calculator.specs.declared.fault.CalculatorFault.TheVariants.{Text}
use Rattle.calculator.proofs.Places.{reads_bound}
use Rattle.calculator.specs.Entering.{ReadAt, ValuedAt}
use Rattle.calculator.specs.Faults.{answer_of, number_of, place_of}
use Rattle.calculator.specs.Laying.{Laid, Permitted, Stood, StoodBoth, RefusedBoth, first_size, second_size, first_position, second_position}
use Rattle.calculator.specs.Subjects.{boards_of, position_of, from_place, EntersSubject}

-- a board that is set up stands if its position is legal
pub stood_not : (j : ℕ) (b : Board) (f : CalculatorFault) → Laid j b (Err f) → Stood j b (Err f)
stood_not j b f l = (l.2, inl (l.1, l.0))

pub stood_illegal : (j i : ℕ) (b : Board) (s : Setup) (f : CalculatorFault) → i ≡ j → Laid j b (Ok s) → Permitted s i (Err f) → Stood j b (Err f)
stood_illegal j i b s f e l p = (ap place_of p.1 ∙ e, inr (ap number_of p.1, rw l, rw l p.0))

-- one of two boards is refused
module _ (i j : ℕ) (a b : Board) where
  pub both_first : (f : CalculatorFault) → Laid i a (Err f) → StoodBoth i a j b (Err f)
  both_first f l = subst₂ (λ k p. RefusedBoth i a j b k p) (sym l.1) (sym l.2) (first_size l.0)

  module _ (s : Setup) (left : Laid i a (Ok s)) where
    pub both_second : (f : CalculatorFault) → Laid j b (Err f) → StoodBoth i a j b (Err f)
    both_second f l = subst₂ (λ k p. RefusedBoth i a j b k p) (sym l.1) (sym l.2) (second_size (rw left) l.0)

    module _ (t : Setup) (right : Laid j b (Ok t)) where
      pub both_third : (f : CalculatorFault) (k : ℕ) → k ≡ i → Permitted s k (Err f) → StoodBoth i a j b (Err f)
      both_third f k e p = subst₂ (λ k p. RefusedBoth i a j b k p) (sym (ap number_of p.1)) (sym (ap place_of p.1 ∙ e)) (first_position (rw left) (rw right) (rw left p.0))

      pub both_fourth : (f : CalculatorFault) (k m : ℕ) (u : Unit {0}) → k ≡ j → Permitted s m (Ok u) → Permitted t k (Err f) → StoodBoth i a j b (Err f)
      both_fourth f k m u e p q = subst₂ (λ k p. RefusedBoth i a j b k p) (sym (ap number_of q.1)) (sym (ap place_of q.1 ∙ e)) (second_position (rw left) (rw right) (rw left p) (rw right q.0))

-- a subject with one board
module _ (c : ℕ) (rows : Rows) (i : ℕ) (s : Subject) (j : ℕ) (b : Board) (one : boards_of i s ≡ record { place = j; board = b } ∷ []) where
  -- the board does not stand
  pub one_refused : (f : CalculatorFault) (r : Result ℕ CalculatorFault) → r ≡ Err f → Stood j b (Err f) → EntersSubject c rows i s (answer_of r) rows
  one_refused f r e l =
      subst (λ y. EntersSubject c rows i s (answer_of y) rows) (sym e)
      (elim l.1 [
        | inl x ↦ subst₂ (λ k p. EntersSubject c rows i s (refused_at k p) rows) (sym x.0) (sym l.0) (EntersSubject.oversized (rw (one, x.1)))
        | inr x ↦ subst₂ (λ k p. EntersSubject c rows i s (refused_at k p) rows) (sym x.0) (sym l.0) (EntersSubject.illegal (rw (one, x.1)) (rw (one, x.2)))
      ])

  -- its position is valued
  pub one_valued : (t : Setup) → Stood j b (Ok t) → (q : Position) → position_of s ≡ Some q → (a : Answer ℕ) (after : Rows) → ValuedAt q.rules c rows i q.code a after → EntersSubject c rows i s a after
  one_valued t l q e a after v = subst (λ y. EntersSubject c rows i s y after) (sym v.answers) (EntersSubject.valued (rw (one, l.0)) (rw (one, l.0, l.1)) e v.holds)

-- a sum
module _ (c : ℕ) (rows : Rows) (i : ℕ) (a b : Board) where
  abbrev pub left_place : ℕ
  left_place = i + length (codes "(sum ")

  abbrev pub right_place : ℕ
  right_place = i + length (codes "(sum " ++ (spell_board a ++ codes " "))

  sum_refusal : (k p : ℕ) → RefusedBoth left_place a right_place b k p → EntersSubject c rows i (sum a b) (refused_at k p) rows
  sum_refusal k p (first_size m) = EntersSubject.oversized (rw m)
  sum_refusal k p (second_size l m) = EntersSubject.oversized (rw (l, m))
  sum_refusal k p (first_position l m n) = EntersSubject.illegal (rw (l, m)) (rw n)
  sum_refusal k p (second_position l m n o) = EntersSubject.illegal (rw (l, m)) (rw (n, o))

  pub sum_refused : (f : CalculatorFault) (r : Result ℕ CalculatorFault) → r ≡ Err f → StoodBoth left_place a right_place b (Err f) → EntersSubject c rows i (sum a b) (answer_of r) rows
  sum_refused f r e l = subst (λ y. EntersSubject c rows i (sum a b) (answer_of y) rows) (sym e) (sum_refusal (number_of f) (place_of f) l)

  pub sum_valued : (s : Setup × Setup) → StoodBoth left_place a right_place b (Ok s) → (x : Answer ℕ) (after : Rows)
      → ValuedAt (Sums.plus (any_rules s.0.board) (any_rules s.1.board)) c rows i (Sums.code_of (any_rules s.1.board) s.0.code s.1.code) x after → EntersSubject c rows i (sum a b) x after
  sum_valued s l x after v =
      subst (λ y. EntersSubject c rows i (sum a b) y after) (sym v.answers)
      (EntersSubject.valued (rw (l.0.0, l.1.0)) (rw (l.0.0, l.1.0, l.0.1, l.1.1)) (rw (l.0.0, l.1.0)) v.holds)

-- what a subject's part describes
pub plain_is : (i : ℕ) (s : Subject) (p : BoardPart) → DescribesContent i (Plain p) s → (b : Board) × (s ≡ plain b) × DescribesBoard i p b
plain_is i s p (a_plain q b d) = (b, refl, d)

pub minus_is : (i : ℕ) (s : Subject) (p : BoardPart) → DescribesContent i (Minus p) s → (b : Board) × (s ≡ minus b) × DescribesBoard (i + length (codes "(minus ")) p b
minus_is i s p (a_minus q b d) = (b, refl, d)

pub sum_is : (i : ℕ) (s : Subject) (p q : BoardPart) → DescribesContent i (Sum p q) s
    → (a : Board) × (b : Board) × (s ≡ sum a b) × DescribesBoard (i + length (codes "(sum ")) p a × DescribesBoard (i + length (codes "(sum " ++ (spell_board a ++ codes " "))) q b
sum_is i s p q (a_sum x y a b d e) = (a, b, refl, d, e)

pub form_is : (i : ℕ) (s : Subject) (p : Part) → DescribesContent i (Form p) s → (g : Game) × (s ≡ written g) × DescribesPart (i + length (codes "(form ")) p (bytes g)
form_is i s p (a_form q g d) = (g, refl, d)

-- a text of a line is read
module _ (c : ℕ) (rows : Rows) (i : ℕ) (s : Subject) (p : Part) (g : Game) (named : s ≡ written g) (d : DescribesPart (i + length (codes "(form ")) p (bytes g)) where
  pub text_small : i + length (spell_subject s) < 2 ^ 64 → p.place + length p.bytes.now < 2 ^ 64
  text_small h =
      let e : length (spell_subject s) ≡ length (codes "(form " ++ (bytes g ++ codes ")")) = ap (λ z. length (spell_subject z)) named in
      let l = length-append (bytes g) (codes ")") in
      let b = d.begins in
      let t = ap length d.holds in
      omega arith

  pub text_read : (a : Answer ℕ) (after : Rows) → ReadAt c rows p.place p.bytes.now a after → EntersSubject c rows i s a after
  text_read a after r =
      subst (λ y. EntersSubject c rows i s y after) (sym (r.answers ∙ ap (λ n. from_place n r.plain) d.begins))
      (EntersSubject.read g named (subst (λ t. Reads c rows t r.plain after r.entries) d.holds r.holds))

-- a text that is refused, at the place of its fault in the line
pub text_refused : (c : ℕ) (rows after : Rows) (start : ℕ) (text : List ℕ) (r : Result ℕ ReadFault) (f : ReadFault) (g : CalculatorFault) (q : Result ℕ CalculatorFault) → start + length text < 2 ^ 64 → TextRead c rows text (read_answer r) after → r ≡ Err f
    → (start + fault_place f < 2 ^ 64 → g ≡ Text (start + fault_place f) f) → q ≡ Err g → ReadAt c rows start text (answer_of q) after
text_refused c rows after start text r f g q small x was is e =
    let reads = subst (λ z. Reads c rows text (read_answer z) after x.entries) was x.holds in
    let b = reads_bound text reads in
    let same = is (omega arith) in
    record { plain = refused_at (read_number f) (fault_place f); entries = x.entries; holds = reads; answers = ap answer_of e ∙ ap₂ refused_at (ap number_of same) (ap place_of same) }
