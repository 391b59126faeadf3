-- The parts of a line put together: where each ends, where it fails, and what it is.
-- Assumes nothing.
use Rattle.std.proofs.Common.{◌≡◌, ℕ, ◌+◌, ◌<◌, ◌≤◌, List, [], ◌∷◌, ◌++◌, length, drop, codes, Result, sym, refl, ap, ◌∙◌, subst, append_assoc, arith}
use Rattle.calls.specs.Texts.{Shallow}
use Rattle.lines.specs.Faults.{RightLine}
use Rattle.std.proofs.lemmas.List.{append_cancel_right, append-nil, drop_all, take_all}
use Rattle.std.proofs.lemmas.Result.{MatchResult-weaker}
use Rattle.games.specs.declared.side.Side.{Side}
use Rattle.calls.specs.declared.fault.TextFault.{TextFault}
use Rattle.calls.specs.declared.fault.TextFault.TheVariants.{WrongByte}
use Rattle.lines.specs.Machine.{Symbol, just, line, squares, cells, from, text, weight, Stands}
use Rattle.lines.specs.Questions.{Faulty, DescribesPart, kind_of, DescribesBoard, a_plain, a_minus, a_sum, a_form, DescribesSubject, a_value, a_comparison, a_first_move}
use Rattle.lines.specs.Reading.{Passed, Failed, Reads, Walked, ClosedRead, PairRead, SideRead, TextRead, BoardRead, BoardRest, SubjectRead, ContentRest, QuestionRest, QuestionRead}
use Rattle.lines.specs.Spots.{symbols}
use Rattle.lines.specs.Syntax.{Board, domineering, toads, hackenbush, plain, minus, sum, written, Line, value, comparison, first_move, spell, heading as heading_of, items_of, spell_board, spell_subject}
use Rattle.lines.specs.Words.{kind_word, kind_spot, heading_word, ask_word}
use Rattle.lines.specs.declared.question.Part.{Part}
use Rattle.lines.specs.declared.question.Kind.{Kind}
use Rattle.lines.specs.declared.question.Kind.TheVariants.{Domineering, Toads, Hackenbush}
use Rattle.lines.specs.declared.question.Board.{Board as BoardPart}
use Rattle.lines.specs.declared.question.Content.{Content}
use Rattle.lines.specs.declared.question.Content.TheVariants.{Plain, Minus as MinusContent, Sum as SumContent, Form as FormContent}
use Rattle.lines.specs.declared.question.Subject.{Subject as SubjectPart}
use Rattle.lines.specs.declared.question.Question.{Question}
use Rattle.lines.specs.declared.question.Question.TheVariants.{Value as ValueOf, Compare as CompareOf, Move as MoveOf}
use Rattle.lines.specs.declared.reader.Reader.{Reader}
use Rattle.lines.specs.declared.words.Ask.{Ask}
use Rattle.lines.specs.declared.words.Ask.TheVariants.{Value, Compare, Move}
use Rattle.lines.specs.declared.words.Heading.{Heading}
use Rattle.lines.specs.declared.words.Heading.TheVariants.{Minus, Sum, Form, Board as BoardHeading}
use Rattle.lines.proofs.Sound.{sound, alone}
use Rattle.lines.proofs.Standing.{stands_start, stands_wrong}
use Rattle.lines.proofs.Passing.{passed_++, passed_under, failed_after, failed_under}

-- one piece and the closing bracket
module _ {b m a : Reader} {x : Symbol} {w : List ℕ} (p : Passed b m (x ∷ []) [] w) where
  pub closed_passed : Passed m a (just 41 ∷ []) [] (41 ∷ []) → Passed b a (x ∷ just 41 ∷ []) [] (w ++ codes ")")
  closed_passed q = passed_++ (passed_under (just 41 ∷ []) refl p) q

  pub closed_failed : {f : TextFault} → Failed m a (just 41 ∷ []) f → Failed b a (x ∷ just 41 ∷ []) f
  closed_failed q = failed_after (passed_under (just 41 ∷ []) refl p) q

-- two pieces, a blank between them, and the closing bracket
module _ (x y : Symbol) (quiet : weight y ≡ 0) where
  pub first_failed : {b a : Reader} {f : TextFault} → Failed b a (x ∷ []) f → Failed b a (x ∷ just 32 ∷ y ∷ just 41 ∷ []) f
  first_failed q = failed_under (just 32 ∷ y ∷ just 41 ∷ []) (omega arith) q

  module _ {b m : Reader} {w : List ℕ} (p : Passed b m (x ∷ []) [] w) where
    first_passed : Passed b m (x ∷ just 32 ∷ y ∷ just 41 ∷ []) (just 32 ∷ y ∷ just 41 ∷ []) w
    first_passed = passed_under (just 32 ∷ y ∷ just 41 ∷ []) (omega arith) p

    pub blank_failed : {a : Reader} {f : TextFault} → Failed m a (just 32 ∷ []) f → Failed b a (x ∷ just 32 ∷ y ∷ just 41 ∷ []) f
    blank_failed q = failed_after first_passed (failed_under (y ∷ just 41 ∷ []) (omega arith) q)

    module _ {n : Reader} (q : Passed m n (just 32 ∷ []) [] (32 ∷ [])) where
      blank_passed : Passed b n (x ∷ just 32 ∷ y ∷ just 41 ∷ []) (y ∷ just 41 ∷ []) (w ++ (32 ∷ []))
      blank_passed = passed_++ first_passed (passed_under (y ∷ just 41 ∷ []) (omega arith) q)

      pub second_failed : {a : Reader} {f : TextFault} → Failed n a (y ∷ []) f → Failed b a (x ∷ just 32 ∷ y ∷ just 41 ∷ []) f
      second_failed r = failed_after blank_passed (failed_under (just 41 ∷ []) refl r)

      -- where the second piece begins
      pub second_place : n.at ≡ b.at + length (w ++ codes " ")
      second_place = blank_passed.goes.spans.ends

      module _ {o : Reader} {v : List ℕ} (r : Passed n o (y ∷ []) [] v) where
        second_passed : Passed b o (x ∷ just 32 ∷ y ∷ just 41 ∷ []) (just 41 ∷ []) ((w ++ (32 ∷ [])) ++ v)
        second_passed = passed_++ blank_passed (passed_under (just 41 ∷ []) refl r)

        pub last_failed : {a : Reader} {f : TextFault} → Failed o a (just 41 ∷ []) f → Failed b a (x ∷ just 32 ∷ y ∷ just 41 ∷ []) f
        last_failed z = failed_after second_passed z

        pub last_passed : {a : Reader} → Passed o a (just 41 ∷ []) [] (41 ∷ []) → Passed b a (x ∷ just 32 ∷ y ∷ just 41 ∷ []) [] (w ++ (codes " " ++ (v ++ codes ")")))
        last_passed {a} z = subst (λ t. Passed b a (x ∷ just 32 ∷ y ∷ just 41 ∷ []) [] t) (ap (λ t. t ++ codes ")") (append_assoc w (32 ∷ []) v) ∙ append_assoc w (32 ∷ v) (codes ")")) (passed_++ second_passed z)

-- an opening bracket and a word
pub headed : {b m a : Reader} {x y : Symbol} {rest : List Symbol} {w : List ℕ} (v : List ℕ) → Passed b m (x ∷ []) (y ∷ []) (40 ∷ []) → Passed m a (y ∷ []) rest w → w ≡ v → Passed b a (x ∷ []) rest (40 ∷ v)
headed {b} {m} {a} {x} {y} {rest} {w} v p q e = subst (λ z. Passed b a (x ∷ []) rest (40 ∷ z)) e (passed_++ p q)

-- a whole answer behind what has been passed
pub tail : {A : Type 0} {b m : Reader} {s rest : List Symbol} {u : List ℕ} (a : Reader) (answer : Result A TextFault) (P Q : A → List ℕ → Type 0)
    → Passed b m s rest u → ((x : A) (w : List ℕ) → P x w → Q x (u ++ w)) → Reads m a rest P answer → Reads b a s Q answer
tail {A} {b} {m} {s} {rest} {u} a answer P Q g h c = MatchResult-weaker answer c (λ x (w, k, p). (u ++ w, passed_++ g k, h x w p)) (λ f k. failed_after g k)

-- boards
described : (b : Board) (place i : ℕ) (part : Part) (w u : List ℕ) → w ≡ u ++ codes ")" → DescribesPart i part u → items_of b ++ codes ")" ≡ w → i ≡ place + length (heading_of b)
    → DescribesBoard place (record { place = place; kind = kind_of b; items = part }) b
described b place i part w u e d f p =
    let g : u ≡ items_of b = append_cancel_right u (items_of b) (codes ")") (sym e ∙ sym f) in
    record { begins = refl; kind = refl; items = subst (λ z. DescribesPart (place + length (heading_of b)) part z) g (subst (λ z. DescribesPart z part u) p d) }

pub board_of : (kind : Kind) (place i : ℕ) (part : Part) (w : List ℕ) (walked : Walked (symbols (kind_spot kind)) 41 w) → DescribesPart i part walked.0 → BoardRest place kind i (record { place = place; kind = kind; items = part }) w
board_of Domineering place i part w (u, e, r) d =
    let (rows, f) = alone squares w (sound w (squares ∷ []) r) in
    (domineering rows, ap (λ z. codes "(domineering " ++ z) f, described (domineering rows) place i part w u e d f)
board_of Toads place i part w (u, e, r) d =
    let (these, f) = alone cells w (sound w (cells ∷ []) r) in
    (toads these, ap (λ z. codes "(toads " ++ z) f, described (toads these) place i part w u e d f)
board_of Hackenbush place i part w (u, e, r) d =
    let (edges, f) = alone from w (sound w (from ∷ []) r) in
    (hackenbush edges, ap (λ z. codes "(hackenbush " ++ z) f, described (hackenbush edges) place i part w u e d f)

-- the text of a form
pub text_of : (i : ℕ) (part : Part) (w : List ℕ) (last : ℕ) → Walked (text ∷ []) last w → DescribesPart i part w → TextRead i part w
text_of i part w last (u, e, r) d = let (g, f) = alone text w (sound w (text ∷ []) r) in (g, f, d)

pub board_read_of : {i l : ℕ} (kind : Kind) (part : BoardPart) (w : List ℕ) → l ≡ i + length (40 ∷ kind_word kind) → BoardRest i kind l part w → BoardRead i part (40 ∷ (kind_word kind ++ w))
board_read_of kind part w n (b, e, d) = (b, e, d n)

-- subjects
pub minus_of : {i : ℕ} (p : BoardPart) (w : List ℕ) (place : ℕ) → ClosedRead BoardRead i p w → ContentRest place Minus i (MinusContent p) w
minus_of p w place (u, n, (b, e, d)) =
    (minus b, ap (λ z. codes "(minus " ++ (z ++ codes ")")) e ∙ ap (λ z. codes "(minus " ++ z) (sym n), λ q. a_minus p b (subst (λ z. DescribesBoard z p b) q d))

pub sum_of : {i : ℕ} (p q : BoardPart) (w : List ℕ) (place : ℕ) → PairRead BoardRead BoardRead i (p, q) w → ContentRest place Sum i (SumContent p q) w
sum_of p q w place (u, v, n, (a, e, d), (b, f, g)) = (
  sum a b,
  ap (λ z. codes "(sum " ++ z) (ap (λ z. z ++ (codes " " ++ (spell_board b ++ codes ")"))) e ∙ (ap (λ z. u ++ (codes " " ++ (z ++ codes ")"))) f ∙ sym n)),
  λ h. a_sum p q a b (subst (λ z. DescribesBoard z p a) h d) (subst (λ z. DescribesBoard z q b) (let k = ap (λ z. length (z ++ codes " ")) e in omega arith) g),
)

pub form_of : {i : ℕ} (p : Part) (w : List ℕ) (place : ℕ) → ClosedRead TextRead i p w → ContentRest place Form i (FormContent p) w
form_of p w place (u, n, (g, e, d)) =
    (written g, ap (λ z. codes "(form " ++ (z ++ codes ")")) e ∙ ap (λ z. codes "(form " ++ z) (sym n), λ q. a_form p g (subst (λ z. DescribesPart (place + length (codes "(form ")) p z) (sym e) (subst (λ z. DescribesPart z p u) q d)))

pub plain_of : {i : ℕ} (kind : Kind) (p : BoardPart) (w : List ℕ) (place : ℕ) → BoardRest place kind i p w → ContentRest place (BoardHeading kind) i (Plain p) w
plain_of kind p w place (b, e, d) = (plain b, e, λ q. a_plain p b (d q))

pub subject_read_of : {i l : ℕ} (heading : Heading) (content : Content) (w : List ℕ) → l ≡ i + length (40 ∷ heading_word heading) → ContentRest i heading l content w → SubjectRead i (record { place = i; content = content }) (40 ∷ (heading_word heading ++ w))
subject_read_of heading content w n (s, e, d) = (s, e, record { begins = refl; content = d n })

-- questions
pub question_read_of : {i l : ℕ} (ask : Ask) (question : Question) (w : List ℕ) → l ≡ i + length (40 ∷ ask_word ask) → QuestionRest ask l question w → QuestionRead i question (40 ∷ (ask_word ask ++ w))
question_read_of ask question w n (s, e, d) = (s, e, λ z. d (omega arith))

pub value_of : {i : ℕ} (p : SubjectPart) (w : List ℕ) → ClosedRead SubjectRead i p w → QuestionRest Value i (ValueOf p) w
value_of p w (u, n, (s, e, d)) =
    (value s, ap (λ z. codes "(value " ++ (z ++ codes ")")) e ∙ ap (λ z. codes "(value " ++ z) (sym n), λ q. a_value p s (subst (λ z. DescribesSubject z p s) q d))

pub comparison_of : {i : ℕ} (p q : SubjectPart) (w : List ℕ) → PairRead SubjectRead SubjectRead i (p, q) w → QuestionRest Compare i (CompareOf p q) w
comparison_of p q w (u, v, n, (a, e, d), (b, f, g)) = (
  comparison a b,
  ap (λ z. codes "(compare " ++ z) (ap (λ z. z ++ (codes " " ++ (spell_subject b ++ codes ")"))) e ∙ (ap (λ z. u ++ (codes " " ++ (z ++ codes ")"))) f ∙ sym n)),
  λ h. a_comparison p q a b (subst (λ z. DescribesSubject z p a) h d) (subst (λ z. DescribesSubject z q b) (let k = ap (λ z. length (z ++ codes " ")) e in omega arith) g),
)

pub first_move_of : {i : ℕ} (s : Side) (q : BoardPart) (w : List ℕ) → PairRead SideRead BoardRead i (s, q) w → QuestionRest Move i (MoveOf s q) w
first_move_of s q w (u, v, n, e, (b, f, g)) = (
  first_move s b,
  ap (λ z. codes "(move " ++ z) (ap (λ z. z ++ (codes " " ++ (spell_board b ++ codes ")"))) (sym e) ∙ (ap (λ z. u ++ (codes " " ++ (z ++ codes ")"))) f ∙ sym n)),
  λ h. a_first_move s q b (subst (λ z. DescribesBoard z q b) (let k = ap (λ z. length (z ++ codes " ")) e in omega arith) g),
)

-- the whole line, from its start
module _ {t : List ℕ} (b : Reader) (here : b.line.now ≡ t) (start : b.at ≡ 0) where
  starts : Stands b.line.now b.at (line ∷ [])
  starts = subst (λ i. Stands b.line.now i (line ∷ [])) (sym start) (stands_start b.line.now)

  pub line_fails : {a : Reader} {f : TextFault} → Failed b a (line ∷ []) f → Faulty t f
  line_fails {a} {f} q = subst (λ z. Faulty z f) here (q.fails.faulty [] refl starts)

  module _ {m : Reader} {w : List ℕ} (p : Passed b m (line ∷ []) [] w) where
    at_end : Stands b.line.now m.at []
    at_end = p.goes.passes [] refl starts

    pub more_bytes : (f : TextFault) → m.at < length m.line.now → f ≡ WrongByte m.at → Faulty t f
    more_bytes f l e =
        let k : m.at < length b.line.now = subst (λ z. m.at < length z) p.same l in
        subst (λ z. Faulty z f) here (subst (λ y. Faulty b.line.now y) (sym e) (stands_wrong at_end k refl))

    pub right_line : (l : Line) → length m.line.now ≤ m.at → spell l ≡ w → RightLine t l
    right_line l n e =
        let k : length b.line.now ≤ m.at = subst (λ z. length z ≤ m.at) p.same n in
        let d : drop b.at b.line.now ≡ b.line.now = ap (λ i. drop i b.line.now) start in
        let c : b.line.now ≡ w = sym d ∙ (p.goes.spans.bytes ∙ (ap (λ y. w ++ y) (drop_all m.at b.line.now k) ∙ append-nil w)) in
        subst (λ z. RightLine z l) here (record { spelt = e ∙ sym c; shallow = subst Shallow (take_all m.at b.line.now k) at_end.shallow })
