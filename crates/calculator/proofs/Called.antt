-- A line is answered by calls of a run: its subjects are valued or read, or first moves are looked for.
-- Assumes nothing.
use Rattle.std.proofs.Common.{◌≡◌, ℕ, Bool, true, false, cond, List, length, Some, None, Option, sym, refl, subst, arith}
use Rattle.std.specs.Option.{option_map}
use Rattle.std.proofs.lemmas.Bool.{and_parts, leb-true}
use Rattle.games.specs.declared.side.Side.{Side}
use Rattle.rulesets.specs.Rules.{Rules, Lawful}
use Rattle.domineering.specs.Lawful.{domineering_lawful}
use Rattle.toads.specs.LawsLemmas.{toads_lawful}
use Rattle.hackenbush.specs.Hackenbush.{fits}
use Rattle.hackenbush.specs.Lawful.{lawful}
use Rattle.sums.specs.Parts.{minus_lawful, plus_lawful}
use Rattle.calls.specs.Rows.{Rows}
use Rattle.calls.specs.Answers.{Answer}
use Rattle.calls.specs.Runs.{Past, Call, Calls, grown, none_yet, one_more}
use Rattle.calls.specs.Positions.{FirstMoves, Values}
use Rattle.calls.specs.Reading.{Reads}
use Rattle.calls.specs.Entering.{Entry}
use Rattle.lines.specs.Syntax.{Board, domineering, toads, hackenbush, Subject, plain, minus, sum, written, Line}
use Rattle.boards.specs.Boards.{Position, meaning, joints, rows_fit, rows_position, cells_position, edges_position, all}
use Rattle.calculator.specs.Lines.{LinesAreCalls}
use Rattle.calculator.specs.Replies.{Answers, Replies}
use Rattle.calculator.specs.Subjects.{added, negated, position_of, EntersSubject}

-- what a board stands for is lawful
some_is : {x p : Position} → ◌≡◌ {A = Option Position} (Some x) (Some p) → x ≡ p
some_is e = cc

none_not : {p : Position} → ◌≡◌ {A = Option Position} None (Some p) → ⊥
none_not e = let z : ◌≡◌ {A = ℕ} 0 1 = cc in omega arith

when : (b : Bool) (x p : Position) → (b ≡ true → Lawful x.rules) → cond b (Some x) None ≡ Some p → Lawful p.rules
when true x p l e = subst (λ z. Lawful z.rules) (some_is e) (l refl)
when false x p l e = absurd (none_not e)

board_lawful : (b : Board) (p : Position) → meaning b ≡ Some p → Lawful p.rules
board_lawful (domineering rows) p e = when (rows_fit rows) (rows_position rows) p (λ h. domineering_lawful _ _ (and_parts _ _ h).1) e
board_lawful (toads cells) p e = when _ (cells_position cells) p (λ h. toads_lawful (length (all cells)) (leb-true _ 12 (and_parts _ _ h).1)) e
board_lawful (hackenbush edges) p e = when (fits (joints edges)) (edges_position edges) p (λ h. lawful (joints edges) h) e

minus_is : (m : Option Position) (p : Position) → ((q : Position) → m ≡ Some q → Lawful q.rules) → option_map negated m ≡ Some p → Lawful p.rules
minus_is None p l e = absurd (none_not e)
minus_is (Some q) p l e = subst (λ z. Lawful z.rules) (some_is e) (minus_lawful q.rules (l q refl))

sum_is : (m n : Option Position) (p : Position) → ((q : Position) → m ≡ Some q → Lawful q.rules) → ((q : Position) → n ≡ Some q → Lawful q.rules) → added m n ≡ Some p → Lawful p.rules
sum_is None n p l k e = absurd (none_not e)
sum_is (Some q) None p l k e = absurd (none_not e)
sum_is (Some q) (Some r) p l k e = subst (λ z. Lawful z.rules) (some_is e) (plus_lawful q.rules r.rules (l q refl) (k r refl))

subject_lawful : (s : Subject) (p : Position) → position_of s ≡ Some p → Lawful p.rules
subject_lawful (plain b) p e = board_lawful b p e
subject_lawful (minus b) p e = minus_is (meaning b) p (board_lawful b) e
subject_lawful (sum a b) p e = sum_is (meaning a) (meaning b) p (board_lawful a) (board_lawful b) e
subject_lawful (written g) p e = absurd (none_not e)

-- some more calls lead from what the calls so far have left to these rows
abbrev More : ℕ → Rows → Rows → Type 0
More c rows after = (p : Past) → p.rows ≡ rows → (q : Past) × Calls c p q × (q.rows ≡ after)

nothing_more : {c : ℕ} (rows : Rows) → More c rows rows
nothing_more rows p e = (p, none_yet, e)

calls_then : {c : ℕ} {p q r : Past} → Calls c p q → Calls c q r → Calls c p r
calls_then x none_yet = x
calls_then x (one_more y z) = one_more (calls_then x y) z

more_then : {c : ℕ} {rows between after : Rows} → More c rows between → More c between after → More c rows after
more_then f g p e = let (q, x, same) = f p e in let (r, y, is) = g q same in (r, calls_then x y, is)

value_more : {R : Rules} {c code : ℕ} {rows after : Rows} {a : Answer ℕ} {es : List Entry} → Lawful R → Values R c rows code a after es → More c rows after
value_more {R} {c} {code} {rows} {after} {a} {es} l v p e = (grown p after es, one_more none_yet (Call.value R l code (subst (λ z. Values R c z code a after es) (sym e) v)), refl)

read_more : {c : ℕ} {rows after : Rows} {t : List ℕ} {a : Answer ℕ} {es : List Entry} → Reads c rows t a after es → More c rows after
read_more {c} {rows} {after} {t} {a} {es} v p e = (grown p after es, one_more none_yet (Call.read t (subst (λ z. Reads c z t a after es) (sym e) v)), refl)

move_more : {R : Rules} {c code : ℕ} {rows after : Rows} {s : Side} {a : Answer (Option ℕ)} {es : List Entry} → Lawful R → FirstMoves R c rows s code a after es → More c rows after
move_more {R} {c} {code} {rows} {after} {s} {a} {es} l v p e = (grown p after es, one_more none_yet (Call.first_move R l s code (subst (λ z. FirstMoves R c z s code a after es) (sym e) v)), refl)

subject_more : {c i : ℕ} {s : Subject} {rows after : Rows} {a : Answer ℕ} → EntersSubject c rows i s a after → More c rows after
subject_more {rows = rows} (EntersSubject.oversized h) = nothing_more rows
subject_more {rows = rows} (EntersSubject.illegal h l) = nothing_more rows
subject_more {s = s} (EntersSubject.valued {p = p} h l e v) = value_more (subject_lawful s p e) v
subject_more (EntersSubject.read g e r) = read_more r

reply_more : {c : ℕ} {rows after : Rows} {l : Line} {t : List ℕ} → Replies c rows l t after → More c rows after
reply_more (Replies.value_told x) = subject_more x
reply_more (Replies.value_refused x) = subject_more x
reply_more (Replies.compared x y) = more_then (subject_more x) (subject_more y)
reply_more (Replies.first_refused x) = subject_more x
reply_more (Replies.second_refused x y) = more_then (subject_more x) (subject_more y)
reply_more {rows = rows} (Replies.move_oversized h) = nothing_more rows
reply_more {rows = rows} (Replies.move_illegal h l) = nothing_more rows
reply_more (Replies.move_told {b = b} {p = p} h m e) = move_more (board_lawful b p h) m
reply_more (Replies.move_refused {b = b} {p = p} h m) = move_more (board_lawful b p h) m

pub lines_are_calls : LinesAreCalls
lines_are_calls c rows after line t (Answers.long_line h) = nothing_more rows
lines_are_calls c rows after line t (Answers.faulty h f) = nothing_more rows
lines_are_calls c rows after line t (Answers.right h w r) = reply_more r
