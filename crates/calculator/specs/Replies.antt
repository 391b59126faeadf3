-- What the calculator writes for a line.
-- Assumes nothing.
use Rattle.std.specs.Prelude.{◌≡◌, ℕ, ◌<◌, ◌≤◌, false, cond, List, [], ◌∷◌, ◌++◌, length, Some, None, codes, Option, nat_le}
use Rattle.games.specs.declared.outcome.Outcome.{Outcome}
use Rattle.games.specs.declared.side.Side.{Side}
use Rattle.games.specs.Outcomes.{compare, letter, outcome, sign}
use Rattle.games.specs.Text.{bytes}
use Rattle.calls.specs.Rows.{Rows, node}
use Rattle.calls.specs.Answers.{told, refused_at}
use Rattle.calls.specs.Entering.{Entry}
use Rattle.calls.specs.Positions.{FirstMoves}
use Rattle.lines.specs.Syntax.{Board, Subject, Line, value, comparison, first_move, numeral, spell_subject, spell_side}
use Rattle.lines.specs.Faults.{RightLine, Fault}
use Rattle.valuing.specs.Moved.{Earliest}
use Rattle.boards.specs.Boards.{Position, meaning}
use Rattle.calculator.specs.Subjects.{EntersSubject}

-- `fault`, the number and the place
abbrev pub fault_text : ℕ → ℕ → List ℕ
fault_text k i = codes "fault " ++ (numeral k ++ (codes " " ++ numeral i))

-- a node's number and its outcome, a space after each; and then its text
abbrev pub head_text : ℕ → Outcome → List ℕ
head_text n o = numeral n ++ (32 ∷ letter o ∷ 32 ∷ [])

abbrev pub value_text : Rows → ℕ → List ℕ
value_text rows n = head_text n (outcome (node rows n)) ++ bytes (node rows n)

-- the index of a move, or `none`
abbrev pub move_text : Option ℕ → List ℕ
move_text None = codes "none"
move_text (Some i) = numeral i

-- an answer of at most 4,096 bytes, or the fault 5 at 0
abbrev pub short : List ℕ → List ℕ
short t = cond (nat_le (length t) 4096) t (fault_text 5 0)

-- where the first subject of a line stands, the second one of a comparison, and the board of a move
abbrev pub value_place : ℕ
value_place = length (codes "(value ")

abbrev pub first_place : ℕ
first_place = length (codes "(compare ")

abbrev pub second_place : Subject → ℕ
second_place s = length (codes "(compare " ++ (spell_subject s ++ codes " "))

abbrev pub board_place : Side → ℕ
board_place side = length (codes "(move " ++ (spell_side side ++ codes " "))

-- What is written for a right line, and the rows after. Each subject is done before the next.
pub data Replies (capacity : ℕ) (rows : Rows) : Line → List ℕ → Rows → Type 0 where
  value_told : {s : Subject} {n : ℕ} {after : Rows} → EntersSubject capacity rows value_place s (told n) after
      → Replies capacity rows (value s) (short (value_text after n)) after
  value_refused : {s : Subject} {k i : ℕ} {after : Rows}
      → EntersSubject capacity rows value_place s (refused_at k i) after
      → Replies capacity rows (value s) (fault_text k i) after
  compared : {s u : Subject} {m n : ℕ} {between after : Rows}
      → EntersSubject capacity rows first_place s (told m) between
      → EntersSubject capacity between (second_place s) u (told n) after
      → Replies capacity rows (comparison s u) (sign (compare (node after m) (node after n))) after
  first_refused : {s u : Subject} {k i : ℕ} {after : Rows}
      → EntersSubject capacity rows first_place s (refused_at k i) after
      → Replies capacity rows (comparison s u) (fault_text k i) after
  second_refused : {s u : Subject} {m k i : ℕ} {between after : Rows}
      → EntersSubject capacity rows first_place s (told m) between
      → EntersSubject capacity between (second_place s) u (refused_at k i) after
      → Replies capacity rows (comparison s u) (fault_text k i) after
  move_oversized : {side : Side} {b : Board} → meaning b ≡ None
      → Replies capacity rows (first_move side b) (fault_text 10 (board_place side)) rows
  move_illegal : {side : Side} {b : Board} {p : Position} → meaning b ≡ Some p → p.rules.legal p.code ≡ false
      → Replies capacity rows (first_move side b) (fault_text 4 (board_place side)) rows
  move_told : {side : Side} {b : Board} {p : Position} {w : Option ℕ} {after : Rows} {es : List Entry}
      → meaning b ≡ Some p → FirstMoves p.rules capacity rows side p.code (told w) after es
      → Earliest p.rules side p.code (told w) → Replies capacity rows (first_move side b) (move_text w) after
  move_refused : {side : Side} {b : Board} {p : Position} {k code : ℕ} {after : Rows} {es : List Entry}
      → meaning b ≡ Some p → FirstMoves p.rules capacity rows side p.code (refused_at k code) after es
      → Replies capacity rows (first_move side b) (fault_text k (board_place side)) after

-- What is written for any line, and the rows after: first a line that is too long, then a fault of the line, then what the line asks.
pub data Answers (capacity : ℕ) (rows : Rows) (line : List ℕ) : List ℕ → Rows → Type 0 where
  long_line : 1000 < length line → Answers capacity rows line (fault_text 13 1000) rows
  faulty : {f i : ℕ} → length line ≤ 1000 → Fault line f i → Answers capacity rows line (fault_text f i) rows
  right : {l : Line} {t : List ℕ} {after : Rows} → length line ≤ 1000 → RightLine line l
      → Replies capacity rows l t after → Answers capacity rows line t after
