-- What valuing a subject of a line comes to.
-- Assumes nothing.
use Rattle.std.specs.Prelude.{◌≡◌, ℕ, ◌+◌, Bool, false, cond, List, [], ◌∷◌, ◌++◌, length, is_some, Some, None, codes, Option}
use Rattle.std.specs.Option.{option_map}
use Rattle.games.specs.Text.{bytes}
use Rattle.sums.specs.Sums
use Rattle.calls.specs.Rows.{Rows}
use Rattle.calls.specs.Answers.{Answer, told, refused, refused_at}
use Rattle.calls.specs.Entering.{Entry}
use Rattle.calls.specs.Positions.{Values}
use Rattle.calls.specs.Reading.{Reads}
use Rattle.lines.specs.Syntax.{Board, Subject, plain, minus, sum, written, spell_board}
use Rattle.boards.specs.Boards.{Position, meaning}

-- a board, and the place of its opening bracket in the line
pub record Placed : Type 0 where
  pub place : ℕ
  pub board : Board

-- the boards of a subject whose opening bracket stands at the given place
abbrev pub boards_of : ℕ → Subject → List Placed
boards_of i (plain b) = record { place = i; board = b } ∷ []
boards_of i (minus b) = record { place = i + length (codes "(minus "); board = b } ∷ []
boards_of i (sum a b) = record { place = i + length (codes "(sum "); board = a } ∷ record { place = i + length (codes "(sum " ++ (spell_board a ++ codes " ")); board = b } ∷ []
boards_of i (written g) = []

-- the position that a board stands for is legal
abbrev pub is_legal : Option Position → Bool
is_legal None = false
is_legal (Some p) = p.rules.legal p.code

-- the place of the first board whose size is beyond its rules, and of the first whose position is not legal
abbrev pub first_oversized : List Placed → Option ℕ
first_oversized [] = None
first_oversized (x ∷ xs) = cond (is_some (meaning x.board)) (first_oversized xs) (Some x.place)

abbrev pub first_illegal : List Placed → Option ℕ
first_illegal [] = None
first_illegal (x ∷ xs) = cond (is_legal (meaning x.board)) (first_illegal xs) (Some x.place)

-- the position of a subject: a board's, its minus, or the sum of two
abbrev pub negated : Position → Position
negated p = record { rules = Sums.minus p.rules; code = p.code }

abbrev pub added : Option Position → Option Position → Option Position
added None q = None
added (Some p) None = None
added (Some p) (Some q) = Some (record { rules = Sums.plus p.rules q.rules; code = Sums.code_of q.rules p.code q.code })

abbrev pub position_of : Subject → Option Position
position_of (plain b) = meaning b
position_of (minus b) = option_map negated (meaning b)
position_of (sum a b) = added (meaning a) (meaning b)
position_of (written g) = None

-- a refusal, at the given place of the line
abbrev pub at_place : ℕ → Answer ℕ → Answer ℕ
at_place i (told n) = told n
at_place i (refused k) = refused_at k i
at_place i (refused_at k code) = refused_at k i

-- a refusal in a text that begins at the given place of the line
abbrev pub from_place : ℕ → Answer ℕ → Answer ℕ
from_place i (told n) = told n
from_place i (refused k) = refused_at k i
from_place i (refused_at k place) = refused_at k (i + place)

-- A subject whose opening bracket stands at place i is entered: the number told, or a refusal by its number and place, and the rows after.
-- Sizes come first, then whether the positions are legal, and then what valuing refuses.
pub data EntersSubject (capacity : ℕ) (rows : Rows) (i : ℕ) (s : Subject) : Answer ℕ → Rows → Type 0 where
  oversized : {j : ℕ} → first_oversized (boards_of i s) ≡ Some j
      → EntersSubject capacity rows i s (refused_at 10 j) rows
  illegal : {j : ℕ} → first_oversized (boards_of i s) ≡ None → first_illegal (boards_of i s) ≡ Some j
      → EntersSubject capacity rows i s (refused_at 4 j) rows
  valued : {p : Position} {a : Answer ℕ} {after : Rows} {es : List Entry}
      → first_oversized (boards_of i s) ≡ None → first_illegal (boards_of i s) ≡ None → position_of s ≡ Some p
      → Values p.rules capacity rows p.code a after es → EntersSubject capacity rows i s (at_place i a) after
  read : {a : Answer ℕ} {after : Rows} {es : List Entry} (g : _) → s ≡ written g
      → Reads capacity rows (bytes g) a after es
      → EntersSubject capacity rows i s (from_place (i + length (codes "(form ")) a) after
