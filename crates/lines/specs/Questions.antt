-- What `parse` answers: the parts of a line and their places, or its fault.
-- Assumes nothing.
use Rattle.std.specs.Prelude.{◌≡◌, ℕ, ◌+◌, List, ◌++◌, length, codes, Result, MatchResult}
use Rattle.games.specs.declared.side.Side.{Side}
use Rattle.games.specs.Form.{Form as Game}
use Rattle.games.specs.Text.{bytes}
use Rattle.calls.specs.Faults.{number_of, place_of}
use Rattle.calls.specs.declared.fault.TextFault.{TextFault}
use Rattle.lines.specs.Syntax.{Board, domineering, toads, hackenbush, Subject, plain, minus, sum, written, Line, value, comparison, first_move, heading, items_of, spell_board, spell_subject, spell_side}
use Rattle.lines.specs.Faults.{RightLine, Fault}
use Rattle.lines.specs.declared.question.Part.{Part}
use Rattle.lines.specs.declared.question.Kind.{Kind}
use Rattle.lines.specs.declared.question.Kind.TheVariants.{Domineering, Toads, Hackenbush}
use Rattle.lines.specs.declared.question.Board.{Board as BoardPart}
use Rattle.lines.specs.declared.question.Content.{Content}
use Rattle.lines.specs.declared.question.Content.TheVariants.{Plain, Minus, Sum, Form}
use Rattle.lines.specs.declared.question.Subject.{Subject as SubjectPart}
use Rattle.lines.specs.declared.question.Question.{Question}
use Rattle.lines.specs.declared.question.Question.TheVariants.{Value, Compare, Move}

abbrev pub kind_of : Board → Kind
kind_of (domineering rows) = Domineering
kind_of (toads cells) = Toads
kind_of (hackenbush edges) = Hackenbush

-- the part is these bytes, which begin at this place
pub record DescribesPart (place : ℕ) (part : Part) (text : List ℕ) : Type 0 where
  pub begins : part.place ≡ place
  pub holds : part.bytes.now ≡ text

-- the board, whose opening bracket stands at this place
pub record DescribesBoard (place : ℕ) (part : BoardPart) (board : Board) : Type 0 where
  pub begins : part.place ≡ place
  pub kind : part.kind ≡ kind_of board
  pub items : DescribesPart (place + length (heading board)) part.items (items_of board)

-- what stands in a subject whose opening bracket stands at this place
pub data DescribesContent (place : ℕ) : Content → Subject → Type 0 where
  a_plain : (p : BoardPart) (b : Board) → DescribesBoard place p b
      → DescribesContent place (Plain p) (plain b)
  a_minus : (p : BoardPart) (b : Board) → DescribesBoard (place + length (codes "(minus ")) p b
      → DescribesContent place (Minus p) (minus b)
  a_sum : (p q : BoardPart) (a b : Board)
      → DescribesBoard (place + length (codes "(sum ")) p a
      → DescribesBoard (place + length (codes "(sum " ++ (spell_board a ++ codes " "))) q b
      → DescribesContent place (Sum p q) (sum a b)
  a_form : (p : Part) (g : Game) → DescribesPart (place + length (codes "(form ")) p (bytes g)
      → DescribesContent place (Form p) (written g)

pub record DescribesSubject (place : ℕ) (part : SubjectPart) (subject : Subject) : Type 0 where
  pub begins : part.place ≡ place
  pub content : DescribesContent place part.content subject

-- the parts of a line, each at the place where it stands
pub data Describes : Question → Line → Type 0 where
  a_value : (p : SubjectPart) (s : Subject) → DescribesSubject (length (codes "(value ")) p s
      → Describes (Value p) (value s)
  a_comparison : (p q : SubjectPart) (s u : Subject)
      → DescribesSubject (length (codes "(compare ")) p s
      → DescribesSubject (length (codes "(compare " ++ (spell_subject s ++ codes " "))) q u
      → Describes (Compare p q) (comparison s u)
  a_first_move : (side : Side) (p : BoardPart) (b : Board)
      → DescribesBoard (length (codes "(move " ++ (spell_side side ++ codes " "))) p b
      → Describes (Move side p) (first_move side b)

-- `fault` is the fault of the bytes t
abbrev pub Faulty : List ℕ → TextFault → Type 0
Faulty t fault = Fault t (number_of fault) (place_of fault)

-- The answer to the bytes t: their parts, if they are a right line, or their fault.
abbrev pub Parsed : List ℕ → Result Question TextFault → Type 0
Parsed t answer = MatchResult answer (λ question. (l : Line) × RightLine t l × Describes question l) (Faulty t)
