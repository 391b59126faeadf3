-- What the reader's inner methods do: the bytes that they pass, and what is then to come.
-- Assumes nothing.
use Rattle.std.specs.Prelude.{◌≡◌, ℕ, ◌+◌, List, [], ◌∷◌, ◌++◌, length, drop, codes, Result, MatchResult}
use Rattle.std.proofs.Math.Option.{some}
use Rattle.games.specs.declared.side.Side.{Side}
use Rattle.games.specs.Form.{Form}
use Rattle.games.specs.Text.{bytes}
use Rattle.calls.specs.declared.fault.TextFault.{TextFault}
use Rattle.lines.specs.Machine.{Symbol, rules, depth, run, Stands}
use Rattle.lines.specs.Questions.{Faulty, DescribesPart, DescribesBoard, DescribesContent, DescribesSubject, Describes}
use Rattle.lines.specs.Syntax.{Board, Subject, Line, spell_board, spell_subject, spell_side, spell}
use Rattle.lines.specs.Words.{kind_word, heading_word, ask_word}
use Rattle.lines.specs.declared.question.Part.{Part}
use Rattle.lines.specs.declared.question.Kind.{Kind}
use Rattle.lines.specs.declared.question.Board.{Board as BoardPart}
use Rattle.lines.specs.declared.question.Content.{Content}
use Rattle.lines.specs.declared.question.Subject.{Subject as SubjectPart}
use Rattle.lines.specs.declared.question.Question.{Question}
use Rattle.lines.specs.declared.words.Ask.{Ask}
use Rattle.lines.specs.declared.words.Heading.{Heading}
use Rattle.lines.specs.declared.reader.Reader.{Reader}

-- the bytes of t from i up to j are w
pub record Spans (t : List ℕ) (i j : ℕ) (w : List ℕ) : Type 0 where
  pub bytes : drop i t ≡ w ++ drop j t
  pub ends : j ≡ i + length w

-- Over these bytes the symbols s become s', above any others of which no text is open.
pub record Goes (t : List ℕ) (i j : ℕ) (s s' : List Symbol) (w : List ℕ) : Type 0 where
  pub passes : (k : List Symbol) → depth k ≡ 0 → Stands t i (s ++ k) → Stands t j (s' ++ k)
  pub spans : Spans t i j w

-- From where the symbols s are to come, t has this fault.
pub record Fails (t : List ℕ) (i : ℕ) (s : List Symbol) (fault : TextFault) : Type 0 where
  pub faulty : (k : List Symbol) → depth k ≡ 0 → Stands t i (s ++ k) → Faulty t fault

-- From one state of a reader to a later one: its line is as it was, and over the bytes w that it has passed the symbols s become s'.
pub record Passed (before after : Reader) (s s' : List Symbol) (w : List ℕ) : Type 0 where
  pub same : after.line.now ≡ before.line.now
  pub goes : Goes before.line.now before.at after.at s s' w

-- The reader's line is as it was, and has this fault.
pub record Failed (before after : Reader) (s : List Symbol) (fault : TextFault) : Type 0 where
  pub same : after.line.now ≡ before.line.now
  pub fails : Fails before.line.now before.at s fault

-- The reader has passed some bytes, behind which `rest` is to come, and P tells what it answers of them; or the line has the fault answered.
abbrev pub Takes : {A : Type 0} → Reader → Reader → List Symbol → (A → List Symbol) → (A → List ℕ → Type 0)
    → Result A TextFault → Type 0
Takes before after s rest P answer = MatchResult answer (λ a. (w : List ℕ) × Passed before after s (rest a) w × P a w) (Failed before after s)

-- The reader has passed a whole text of the symbols s.
abbrev pub Reads : {A : Type 0} → Reader → Reader → List Symbol → (A → List ℕ → Type 0) → Result A TextFault
    → Type 0
Reads before after s P answer = Takes before after s (λ _. []) P answer

-- The reader has passed this byte, with which alone a symbol begins; or the line has the fault answered.
abbrev pub Expects : Reader → Reader → ℕ → Result (Unit {0}) TextFault → Type 0
Expects before after byte answer =
    (x : Symbol) (s : List Symbol) → rules x ≡ (byte, s) ∷ [] → depth s ≡ 0
    → MatchResult answer (λ _. Passed before after (x ∷ []) s (byte ∷ [])) (Failed before after (x ∷ []))

-- The bytes of a walk: the symbols s are done behind them, and this byte is the last one.
abbrev pub Walked : List Symbol → ℕ → List ℕ → Type 0
Walked s last w = (u : List ℕ) × (w ≡ u ++ (last ∷ [])) × (run (some s) w ≡ some [])

-- a piece and the closing bracket, the piece beginning at this place
abbrev pub ClosedRead : {A : Type 0} → (ℕ → A → List ℕ → Type 0) → ℕ → A → List ℕ → Type 0
ClosedRead P i a w = (u : List ℕ) × (w ≡ u ++ codes ")") × P i a u

-- two pieces, a blank between them, and the closing bracket
abbrev pub PairRead : {A B : Type 0} → (ℕ → A → List ℕ → Type 0) → (ℕ → B → List ℕ → Type 0) → ℕ → A × B
    → List ℕ → Type 0
PairRead P Q i both w =
    (u : List ℕ) × (v : List ℕ) × (w ≡ u ++ (codes " " ++ (v ++ codes ")"))) × P i both.0 u
    × Q (i + length (u ++ codes " ")) both.1 v

-- a side
abbrev pub SideRead : ℕ → Side → List ℕ → Type 0
SideRead i side w = w ≡ spell_side side

-- What a form's text is handed out as.
abbrev pub TextRead : ℕ → Part → List ℕ → Type 0
TextRead i part w = (g : Form) × (bytes g ≡ w) × DescribesPart i part w

-- a board; and the rest of one behind its heading, the opening bracket standing at the place
abbrev pub BoardRead : ℕ → BoardPart → List ℕ → Type 0
BoardRead i part w = (b : Board) × (spell_board b ≡ w) × DescribesBoard i part b

abbrev pub BoardRest : ℕ → Kind → ℕ → BoardPart → List ℕ → Type 0
BoardRest place kind i part w = (b : Board) × (spell_board b ≡ 40 ∷ (kind_word kind ++ w))
    × (i ≡ place + length (40 ∷ kind_word kind) → DescribesBoard place part b)

-- a subject, and the rest of one
abbrev pub SubjectRead : ℕ → SubjectPart → List ℕ → Type 0
SubjectRead i part w = (s : Subject) × (spell_subject s ≡ w) × DescribesSubject i part s

abbrev pub ContentRest : ℕ → Heading → ℕ → Content → List ℕ → Type 0
ContentRest place heading i content w = (s : Subject) × (spell_subject s ≡ 40 ∷ (heading_word heading ++ w))
    × (i ≡ place + length (40 ∷ heading_word heading) → DescribesContent place content s)

-- a line, and the rest of one
abbrev pub QuestionRead : ℕ → Question → List ℕ → Type 0
QuestionRead i question w = (l : Line) × (spell l ≡ w) × (i ≡ 0 → Describes question l)

abbrev pub QuestionRest : Ask → ℕ → Question → List ℕ → Type 0
QuestionRest ask i question w = (l : Line) × (spell l ≡ 40 ∷ (ask_word ask ++ w))
    × (i ≡ length (40 ∷ ask_word ask) → Describes question l)
