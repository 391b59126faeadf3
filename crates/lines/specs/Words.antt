-- The words of a line, as the reader tells them apart: by the first letter behind a bracket.
-- Assumes nothing.
use Rattle.std.specs.Prelude.{◌≡◌, ℕ, ◌≤◌, List, [], ◌∷◌, ◌++◌, length, drop, codes, Option, MatchOption, slice_index}
use Rattle.std.proofs.Math.Option.{none, some}
use Rattle.lines.specs.Machine.{Symbol, just, subject, board, side, text, letters, next, depth}
use Rattle.lines.specs.Spots.{symbols}
use Rattle.lines.specs.declared.question.Kind.{Kind}
use Rattle.lines.specs.declared.question.Kind.TheVariants.{Domineering, Toads, Hackenbush}
use Rattle.lines.specs.declared.spot.Spot.{Spot}
use Rattle.lines.specs.declared.spot.Spot.TheVariants.{Square, Cell, Edge}
use Rattle.lines.specs.declared.spot.EdgeSpot.TheVariants.{From}
use Rattle.lines.specs.declared.words.Ask.{Ask}
use Rattle.lines.specs.declared.words.Ask.TheVariants.{Value, Compare, Move}
use Rattle.lines.specs.declared.words.Heading.{Heading}
use Rattle.lines.specs.declared.words.Heading.TheVariants.{Minus, Sum, Form, Board}

abbrev pub kind_word : Kind → List ℕ
kind_word Domineering = codes "domineering "
kind_word Toads = codes "toads "
kind_word Hackenbush = codes "hackenbush "

-- where the items of a board begin
abbrev pub kind_spot : Kind → Spot
kind_spot Domineering = Square
kind_spot Toads = Cell
kind_spot Hackenbush = Edge From

abbrev pub heading_word : Heading → List ℕ
heading_word Minus = codes "minus "
heading_word Sum = codes "sum "
heading_word Form = codes "form "
heading_word (Board kind) = kind_word kind

abbrev pub ask_word : Ask → List ℕ
ask_word Value = codes "value "
ask_word Compare = codes "compare "
ask_word Move = codes "move "

-- what is to come behind the word
abbrev pub heading_rest : Heading → List Symbol
heading_rest Minus = board ∷ just 41 ∷ []
heading_rest Sum = board ∷ just 32 ∷ board ∷ just 41 ∷ []
heading_rest Form = text ∷ just 41 ∷ []
heading_rest (Board kind) = symbols (kind_spot kind)

abbrev pub ask_rest : Ask → List Symbol
ask_rest Value = subject ∷ just 41 ∷ []
ask_rest Compare = subject ∷ just 32 ∷ subject ∷ just 41 ∷ []
ask_rest Move = side ∷ just 32 ∷ board ∷ just 41 ∷ []

-- the letter begins the word that is answered, or none that may come
abbrev pub Begins : {A : Type 0} → Symbol → (A → List ℕ) → ℕ → Option A → Type 0
Begins x word_of letter answer = MatchOption answer (next (x ∷ []) letter ≡ none) (λ a. letter ≡ slice_index (word_of a) 0)

-- The first letter of the word w leads from the symbol x to the other letters, and what is to come behind them, outside a text.
pub record Word (x : Symbol) (w : List ℕ) (rest : List Symbol) : Type 0 where
  pub lettered : 1 ≤ length w
  pub leads : next (x ∷ []) (slice_index w 0) ≡ some (letters (drop 1 w) ++ rest)
  pub quiet : depth rest ≡ 0
