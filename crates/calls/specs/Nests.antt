-- Where a reader of the code stands, in the words of the machine that takes one mark after the other.
-- Assumes nothing.
use Rattle.std.specs.Prelude.{◌≡◌, ℕ, List, [], map, reverse, length, Some, None, Option, Result, MatchResult}
use Rattle.std.proofs.Common.{ControlFlow}
use Rattle.std.specs.ControlFlow.{MatchControlFlow}
use Rattle.games.specs.Form.{Form as Game}
use Rattle.games.specs.Text.{Mark, open_mark, close_mark, byte}
use Rattle.games.specs.declared.side.Side.TheVariants.{Left}
use Rattle.games.specs.Reader.{Bracket, State, wants, fresh, after, done, wrong, next}
use Rattle.calls.specs.TextSpots.{side_of}
use Rattle.calls.specs.declared.fault.TextFault.{TextFault}
use Rattle.calls.specs.declared.fault.TextFault.TheVariants.{WrongByte, EarlyEnd, TooDeep}
use Rattle.calls.specs.declared.nest.Nest.{Nest}
use Rattle.calls.specs.declared.nest.TextSpot.{TextSpot}
use Rattle.calls.specs.declared.nest.TextSpot.TheVariants.{Form, Start, After}

-- the place in the innermost bracket; there is none where the text is whole, or wrong
abbrev pub spot_of : State → Option TextSpot
spot_of (wants bs) = Some Form
spot_of (fresh b bs) = Some (Start (side_of b))
spot_of (after b bs) = Some (After (side_of b))
spot_of (done g) = None
spot_of wrong = None

-- where a bracket goes on behind an option, and where those outside the innermost go on, innermost first
abbrev pub behind : Bracket → TextSpot
behind b = After (side_of b)

abbrev pub outer_of : State → List TextSpot
outer_of (wants bs) = map behind bs
outer_of (fresh b bs) = map behind bs
outer_of (after b bs) = map behind bs
outer_of (done g) = []
outer_of wrong = []

-- the place and the brackets outside are those of the machine
pub record StandsAt (spot : TextSpot) (outer : List TextSpot) (q : State) : Type 0 where
  pub at_spot : spot_of q ≡ Some spot
  pub outside : outer ≡ outer_of q

abbrev pub Stands : Nest → State → Type 0
Stands nest q = StandsAt nest.spot (reverse nest.outside.items) q

-- the byte at the place is no mark with which the machine goes on, or it opens the 97th bracket
abbrev pub Refused : State → ℕ → ℕ → TextFault → Type 0
Refused q b place (WrongByte i) = (i ≡ place) × ((m : Mark) → byte m ≡ b → next q m ≡ wrong)
Refused q b place (EarlyEnd i) = ⊥
Refused q b place (TooDeep i) = (i ≡ place) × (byte open_mark ≡ b)
    × (spot_of (next q open_mark) ≡ Some (Start Left)) × (length (outer_of (next q open_mark)) ≡ 96)

-- The byte at the place is a mark: the reader stands behind it where the machine does, or it is the last bracket; or it is refused.
abbrev pub Stepped : State → Nest → ℕ → ℕ → Result (ControlFlow (Unit {0}) (Unit {0})) TextFault → Type 0
Stepped q nest b place answer =
    MatchResult answer
    (λ flow. MatchControlFlow flow (λ _. (m : Mark) × (byte m ≡ b) × Stands nest (next q m)) (λ _. (byte close_mark ≡ b) × (g : Game) × (next q close_mark ≡ done g)))
    (Refused q b place)

-- the reader stands where it stood
pub record Unmoved (before later : Nest) : Type 0 where
  pub spot : later.spot ≡ before.spot
  pub outside : later.outside.items ≡ before.outside.items

-- behind the last bracket, and at a byte that is refused, it does
abbrev pub StaysUnlessOn : Nest → Nest → Result (ControlFlow (Unit {0}) (Unit {0})) TextFault → Type 0
StaysUnlessOn before later answer =
    MatchResult answer
    (λ flow. MatchControlFlow flow (λ _. Unit {0}) (λ _. Unmoved before later))
    (λ fault. Unmoved before later)
