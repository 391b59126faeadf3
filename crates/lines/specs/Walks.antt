-- What a walk over the bytes of a line promises of each step.
-- Assumes nothing.
use Rattle.std.specs.Prelude.{◌≡◌, ℕ, ◌≤◌, List, [], ◌∷◌, Result, MatchResult}
use Rattle.std.specs.ControlFlow.{MatchControlFlow}
use Rattle.std.proofs.Common.{ControlFlow}
use Rattle.std.proofs.Math.Option.{none, some}
use Rattle.calls.specs.declared.fault.TextFault.{TextFault}
use Rattle.calls.specs.declared.fault.TextFault.TheVariants.{WrongByte, EarlyEnd, TooDeep}
use Rattle.lines.specs.Machine.{Symbol, next, depth}

-- the byte at the place is refused: no line goes on with it, or it is the 97th nested bracket
abbrev pub Refused : List Symbol → ℕ → ℕ → TextFault → Type 0
Refused s byte place (WrongByte i) = (i ≡ place) × (next s byte ≡ none)
Refused s byte place (EarlyEnd i) = ⊥
Refused s byte place (TooDeep i) = (i ≡ place)
    × ((s' : List Symbol) × (next s byte ≡ some s') × (depth s' ≡ 97))

-- The byte leads on, to the symbols that are then to come; or it is the last one, and nothing is to come; or it is refused.
abbrev pub Stepped : ℕ → List Symbol → List Symbol → ℕ → ℕ
    → Result (ControlFlow (Unit {0}) (Unit {0})) TextFault → Type 0
Stepped last s on byte place answer =
    MatchResult answer
    (λ flow. MatchControlFlow flow (λ _. next s byte ≡ some on) (λ _. (next s byte ≡ some []) × (byte ≡ last)))
    (Refused s byte place)

-- Something is to come, with at most 96 brackets open.
pub record Ongoing (s : List Symbol) : Type 0 where
  pub first : Symbol
  pub under : List Symbol
  pub is : s ≡ first ∷ under
  pub few : depth s ≤ 96
