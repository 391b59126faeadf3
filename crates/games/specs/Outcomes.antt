-- The outcome of a game, and how two games compare.
-- Assumes nothing.
use Rattle.std.specs.Prelude.{ℕ, Bool, true, false, List, codes}
use Rattle.games.specs.declared.outcome.Comparison.{Comparison}
use Rattle.games.specs.declared.outcome.Comparison.TheVariants.{Less, Greater, Equal, Confused}
use Rattle.games.specs.declared.outcome.Outcome.{Outcome}
use Rattle.games.specs.declared.outcome.Outcome.TheVariants.{Zero, Fuzzy, Positive, Negative}
use Rattle.games.specs.Form.{Form, 𝟎}
use Rattle.games.specs.Order.{ge}

-- how g and h compare, from whether g ≥ h and whether h ≥ g
abbrev pub comparison : Bool → Bool → Comparison
comparison true true = Equal
comparison true false = Greater
comparison false true = Less
comparison false false = Confused

abbrev pub compare : Form → Form → Comparison
compare g h = comparison (ge g h) (ge h g)

-- P, zero, when the game equals 0; N, fuzzy, when it is confused with 0; L, positive, when it is ≥ 0 only; R, negative, when it is ≤ 0 only
abbrev pub against_zero : Comparison → Outcome
against_zero Equal = Zero
against_zero Confused = Fuzzy
against_zero Greater = Positive
against_zero Less = Negative

abbrev pub outcome : Form → Outcome
outcome g = against_zero (compare g 𝟎)

-- the letter of an outcome, by its code: P, N, L or R
abbrev pub letter : Outcome → ℕ
letter Zero = 80
letter Fuzzy = 78
letter Positive = 76
letter Negative = 82

-- the sign of a comparison, by the codes of its characters: <, >, = or ||
abbrev pub sign : Comparison → List ℕ
sign Less = codes "<"
sign Greater = codes ">"
sign Equal = codes "="
sign Confused = codes "||"
