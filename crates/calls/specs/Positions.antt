-- The calls on a position: its value, and a first move.
-- Assumes nothing.
use Rattle.std.specs.Prelude.{◌≡◌, ℕ, zero, suc, ◌<◌, true, false, List, [], ◌∷◌, ◌++◌, length, Some, None, Option, slice_index}
use Rattle.std.specs.List.{flat_map, AllByRecursion}
use Rattle.games.specs.declared.side.Side.{Side}
use Rattle.games.specs.declared.side.Side.TheVariants.{Left, Right}
use Rattle.games.specs.Numbered.{each}
use Rattle.rulesets.specs.Rules.{Rules, game}
use Rattle.rulesets.specs.Winning.{mover_wins}
use Rattle.calls.specs.Rows.{Rows}
use Rattle.calls.specs.Answers.{Answer, told, refused, refused_at}
use Rattle.calls.specs.Entering.{Entry, parts_of_all, place_after, SealsInTurn, Enters}

-- The positions that a position leads to, in the order of sealing: those of its Left successors in order, those of its Right successors, then itself.
-- Their games are the parts of its game (`PlacesAreTheParts` in Laws).
-- The number bounds the depth of the recursion, and from the rank on it does not matter.
abbrev pub order_in : Rules → ℕ → ℕ → List ℕ
order_in R zero n = n ∷ []
order_in R (suc k) n = flat_map (order_in R k) (R.moves Left n) ++ (flat_map (order_in R k) (R.moves Right n) ++ n ∷ [])

unfoldable pub order : Rules → ℕ → List ℕ
order R n = order_in R (R.rank n) n

-- Value: a code's answer, the rows after, and the entries made, newest first. Its game is entered, and a refused seal names the position's code.
pub data Values (R : Rules) (capacity : ℕ) (rows : Rows) (code : ℕ) : Answer ℕ → Rows → List Entry → Type 0 where
  illegal : R.legal code ≡ false → Values R capacity rows code (refused 4) rows []
  legal : {a : Answer ℕ} {after : Rows} {es : List Entry} → R.legal code ≡ true
      → Enters capacity rows (game R code) (order R code) a after es → Values R capacity rows code a after es

-- the index of a successor from which the mover, now second, wins; or none, where there is none
pub data Winning (R : Rules) (s : Side) (code : ℕ) : Option ℕ → Type 0 where
  index : (i : ℕ) → i < length (R.moves s code) → mover_wins R s (slice_index (R.moves s code) i) ≡ true
      → Winning R s code (Some i)
  nowhere : AllByRecursion (λ m. mover_wins R s m ≡ false) (R.moves s code) → Winning R s code None

-- First move: all successors of the mover's side are valued in order, and then a winning one is told.
pub data FirstMoves (R : Rules) (capacity : ℕ) (rows : Rows) (s : Side) (code : ℕ) : Answer (Option ℕ) → Rows → List Entry → Type 0 where
  illegal : R.legal code ≡ false → FirstMoves R capacity rows s code (refused 4) rows []
  valued : {w : Option ℕ} {after : Rows} {es : List Entry} → R.legal code ≡ true
      → SealsInTurn capacity rows (parts_of_all (each (game R) (R.moves s code))) None after es
      → Winning R s code w → FirstMoves R capacity rows s code (told w) after es
  ended : {k : ℕ} {after : Rows} {es : List Entry} → R.legal code ≡ true
      → SealsInTurn capacity rows (parts_of_all (each (game R) (R.moves s code))) (Some k) after es
      → FirstMoves R capacity rows s code (refused_at k (place_after es (flat_map (order R) (R.moves s code)))) after es
