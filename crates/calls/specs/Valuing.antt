-- Some successors of a position, valued so far; the contracts of the walk over them speak of it.
-- Assumes nothing.
use Rattle.std.specs.Prelude.{ℕ, List, None}
use Rattle.games.specs.Numbered.{each}
use Rattle.rulesets.specs.Rules.{Rules, game}
use Rattle.calls.specs.Rows.{Rows}
use Rattle.calls.specs.Entering.{Entry, SealsInTurn, parts_of_all}
use Rattle.calls.specs.Laws.{Equal}

-- successors ms valued one after the other, and the numbers ns answered
pub record Valuing (R : Rules) (c : ℕ) (a : Rows) (ms ns : List ℕ) (b : Rows) (es : List Entry) : Type 0 where
  pub turn : SealsInTurn c a (parts_of_all (each (game R) ms)) None b es
  pub equal : Equal b ns (each (game R) ms)
