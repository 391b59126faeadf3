-- What a dictionary holds, to whoever uses it.
-- Assumes nothing.
use Rattle.std.specs.Prelude.{ℕ}
use Rattle.calls.specs.Rows.{Rows}

-- its rows, and how many it has room for
pub record Holding : Type 0 where
  pub rows : Rows
  pub room : ℕ
