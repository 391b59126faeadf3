-- What the machine that reads a text has read.
-- Assumes nothing.
use Rattle.std.proofs.Common.{List, []}
use mathlib.Core.Option.{Option, none, some}
use Rattle.games.specs.Form.{Form}
use Rattle.games.specs.Reader.{State, wants, fresh, after, done, wrong, run}
use Rattle.games.specs.Text.{Mark}

abbrev pub result : State → Option Form
result (wants bs) = none
result (fresh b bs) = none
result (after b bs) = none
result (done g) = some g
result wrong = none

unfoldable pub read : List Mark → Option Form
read ms = result (run (wants []) ms)
