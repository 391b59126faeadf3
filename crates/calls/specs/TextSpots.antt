-- The places in the text of a form, as the code has them.
-- Assumes nothing.
use Rattle.std.specs.Prelude.{ℕ, Bool, true, false, Some, None, Option}
use Rattle.games.specs.Reader.{Bracket, in_left, in_right}
use Rattle.games.specs.declared.side.Side.{Side}
use Rattle.games.specs.declared.side.Side.TheVariants.{Left, Right}
use Rattle.calls.specs.declared.nest.TextSpot.{TextSpot}
use Rattle.calls.specs.declared.nest.TextSpot.TheVariants.{Form, Start, After}

-- how many brackets are open here, but for those outside
abbrev pub open_at : TextSpot → ℕ
open_at Form = 0
open_at (Start s) = 1
open_at (After s) = 1

-- the side whose options are being read here
abbrev pub side_at : TextSpot → Option Side
side_at Form = None
side_at (Start s) = Some s
side_at (After s) = Some s

-- whether an option has been read here
abbrev pub is_after : TextSpot → Bool
is_after Form = false
is_after (Start s) = false
is_after (After s) = true

-- the side whose options are being read in an open bracket
abbrev pub side_of : Bracket → Side
side_of (in_left ls) = Left
side_of (in_right ls rs) = Right
