-- What holds of both sides.
-- Assumes nothing.
use Rattle.games.specs.declared.side.Side.{Side}
use Rattle.games.specs.declared.side.Side.TheVariants.{Left, Right}

pub both : (P : Side → Type 0) → P Left → P Right → (s : Side) → P s
both P l r Left = l
both P l r Right = r
