-- A game that keeps its value while its options change.
-- Assumes nothing.
use Rattle.std.specs.Prelude.{◌≡◌}
use Rattle.sealing.specs.declared.game.Game.{Game}

-- the same nodes, and the game is as good as the same of them
abbrev pub SameValue : Game → Game → Type 0
SameValue g h = (h.nodes.now ≡ g.nodes.now) × (h.worse ≡ g.worse)
