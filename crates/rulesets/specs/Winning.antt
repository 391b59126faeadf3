-- First moves that win, by play.
-- Assumes nothing.
use Rattle.std.specs.Prelude.{ℕ, Bool, not, List, length, filter, slice_index}
use Rattle.std.specs.List.{range_with_len}
use Rattle.games.specs.declared.side.Side.{Side}
use Rattle.games.specs.Form.{𝟎}
use Rattle.games.specs.Sides.{other}
use Rattle.games.specs.Play.{wins}
use Rattle.rulesets.specs.Rules.{Rules, game}

-- the side, starting at the position, can win (the difference of a game and 0 is a play on the game alone)
abbrev pub starter_wins : Rules → Side → ℕ → Bool
starter_wins R s n = wins s (game R n) 𝟎

-- the side, having moved to the position, wins: the other, starting there, cannot
abbrev pub mover_wins : Rules → Side → ℕ → Bool
mover_wins R s n = not (starter_wins R (other s) n)

-- the indices, rising, of the successors to which the side moves and wins
abbrev pub winning : Rules → Side → ℕ → List ℕ
winning R s n = filter (λ i. mover_wins R s (slice_index (R.moves s n) i)) (range_with_len 0 (length (R.moves s n)))
