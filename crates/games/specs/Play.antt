-- The difference of two games, by play alone.
-- Assumes nothing.
use Rattle.std.specs.Prelude.{◌≡◌, ℕ, zero, suc, ◌+◌, Bool, false, not, ◌||◌}
use Rattle.games.specs.Form.{Form, any, size}
use Rattle.games.specs.Sides.{Side, other, options}

-- The difference of G and H is a play on both: Left moves to a Left option of G or to a Right option of H,
-- Right moves to a Right option of G or to a Left option of H.
-- A starter can win when some first move leaves a play that the other, starting it, cannot win.
-- The number bounds the length of the play, and from size G + size H on it does not matter (`PlayReads` in Laws).
abbrev pub wins_in : ℕ → Side → Form → Form → Bool
wins_in zero s g h = false
wins_in (suc n) s g h = any (λ o. not (wins_in n (other s) o h)) (options s g) || any (λ o. not (wins_in n (other s) g o)) (options (other s) h)

-- the side, starting the difference of g and h, can win
unfoldable pub wins : Side → Form → Form → Bool
wins s g h = wins_in (size g + size h) s g h

-- no player who starts the difference of g and h can win it
abbrev pub NoStarterWins : Form → Form → Type 0
NoStarterWins g h = (s : Side) → wins s g h ≡ false
