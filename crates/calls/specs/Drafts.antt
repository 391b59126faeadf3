-- Putting a number into a draft, which holds the numbers put on each side since it was last emptied.
-- Assumes nothing.
use Rattle.std.specs.Prelude.{ℕ, ◌<◌, ◌≤◌}
use Rattle.games.specs.declared.side.Side.{Side}
use Rattle.games.specs.Numbered.{Lists}
use Rattle.calls.specs.Answers.{Answer, told, refused}
use Rattle.calls.specs.Runs.{put}

-- Put: what is answered, and what the draft then has. A number above 383 is refused, and the draft stays as it was.
pub data Puts (s : Side) (n : ℕ) (d : Lists) : Answer (Unit {0}) → Lists → Type 0 where
  taken : n ≤ 383 → Puts s n d (told tt) (put s n d)
  too_large : 383 < n → Puts s n d (refused 1) d
