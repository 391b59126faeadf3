-- The calls that ask about nodes: print, compare, outcome.
-- Assumes nothing.
use Rattle.std.specs.Prelude.{ℕ, ◌<◌, ◌≤◌, ◌⊎◌, List, [], length}
use Rattle.games.specs.declared.outcome.Comparison.{Comparison}
use Rattle.games.specs.declared.outcome.Outcome.{Outcome}
use Rattle.games.specs.Outcomes.{compare, outcome}
use Rattle.games.specs.Text.{bytes}
use Rattle.calls.specs.Rows.{Rows, node}
use Rattle.calls.specs.Answers.{Answer, told, refused}

-- the length of a node's text, in bytes
abbrev pub text_length : Rows → ℕ → ℕ
text_length rows n = length (bytes (node rows n))

-- Print: the length told, and what is written at the front of a buffer with the given room. A refusal writes nothing.
pub data Prints (rows : Rows) (n room : ℕ) : Answer ℕ → List ℕ → Type 0 where
  unknown : length rows ≤ n → Prints rows n room (refused 1) []
  too_long : n < length rows → (room < text_length rows n) ⊎ (65535 < text_length rows n)
      → Prints rows n room (refused 5) []
  written : n < length rows → text_length rows n ≤ room → text_length rows n ≤ 65535
      → Prints rows n room (told (text_length rows n)) (bytes (node rows n))

-- Compare: how the games of two nodes compare.
pub data Compares (rows : Rows) (m n : ℕ) : Answer Comparison → Type 0 where
  unknown : (length rows ≤ m) ⊎ (length rows ≤ n) → Compares rows m n (refused 1)
  known : m < length rows → n < length rows → Compares rows m n (told (compare (node rows m) (node rows n)))

-- Outcome: who wins the game of a node.
pub data TellsOutcome (rows : Rows) (n : ℕ) : Answer Outcome → Type 0 where
  unknown : length rows ≤ n → TellsOutcome rows n (refused 1)
  known : n < length rows → TellsOutcome rows n (told (outcome (node rows n)))
