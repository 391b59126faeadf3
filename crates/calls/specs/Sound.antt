-- What the rows of every dictionary are like.
-- Assumes nothing.
use Rattle.std.specs.Prelude.{◌≡◌, ℕ, ◌<◌, length, slice_index_or}
use Rattle.games.specs.Order.{◌≈◌}
use Rattle.games.specs.Canon.{Canonical}
use Rattle.calls.specs.Rows.{Rows, no_numbers, node, Below}
use Rattle.calls.specs.Sealing.{Narrow}

-- Each row names lower numbers only, is canonical (so its lists rise in the listing order: `RowsRise` in Laws),
-- has at most 16 options on a side, and equals no other row in value.
pub record Sound (rows : Rows) : Type 0 where
  pub lower : (n : ℕ) → n < length rows → Below n (slice_index_or rows n no_numbers)
  pub canonical : (n : ℕ) → n < length rows → Canonical (node rows n)
  pub narrow : (n : ℕ) → n < length rows → Narrow (node rows n)
  pub unlike : (m n : ℕ) → m < length rows → n < length rows → node rows m ≈ node rows n → m ≡ n
