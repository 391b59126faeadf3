-- The digits of a number in base 4.
-- Assumes nothing.
use Rattle.std.specs.Prelude.{ℕ, ◌/◌, ◌%◌, ◌^◌}

-- digit i of a code, counted from the lowest
unfoldable pub digit : ℕ → ℕ → ℕ
digit code i = code / 4 ^ i % 4
