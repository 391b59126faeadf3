-- The bits of a number, and the numbers that pass a test.
-- Assumes nothing.
use Rattle.std.specs.Prelude.{ℕ, ◌/◌, ◌%◌, ◌^◌, Bool, List, filter, ◌==◌}
use Rattle.std.specs.List.{range_with_len}

-- bit j of w is 1
unfoldable pub bit : ℕ → ℕ → Bool
bit w j = w / 2 ^ j % 2 == 1

-- the numbers below n that pass the test, rising
unfoldable pub places : ℕ → (ℕ → Bool) → List ℕ
places n p = filter p (range_with_len 0 n)
