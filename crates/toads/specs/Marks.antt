-- Cells of a strip as the even bits of a word: bit 2i stands for cell i.
-- Assumes nothing.
use Rattle.std.specs.Prelude.{◌≡◌, ℕ, ◌/◌, ◌%◌, Bool, ◌&&◌, ◌==◌}
use Rattle.bits.specs.Bits.{bit}

-- the word has bit 2i exactly where cell i passes the test, and no odd bit
abbrev pub Marks : ℕ → (ℕ → Bool) → Type 0
Marks w p = (k : ℕ) → bit w k ≡ (k % 2 == 0 && p (k / 2))
