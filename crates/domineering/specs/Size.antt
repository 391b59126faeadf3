-- What the size of a board says of its numbers.
-- Assumes nothing.
use Rattle.std.specs.Prelude.{◌≡◌, ℕ, zero, suc, ◌*◌, ◌≤◌, true, nat_le}
use Rattle.std.proofs.Common.{arith, mul-zero, zero-mul, suc-mul}
use Rattle.std.proofs.lemmas.Bool.{leb-true, and_parts}
use Rattle.domineering.specs.Domineering.{sized}

pub cells_low : (r c : ℕ) → sized r c ≡ true → 1 ≤ r * c
cells_low r c h = leb-true 1 (r * c) (and_parts (nat_le 1 (r * c)) (nat_le (r * c) 30) h).0

pub cells_high : (r c : ℕ) → sized r c ≡ true → r * c ≤ 30
cells_high r c h = leb-true (r * c) 30 (and_parts (nat_le 1 (r * c)) (nat_le (r * c) 30) h).1

pub columns_low : (r c : ℕ) → sized r c ≡ true → 1 ≤ c
columns_low r zero h = absurd (omega (arith, cells_low r zero h, mul-zero r))
columns_low r (suc c) h = omega arith

pub columns_high : (r c : ℕ) → sized r c ≡ true → c ≤ 30
columns_high zero c h = absurd (omega (arith, cells_low zero c h, zero-mul c))
columns_high (suc r) c h = omega (arith, cells_high (suc r) c h, suc-mul r c)
