-- The decimal digits of a number.
-- Assumes nothing.
use Rattle.std.proofs.Common.{◌≡◌, ℕ, zero, suc, ◌^◌, ◌<◌, ◌≤◌, length, sym, ap, ◌∙◌, arith}
use Rattle.std.specs.Fmt.{decimal}
use Rattle.std.proofs.lemmas.Fmt.{decimal-digits_of, decimal_digit, length-decimal-le}
use Rattle.lines.specs.Syntax.{numeral}
use Rattle.lines.proofs.Numerals.{numeral_digits, numeral_zero}

-- they are what the library writes
pub numeral_is : (n : ℕ) → n < 2 ^ 64 → decimal n ≡ numeral n
numeral_is zero h = decimal_digit 0 (omega arith) ∙ sym numeral_zero
numeral_is (suc n) h = decimal-digits_of (suc n) (omega arith) h ∙ sym (numeral_digits (suc n) (omega arith))

-- a number of 64 bits has at most 20 digits
pub most_64 : (n : ℕ) → n < 2 ^ 64 → length (numeral n) ≤ 20
most_64 n h = let e = ap length (numeral_is n h) in let d = length-decimal-le 20 n (omega arith) (omega arith) h in omega arith
