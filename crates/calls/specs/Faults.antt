-- The fault of a text or of a line: its number and its place.
-- Assumes nothing.
use Rattle.std.specs.Prelude.{ℕ}
use Rattle.calls.specs.declared.fault.TextFault.{TextFault}
use Rattle.calls.specs.declared.fault.TextFault.TheVariants.{WrongByte, EarlyEnd, TooDeep}

-- 6 for a byte with which none goes on, 7 for an early end, 8 for the 97th nested bracket
abbrev pub number_of : TextFault → ℕ
number_of (WrongByte p) = 6
number_of (EarlyEnd p) = 7
number_of (TooDeep p) = 8

-- the place of the fault
abbrev pub place_of : TextFault → ℕ
place_of (WrongByte p) = p
place_of (EarlyEnd p) = p
place_of (TooDeep p) = p
