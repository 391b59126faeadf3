-- Making a strip.
-- Assumes nothing.
use Rattle.std.specs.Prelude.{◌≡◌, ℕ, Bool, true, false, ◌&&◌, Ok, Err, Result, nat_le}
use Rattle.rulesets.specs.declared.fault.BoardFault.{BoardFault}
use Rattle.rulesets.specs.declared.fault.BoardFault.TheVariants.{Size}
use Rattle.rulesets.specs.Rules.{Rules}
use Rattle.toads.specs.declared.strip.Strip.{Strip}
use Rattle.toads.specs.Toads.{toads}

-- a strip has 1 to 12 cells
abbrev pub sized : ℕ → Bool
sized n = nat_le 1 n && nat_le n 12

-- what a strip means
abbrev pub strip_rules : Strip → Rules
strip_rules s = toads s.cells

-- A strip of n cells is made when n is 1 to 12, and it plays Toads-and-Frogs; any other size is refused.
abbrev pub Made : ℕ → Result Strip BoardFault → Type 0
Made n (Ok s) = (sized n ≡ true) × (strip_rules s ≡ toads n)
Made n (Err e) = (sized n ≡ false) × (e ≡ Size)
