-- The numbers of the refusals at making.
-- Assumes nothing.
use Rattle.std.specs.Prelude.{ℕ}
use Rattle.rulesets.specs.declared.fault.BoardFault.{BoardFault}
use Rattle.rulesets.specs.declared.fault.BoardFault.TheVariants.{Size}
use Rattle.rulesets.specs.declared.fault.SumFault.{SumFault}
use Rattle.rulesets.specs.declared.fault.SumFault.TheVariants.{Large}

-- making a board refuses with 10 a size beyond its rules
abbrev pub fault_number : BoardFault → ℕ
fault_number Size = 10

-- making a sum refuses with 11 a limit, a width or a depth beyond those of a ruleset
abbrev pub sum_fault_number : SumFault → ℕ
sum_fault_number Large = 11
