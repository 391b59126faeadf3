-- The numbers and the words by which faults are reported.
-- Assumes nothing.
use Rattle.std.specs.Prelude.{ℕ, List, codes}
use Rattle.stores.specs.declared.fault.MakeFault.{MakeFault}
use Rattle.stores.specs.declared.fault.MakeFault.TheVariants.{Capacity, Memory}
use Rattle.stores.specs.declared.fault.StoreFault.{StoreFault}
use Rattle.stores.specs.declared.fault.StoreFault.TheVariants.{Unknown, Full}

-- 12 for a row that names an unknown number, 3 for a full store
abbrev pub number_of : StoreFault → ℕ
number_of Unknown = 12
number_of Full = 3

-- why a store is not made, in words
abbrev pub make_text : MakeFault → List ℕ
make_text Capacity = codes "a store has room for 1 to 384 rows"
make_text Memory = codes "there is no memory for that many rows"
