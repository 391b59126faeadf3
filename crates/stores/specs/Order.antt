-- The order of rows.
-- Assumes nothing.
use Rattle.std.specs.Prelude.{ℕ, cond, List, ◌==◌, nat_lt}
use Rattle.std.specs.declared.cmp.Ordering.TheVariants.{Less, Equal, Greater}
use Rattle.std.specs.declared.cmp.Ordering.{Ordering}
use Rattle.std.specs.Cmp.Lexicographic.{slice_cmp}
use Rattle.std.specs.Ordering.{ordering_then}
use Rattle.games.specs.Numbered.{Lists}

-- numbers compare by size
abbrev pub number_order : ℕ → ℕ → Ordering
number_order x y = cond (nat_lt x y) Less (cond (x == y) Equal Greater)

-- lists compare number by number; a list that ends first is earlier
abbrev pub list_order : List ℕ → List ℕ → Ordering
list_order = slice_cmp number_order

-- rows compare by their Left lists, and then by their Right lists
abbrev pub row_order : Lists → Lists → Ordering
row_order a b = ordering_then (list_order a.left b.left) (list_order a.right b.right)
