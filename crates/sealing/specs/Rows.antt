-- What a list of rows says: each node's options, and the nodes that it is as good as.
-- Assumes nothing.
use Rattle.std.specs.Prelude.{List, map}
use Rattle.nodesets.specs.Pairs.{Sets, by}
use Rattle.sealing.specs.declared.row.Row.{Row}

abbrev pub options_of : List Row → List Sets
options_of rows = map (λ r. by r.options) rows

abbrev pub worse_of : List Row → List Sets
worse_of rows = map (λ r. by r.worse) rows
