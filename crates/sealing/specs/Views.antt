-- What the nodes hold: the options of each, and the nodes that it is as good as.
-- Assumes nothing.
use Rattle.std.specs.Prelude.{List, vec_items}
use Rattle.nodesets.specs.Pairs.{Sets}
use Rattle.sealing.specs.Rows.{options_of, worse_of}
use Rattle.sealing.specs.declared.nodes.Nodes.{Nodes}

abbrev pub links : Nodes → List Sets
links t = options_of (vec_items t.rows)

abbrev pub ranks : Nodes → List Sets
ranks t = worse_of (vec_items t.rows)
