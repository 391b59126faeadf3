-- What the loop keeps: the rows below i have learnt of the new node.
use Rattle.std.proofs.Common.{◌≡◌, vec_items, vec_len, vec_capacity}
use Rattle.nodesets.specs.Pairs.{by}
use Rattle.sealing.specs.Ranking.{Ranking}
use Rattle.sealing.proofs.nodes.grow.rank_under.Given as goal

abbrev pub invariant-loop-i : goal.invariant-loop-i
invariant-loop-i l = (vec_capacity l.rows ≡ vec_capacity l.initial.rows) × Ranking (vec_items l.initial.rows) (vec_items l.rows) (by l.worse) (vec_len l.initial.rows) l.i
