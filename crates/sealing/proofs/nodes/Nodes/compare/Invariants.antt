-- What the loop keeps; each turn decides a node for both sides.
use Rattle.std.proofs.Common.{vec_len, ◌&&◌}
use Rattle.games.specs.declared.side.Side.TheVariants.{Left, Right}
use Rattle.nodesets.specs.Pairs.{by}
use Rattle.nodesets.specs.Sets.{has}
use Rattle.sealing.specs.Steps.{Partly}
use Rattle.sealing.specs.Views.{links, ranks}
use Rattle.sealing.proofs.LeftOut.{left_out}
use Rattle.sealing.proofs.nodes.Nodes.compare.Given as goal

abbrev pub invariant-loop-h : goal.invariant-loop-h
invariant-loop-h l =
    Partly (links l.self) (ranks l.self) Left (by l.moves) (has l.left.decided) (has l.left.worse) × Partly (links l.self) (ranks l.self) Right (by l.moves) (has l.right.decided) (has l.right.worse)

abbrev pub decreases-loop-h : goal.decreases-loop-h
decreases-loop-h l = left_out (λ k. has l.left.decided k && has l.right.decided k) (vec_len l.self.rows)
