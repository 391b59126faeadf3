-- What the loop keeps.
use Rattle.nodesets.specs.Pairs.{by}
use Rattle.sealing.specs.Games.{SameValue}
use Rattle.sealing.specs.Steps.{Undominated}
use Rattle.sealing.specs.Views.{links}
use Rattle.sealing.proofs.game.Game.undominate.Given as goal

abbrev pub invariant-loop-a : goal.invariant-loop-a
invariant-loop-a l = SameValue l.initial.self l.self × Undominated (links l.initial.self.nodes.now) l.side l.a (by l.initial.self.moves) (by l.self.moves)
