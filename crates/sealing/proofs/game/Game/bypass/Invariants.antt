-- What the loop keeps.
use Rattle.std.proofs.Common.{◌≡◌, ℕ, ◌≤◌, true}
use Rattle.nodesets.specs.Pairs.{by}
use Rattle.sealing.specs.Games.{SameValue}
use Rattle.sealing.specs.Steps.{Reduced, Stays}
use Rattle.sealing.specs.Views.{links}
use Rattle.sealing.proofs.game.Game.bypass.Given as goal

abbrev pub invariant-loop-a : goal.invariant-loop-a
invariant-loop-a l =
    SameValue l.initial.self l.self × Reduced (links l.initial.self.nodes.now) l.side (by l.initial.self.moves) (by l.self.moves)
    × ((k : ℕ) → l.a ≤ k → by l.self.moves l.side k ≡ true → Stays (links l.initial.self.nodes.now) l.side (by l.initial.self.worse) k)
