-- Every round but the last leaves fewer edges dry.
use Rattle.std.proofs.Common.{◌≤◌}
use Rattle.hackenbush.specs.Floods.{Keeps}
use Rattle.hackenbush.specs.Pictures.{edges_of}
use Rattle.hackenbush.proofs.picture.Picture.run.Given as goal

abbrev pub invariant-loop-flood : goal.invariant-loop-flood
invariant-loop-flood l = (l.flood.dry ≤ l.initial.flood.dry) × Keeps (edges_of l.self) l.initial.flood.wet l.initial.flood.dry l.flood.wet l.flood.dry

abbrev pub decreases-loop-flood : goal.decreases-loop-flood
decreases-loop-flood l = l.flood.dry
