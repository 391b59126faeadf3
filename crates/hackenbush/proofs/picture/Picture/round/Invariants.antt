-- The edges still to be looked at grow fewer.
use Rattle.std.proofs.Common.{◌≤◌}
use Rattle.hackenbush.specs.Pictures.{edges_of}
use Rattle.hackenbush.proofs.Flooding.{Turning}
use Rattle.hackenbush.proofs.picture.Picture.round.Given as goal

abbrev pub invariant-loop-left : goal.invariant-loop-left
invariant-loop-left l = (l.left ≤ l.initial.flood.dry) × Turning (edges_of l.self) l.initial.flood.wet l.initial.flood.dry l.left l.flood.wet l.flood.dry

abbrev pub decreases-loop-left : goal.decreases-loop-left
decreases-loop-left l = l.left
