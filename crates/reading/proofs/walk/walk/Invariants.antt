use Rattle.games.specs.Form.{Form}
use Rattle.calls.specs.Texts.{Written}
use Rattle.reading.specs.Held.{stack_of}
use Rattle.reading.proofs.Upto.{upto}
use Rattle.reading.proofs.Walking.{In}
use Rattle.reading.proofs.walk.walk.Given as goal

abbrev pub invariant-loop-place : goal.invariant-loop-place
invariant-loop-place g l = (f : Form) → Written l.text f → In g.T.Options.keeps g.C.Closing.closes l.initial.closing f (upto f l.place) (stack_of l.frames) l.last l.closing
