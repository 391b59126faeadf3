use Rattle.std.proofs.Common.{◌≡◌, take}
use Rattle.toads.specs.Strips.{code_of}
use Rattle.toads.proofs.text.code_of.Given as goal

-- the code of the characters passed so far
abbrev pub invariant-loop-place : goal.invariant-loop-place
invariant-loop-place l = l.code ≡ code_of (take l.place l.text)
