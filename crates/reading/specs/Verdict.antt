-- What the check of a text answers.
-- Assumes nothing.
use Rattle.std.specs.Prelude.{ℕ, List, Ok, Err, Result}
use Rattle.games.specs.Form.{Form}
use Rattle.calls.specs.Texts.{Written, Fault}
use Rattle.calls.specs.declared.fault.TextFault.{TextFault}
use Rattle.calls.specs.Faults.{number_of, place_of}

-- the text is some form's, nested at most 96 deep, or it has the fault
abbrev pub Verdict : {A : Type 0} → List ℕ → Result A TextFault → Type 0
Verdict t (Ok x) = (g : Form) × Written t g
Verdict t (Err f) = Fault t (number_of f) (place_of f)
