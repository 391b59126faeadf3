use Rattle.std.proofs.Common.{◌∷◌, get_or, take}
use Rattle.std.specs.Fmt.{HasWritten, IsPlainFormatter}
use Rattle.stores.specs.Reading.{numbers_of}
use Rattle.stores.specs.Texts.{numbers_text}
use Rattle.stores.proofs.numbers.text.NumbersDisplay.fmt.Given as goal

-- the first number and those before the index are written
abbrev pub invariant-loop-number : goal.invariant-loop-number
invariant-loop-number g l =
    IsPlainFormatter l.fn.f → HasWritten g.W.Write.write_str_gives l.fn.f (numbers_text (get_or (numbers_of l.self) 0 0 ∷ take l.number-index l.rest)) l.f
