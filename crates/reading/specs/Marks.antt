-- The marks of a text, as the code has them.
-- Assumes nothing.
use Rattle.std.specs.Prelude.{◌≡◌, ℕ, cond, Some, None, Option, Result, MatchResult, ◌==◌}
use Rattle.games.specs.Text
use Rattle.reading.specs.declared.mark.Mark.{Mark}
use Rattle.reading.specs.declared.mark.NoMark.{NoMark}
use Rattle.reading.specs.declared.mark.Mark.TheVariants.{Open, Bar, Close, Comma}

-- the mark that a mark of the code stands for
abbrev pub meant : Mark → Text.Mark
meant Open = Text.open_mark
meant Bar = Text.bar
meant Close = Text.close_mark
meant Comma = Text.comma

-- the mark of a byte, if it is one's
abbrev pub mark_of : ℕ → Option Mark
mark_of b = cond (b == 123) (Some Open) (cond (b == 124) (Some Bar) (cond (b == 125) (Some Close) (cond (b == 44) (Some Comma) None)))

-- the conversion gives the mark of the byte, or fails where it is none's
abbrev pub Marks : ℕ → Result Mark NoMark → Type 0
Marks b r = MatchResult r (λ m. Some m ≡ mark_of b) (λ _. None ≡ mark_of b)
