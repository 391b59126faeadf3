-- The lines of an input, and what is written for them.
-- Assumes nothing.
use Rattle.std.specs.Prelude.{◌≡◌, ◌≢◌, ℕ, ◌==◌, Bool, true, false, if◌then◌else◌, List, [], ◌∷◌, ◌++◌, take, All, Option, IfSome}
use Rattle.std.specs.Io.KnownBytes.{Appends}
use Rattle.calls.specs.Rows.{Rows}
use Rattle.calculator.specs.Sessions.{Session}
use Rattle.console.specs.declared.serving.Stop.{Stop}
use Rattle.console.specs.declared.serving.Stop.TheVariants.{Break, End, Nowhere}

-- some lines with a byte in front of the first one; where there is none, the byte is a line
abbrev pub lengthen : ℕ → List (List ℕ) → List (List ℕ)
lengthen b [] = (b ∷ []) ∷ []
lengthen b (line ∷ lines) = (b ∷ line) ∷ lines

-- The lines of some bytes. A line ends with a line break, byte 10, which is not part of it, or with the bytes.
abbrev pub lines_of : List ℕ → List (List ℕ)
lines_of [] = []
lines_of (b ∷ bs) = if b == 10 then [] ∷ lines_of bs else lengthen b (lines_of bs)

-- answers as they are written, a line break behind each
abbrev pub written : List (List ℕ) → List ℕ
written [] = []
written (t ∷ ts) = t ++ (10 ∷ written ts)

-- of a line that is too long the first 1,001 bytes, which show it
abbrev pub kept : List ℕ → List ℕ
kept line = take 1001 line

-- What is taken of a line from the front of the bytes, and put behind what is kept of it: a part with no line break, then the line break if it is there.
pub data Takes (before bytes after rest : List ℕ) : Stop → Type 0 where
  nowhere : (part : List ℕ) → All (λ b. b ≢ 10) part → bytes ≡ part ++ rest → after ≡ kept (before ++ part)
      → Takes before bytes after rest Nowhere
  break : (part : List ℕ) → All (λ b. b ≢ 10) part → bytes ≡ part ++ (10 ∷ rest)
      → after ≡ kept (before ++ part) → Takes before bytes after rest Break
  end : bytes ≡ [] → rest ≡ [] → after ≡ before → Takes before bytes after rest End

-- The first line of the bytes is taken, and the others are left; or there is none.
pub data TakesLine (bytes after rest : List ℕ) : Bool → Type 0 where
  some : (line : List ℕ) → lines_of bytes ≡ line ∷ lines_of rest → after ≡ kept line
      → TakesLine bytes after rest true
  none : bytes ≡ [] → rest ≡ [] → TakesLine bytes after rest false

-- Some lines are answered, one after the other. Where the bytes of the input are known, they are its first lines.
abbrev pub Begins : ℕ → Rows → Option (List ℕ) → Rows → Type 0
Begins room rows input later = (lines : List (List ℕ)) × (others : List (List ℕ)) × (ts : List (List ℕ))
    × Session room rows lines ts later × IfSome input (λ bytes. lines_of bytes ≡ lines ++ others)

-- Some lines are answered, and what is held grows by the answers. Where the bytes of the input are known, they are all its lines.
abbrev pub Serves : ℕ → Rows → Option (List ℕ) → Option (List ℕ) → Option (List ℕ) → Rows → Type 0
Serves room rows input held holds later = (lines : List (List ℕ)) × (ts : List (List ℕ))
    × Session room rows lines ts later × IfSome input (λ bytes. lines_of bytes ≡ lines)
    × Appends held holds (written ts)
