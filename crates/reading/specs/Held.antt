-- What the open brackets of the code hold, in the words of the calls: each has its side, and what it keeps of the numbers of its options.
-- Assumes nothing.
use Rattle.std.specs.Prelude.{◌≡◌, List, [], ◌∷◌, reverse, Some, None, Option}
use Rattle.games.specs.declared.side.Side.TheVariants.{Left, Right}
use Rattle.games.specs.Numbered.{Lists}
use Rattle.games.specs.Reader.{Bracket}
use Rattle.calls.specs.Rows.{no_numbers}
use Rattle.calls.specs.TextSpots.{side_of}
use Rattle.reading.specs.declared.frames.Frame.{Frame}
use Rattle.reading.specs.declared.frames.Frames.{Frames}

-- the frames, innermost first
abbrev pub stack_of : {A : Type 0} → Frames A → List (Frame A)
stack_of f = reverse f.items.items

-- a bracket just opened: its Left options are read, and it has none
abbrev pub Fresh : {A : Type 0} → (A → Lists → Type 0) → Frame A → Type 0
Fresh keeps f = (f.side ≡ Left) × keeps f.options no_numbers

-- the innermost goes over to its Right options
abbrev pub Turned : {A : Type 0} → List (Frame A) → List (Frame A) → Type 0
Turned [] after = after ≡ []
Turned (f ∷ fs) after = after ≡ record { side = Right; options = f.options } ∷ fs

-- the innermost goes, and what it keeps is told
abbrev pub Popped : {A : Type 0} → List (Frame A) → Option A → List (Frame A) → Type 0
Popped [] r after = (r ≡ None) × (after ≡ [])
Popped (f ∷ fs) r after = (r ≡ Some f.options) × (after ≡ fs)

-- the frame of an open bracket: its side, and what is kept of the numbers of its options
pub record Held {A : Type 0} (keeps : A → Lists → Type 0) (f : Frame A) (b : Bracket) (l : Lists) : Type 0 where
  pub in_side : f.side ≡ side_of b
  pub numbers : keeps f.options l

abbrev pub Holds : {A : Type 0} → (A → Lists → Type 0) → List (Frame A) → List Bracket → List Lists → Type 0
Holds keeps [] [] [] = Unit {0}
Holds keeps [] [] (l ∷ ls) = ⊥
Holds keeps [] (b ∷ bs) ls = ⊥
Holds keeps (f ∷ fs) [] ls = ⊥
Holds keeps (f ∷ fs) (b ∷ bs) [] = ⊥
Holds keeps (f ∷ fs) (b ∷ bs) (l ∷ ls) = Held keeps f b l × Holds keeps fs bs ls
