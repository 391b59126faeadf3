-- Entering a form into a dictionary: what a position valued and a text read have in common.
-- Assumes nothing.
use Rattle.std.specs.Prelude.{ℕ, List, [], ◌∷◌, ◌++◌, length, Some, None, Option, slice_index}
use Rattle.games.specs.Form.{Form, Forms, form, ∅, ◌&◌}
use Rattle.calls.specs.Rows.{Rows}
use Rattle.calls.specs.Answers.{Answer, told, refused, refused_at}
use Rattle.calls.specs.Sealing.{Seals}

-- an entry: one sealing that told a number, and its game
pub record Entry : Type 0 where
  pub number : ℕ
  pub game : Form

abbrev pub entry : ℕ → Form → Entry
entry n g = record { number = n; game = g }

-- the entry of a sealing, if it told a number
abbrev pub made : Answer ℕ → Form → List Entry
made (told n) g = entry n g ∷ []
made (refused k) g = []
made (refused_at k place) g = []

-- the forms that a form is made of, in the order of sealing: its Left options in order, each wholly, then its Right options, then the form itself
abbrev mutual
  pub parts : Form → List Form
  parts (form ls rs) = parts_of_all ls ++ (parts_of_all rs ++ form ls rs ∷ [])

  pub parts_of_all : Forms → List Form
  parts_of_all ∅ = []
  parts_of_all (g & gs) = parts g ++ parts_of_all gs

-- Forms are sealed in turn, and the first refused seal ends it: the refusal, if any, the rows after, and the entries made, newest first.
pub data SealsInTurn (capacity : ℕ) : Rows → List Form → Option ℕ → Rows → List Entry → Type 0 where
  done : {rows : Rows} → SealsInTurn capacity rows [] None rows []
  next : {rows between after : Rows} {g : Form} {gs : List Form} {n : ℕ} {end : Option ℕ} {es : List Entry}
      → Seals capacity rows g (told n) between → SealsInTurn capacity between gs end after es
      → SealsInTurn capacity rows (g ∷ gs) end after (es ++ entry n g ∷ [])
  stop : {rows : Rows} {g : Form} {gs : List Form} {k : ℕ} → Seals capacity rows g (refused k) rows
      → SealsInTurn capacity rows (g ∷ gs) (Some k) rows []

-- the place of the seal that was refused after the entries es: as many of the places, in the order of sealing, stand before it
abbrev pub place_after : List Entry → List ℕ → ℕ
place_after es places = slice_index places (length es)

-- A form is entered: all its parts are sealed in turn, and its own number is told. Each part has a place, by which a refusal names it.
pub data Enters (capacity : ℕ) (rows : Rows) (g : Form) (places : List ℕ) : Answer ℕ → Rows → List Entry → Type 0 where
  accepted : {after : Rows} {n : ℕ} {es : List Entry}
      → SealsInTurn capacity rows (parts g) None after (entry n g ∷ es)
      → Enters capacity rows g places (told n) after (entry n g ∷ es)
  ended : {after : Rows} {k : ℕ} {es : List Entry} → SealsInTurn capacity rows (parts g) (Some k) after es
      → Enters capacity rows g places (refused_at k (place_after es places)) after es
