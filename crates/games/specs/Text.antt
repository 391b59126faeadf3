-- The text of a form: `{`, the Left options' texts joined by `,`, `|`, the Right options' joined by `,`, `}`.
-- Assumes nothing.
use Rattle.std.specs.Prelude.{ℕ, List, [], ◌∷◌, ◌++◌, map}
use Rattle.games.specs.Form.{Form, Forms, form, ∅, ◌&◌}

-- the four marks that a text is made of, and their bytes
pub data Mark : Type 0 where
  open_mark bar close_mark comma : Mark

abbrev pub byte : Mark → ℕ
byte open_mark = 123
byte bar = 124
byte close_mark = 125
byte comma = 44

abbrev mutual
  pub text : Form → List Mark
  text (form ls rs) = open_mark ∷ (texts ls ++ (bar ∷ (texts rs ++ (close_mark ∷ []))))

  -- the texts of a list, joined by commas
  pub texts : Forms → List Mark
  texts ∅ = []
  texts (g & gs) = text g ++ more gs

  -- the same after a first one: a comma before each
  pub more : Forms → List Mark
  more ∅ = []
  more (g & gs) = comma ∷ (text g ++ more gs)

abbrev pub bytes : Form → List ℕ
bytes g = map byte (text g)
