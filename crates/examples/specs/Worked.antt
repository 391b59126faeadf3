-- Eight worked positions: the canonical form of each, by its text, and its outcome.
-- Assumes nothing.
use Rattle.std.specs.Prelude.{◌≡◌, List, [], ◌∷◌, ℕ, codes}
use Rattle.games.specs.declared.outcome.Outcome.{Outcome}
use Rattle.games.specs.declared.outcome.Outcome.TheVariants.{Zero, Fuzzy, Positive, Negative}
use Rattle.games.specs.Form.{Form, form, ∅, ◌&◌, 𝟎, 𝟏}
use Rattle.games.specs.Order.{◌≈◌}
use Rattle.games.specs.Canon.{Canonical}
use Rattle.games.specs.Outcomes.{outcome}
use Rattle.games.specs.Text.{bytes}
use Rattle.rulesets.specs.Rules.{game}
use Rattle.toads.specs.Toads.{toads}
use Rattle.toads.specs.Strips.{code_of}
use Rattle.domineering.specs.Domineering.{domineering}
use Rattle.hackenbush.specs.declared.edge.Edge.{Edge}
use Rattle.hackenbush.specs.declared.edge.Colour.{Colour}
use Rattle.hackenbush.specs.declared.edge.Colour.TheVariants.{Left, Right, Both}
use Rattle.hackenbush.specs.Hackenbush.{hackenbush}
use Rattle.sums.specs.Sums.{minus}

-- the game g has the canonical form with this text, and this outcome
pub record Worked (g : Form) (text : List ℕ) (o : Outcome) : Type 0 where
  pub canonical_form : Form
  pub is_canonical : Canonical canonical_form
  pub same_value : g ≈ canonical_form
  pub its_text : bytes canonical_form ≡ text
  pub its_outcome : outcome g ≡ o

-- an edge between two vertices
abbrev pub edge : ℕ → ℕ → Colour → Edge
edge v w c = record { from = v; to = w; colour = c }

-- two edges in a row, 0-1L,1-2R and 0-1L,1-2B: both stand in code 3
abbrev pub blue_red : List Edge
blue_red = edge 0 1 Left ∷ (edge 1 2 Right ∷ [])

abbrev pub blue_green : List Edge
blue_green = edge 0 1 Left ∷ (edge 1 2 Both ∷ [])

pub record WorkedPositions : Type 0 where
  -- Domineering: one cell; two rows of two with the first cell filled; two rows of two, all empty
  pub one_cell : Worked (game (domineering 1 1) 0) (codes "{|}") Zero
  pub corner : Worked (game (domineering 2 2) 1) (codes "{{|}|{|}}") Fuzzy
  pub square : Worked (game (domineering 2 2) 0) (codes "{{{|}|}|{|{|}}}") Fuzzy
  -- Toads-and-Frogs: TF.
  pub strip : Worked (game (toads 3) (code_of (codes "TF."))) (codes "{|}") Zero
  -- Hackenbush: a red edge on a blue one, a green edge on a blue one
  pub half : Worked (game (hackenbush blue_red) 3) (codes "{{|}|{{|}|}}") Positive
  pub flower : Worked (game (hackenbush blue_green) 3) (codes "{{{|}|}|{{|}|}}") Positive
  -- the form {{|},{{|}|}|}, which has a dominated option
  pub two : Worked (form (𝟎 & 𝟏 & ∅) ∅) (codes "{{{|}|}|}") Positive
  -- the negative of the red edge on the blue one
  pub minus_half : Worked (game (minus (hackenbush blue_red)) 3) (codes "{{|{|}}|{|}}") Negative
