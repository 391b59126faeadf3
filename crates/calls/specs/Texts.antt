-- Which texts are read, and the fault of any other.
-- Assumes nothing.
use Rattle.std.specs.Prelude.{◌≡◌, ℕ, suc, ◌-◌, ◌<◌, ◌≤◌, cond, List, [], ◌∷◌, ◌++◌, length, take, ◌==◌}
use Rattle.games.specs.Form.{Form}
use Rattle.games.specs.Text.{bytes}

-- how often a byte stands in a text
abbrev pub times : ℕ → List ℕ → ℕ
times x [] = 0
times x (y ∷ ys) = cond (x == y) (suc (times x ys)) (times x ys)

-- how many brackets `{` (123) are not closed by a `}` (125)
abbrev pub nesting : List ℕ → ℕ
nesting t = times 123 t - times 125 t

-- a text nested at most 96 deep: no more brackets are open behind any of its bytes
abbrev pub Shallow : List ℕ → Type 0
Shallow t = (i : ℕ) → nesting (take i t) ≤ 96

-- the text is the form g's, and nested at most 96 deep
pub record Written (t : List ℕ) (g : Form) : Type 0 where
  pub by_form : bytes g ≡ t
  pub shallow : Shallow t

-- some form's text begins with t
abbrev pub GoesOn : List ℕ → Type 0
GoesOn t = (g : Form) × (rest : List ℕ) × (bytes g ≡ t ++ rest)

-- The fault of a text, and its place: all before the place is in order.
pub data Fault (t : List ℕ) : ℕ → ℕ → Type 0 where
  -- a byte with which no form goes on
  wrong_byte : (i : ℕ) → i < length t → Shallow (take i t) → GoesOn (take i t) → ¬ GoesOn (take (suc i) t)
      → Fault t 6 i
  -- an early end
  early_end : Shallow t → GoesOn t → ((g : Form) → ¬ (bytes g ≡ t)) → Fault t 7 (length t)
  -- the 97th nested `{`
  too_deep : (i : ℕ) → i < length t → Shallow (take i t) → GoesOn (take (suc i) t)
      → nesting (take (suc i) t) ≡ 97 → Fault t 8 i

-- the places of the closing brackets, the text beginning at the given place
abbrev pub closings : ℕ → List ℕ → List ℕ
closings i [] = []
closings i (b ∷ t) = cond (125 == b) (i ∷ closings (suc i) t) (closings (suc i) t)
