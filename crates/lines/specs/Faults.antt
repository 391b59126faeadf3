-- Which lines are right, and the fault of any other.
-- Assumes nothing.
use Rattle.std.specs.Prelude.{◌≡◌, ℕ, suc, ◌<◌, ◌⊎◌, List, ◌++◌, length, take}
use Rattle.calls.specs.Texts.{nesting, Shallow}
use Rattle.lines.specs.Syntax.{Line, spell}

-- the bytes spell this line, with the brackets of its texts nested at most 96 deep
pub record RightLine (t : List ℕ) (l : Line) : Type 0 where
  pub spelt : spell l ≡ t
  pub shallow : Shallow t

-- some line's spelling begins with t
abbrev pub GoesOn : List ℕ → Type 0
GoesOn t = (l : Line) × (rest : List ℕ) × (spell l ≡ t ++ rest)

-- The fault of a line, by its number, and its place: all before the place is in order.
pub data Fault (t : List ℕ) : ℕ → ℕ → Type 0 where
  -- a byte with which no line goes on
  wrong_byte : (i : ℕ) → i < length t → Shallow (take i t) → GoesOn (take i t) → ¬ GoesOn (take (suc i) t)
      → Fault t 6 i
  -- an early end
  early_end : Shallow t → GoesOn t → ((l : Line) → ¬ (spell l ≡ t)) → Fault t 7 (length t)
  -- the 97th nested `{`
  too_deep : (i : ℕ) → i < length t → Shallow (take i t) → GoesOn (take (suc i) t)
      → nesting (take (suc i) t) ≡ 97 → Fault t 8 i

-- Any bytes are a right line, or they have a fault.
abbrev pub BytesHaveAVerdict : Type 0
BytesHaveAVerdict = (t : List ℕ)
    → ((l : Line) × RightLine t l) ⊎ ((number : ℕ) × (place : ℕ) × Fault t number place)

-- They have one fault at most, and a right line has none.
abbrev pub TheVerdictIsOne : Type 0
TheVerdictIsOne = ((t : List ℕ) (f g i j : ℕ) → Fault t f i → Fault t g j → (f ≡ g) × (i ≡ j))
    × ((t : List ℕ) (l : Line) (f i : ℕ) → RightLine t l → ¬ Fault t f i)

-- A spelling tells its line.
abbrev pub SpellingTells : Type 0
SpellingTells = (l m : Line) → spell l ≡ spell m → l ≡ m
