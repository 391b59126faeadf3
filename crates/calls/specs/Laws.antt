-- What the definitions come to, as statements. A function of src/ has each for its contract, so that the crate fails without its proof.
-- Assumes nothing.
use Rattle.std.specs.Prelude.{◌≡◌, ℕ, ◌<◌, ◌↔◌, List, [], ◌∷◌, ◌++◌, map, length, Option, slice_index_or}
use Rattle.games.specs.declared.side.Side.{Side}
use Rattle.games.specs.Form.{Form, Forms, ∅, ◌&◌, lefts, rights}
use Rattle.games.specs.Numbered.{Lists, list_of, each, form_by}
use Rattle.games.specs.Order.{◌≈◌}
use Rattle.games.specs.Listing.{Rising}
use Rattle.games.specs.Text.{bytes}
use Rattle.rulesets.specs.Rules.{Rules, Lawful, game}
use Rattle.calls.specs.Rows.{Rows, no_numbers, node, Below, ◌among◌}
use Rattle.calls.specs.Answers.{Answer, told}
use Rattle.calls.specs.Sealing.{Seals, SealsNumbers}
use Rattle.calls.specs.Entering.{Entry, made, parts}
use Rattle.calls.specs.Positions.{order, Values, FirstMoves}
use Rattle.calls.specs.Texts.{Shallow, closings}
use Rattle.calls.specs.Reading.{Reads, LooksUp}
use Rattle.calls.specs.Sound.{Sound}

-- The options of a node are the forms of the nodes that its row names
abbrev pub NodeReads : Type 0
NodeReads = (rows : Rows) → Sound rows → (n : ℕ) → n < length rows
    → node rows n ≡ form_by (node rows) (slice_index_or rows n no_numbers)

-- Both lists of a row rise in the listing order
abbrev pub RowsRise : Type 0
RowsRise = (rows : Rows) → Sound rows → (s : Side) (n : ℕ) → n < length rows
    → Rising (each (node rows) (list_of s (slice_index_or rows n no_numbers)))

-- The form of two lists of nodes is node n's, as written, exactly when the lists are row n
abbrev pub RowsAsWritten : Type 0
RowsAsWritten = (rows : Rows) → Sound rows → (n : ℕ) (l : Lists) → n < length rows → Below (length rows) l
    → (node rows n ≡ form_by (node rows) l) ↔ (slice_index_or rows n no_numbers ≡ l)

-- The positions in the order of sealing have the parts of the game for their games, and the closing brackets of a text are as many as the parts of its form
abbrev pub PlacesAreTheParts : Type 0
PlacesAreTheParts = ((R : Rules) → Lawful R → (n : ℕ) → map (game R) (order R n) ≡ parts (game R n))
    × ((g : Form) → length (closings 0 (bytes g)) ≡ length (parts g))

-- Two forms that are equal in value are sealed alike
abbrev pub SealingGoesByValue : Type 0
SealingGoesByValue = (c : ℕ) (rows after : Rows) (a : Answer ℕ) (g h : Form) → g ≈ h → Seals c rows g a after
    → Seals c rows h a after

-- the numbers of the list are nodes that equal the forms, one by one
pub data Equal (rows : Rows) : List ℕ → Forms → Type 0 where
  none_left : Equal rows [] ∅
  equal_next : {n : ℕ} {ns : List ℕ} {g : Form} {gs : Forms} → n < length rows → node rows n ≈ g
      → Equal rows ns gs → Equal rows (n ∷ ns) (g & gs)

-- It is one thing to seal a form and to seal the numbers that were told for its options
abbrev pub SealingGoesByNumbers : Type 0
SealingGoesByNumbers = (c : ℕ) (rows after : Rows) (a : Answer ℕ) (l : Lists) (g : Form)
    → Equal rows l.left (lefts g) → Equal rows l.right (rights g)
    → SealsNumbers c rows l a after ↔ Seals c rows g a after

-- the two lists have the same members
abbrev pub SameMembers : List ℕ → List ℕ → Type 0
SameMembers ns ms = (n : ℕ) → (n among ns) ↔ (n among ms)

-- Of two lists of numbers only the members matter
abbrev pub SealingGoesByMembers : Type 0
SealingGoesByMembers = (c : ℕ) (rows after : Rows) (a : Answer ℕ) (l k : Lists) → SameMembers l.left k.left
    → SameMembers l.right k.right
    → SealsNumbers c rows l a after → SealsNumbers c rows k a after

-- the number of the entry is a node's, and the node equals the entry's game
pub record Correct (rows : Rows) (e : Entry) : Type 0 where
  pub inside : e.number < length rows
  pub equals : node rows e.number ≈ e.game

-- sound rows stay sound, rows are only added behind those that stood, and the entries are correct
pub record Keeps (rows after : Rows) (es : List Entry) : Type 0 where
  pub sound : Sound rows → Sound after
  pub more : Rows
  pub behind : after ≡ rows ++ more
  pub correct : (e : Entry) → e among es → Correct after e

-- A dictionary just begun is sound, and every call that seals keeps it so
abbrev pub RowsStaySound : Type 0
RowsStaySound = Sound []
    × ((c : ℕ) (rows after : Rows) (l : Lists) (a : Answer ℕ) → SealsNumbers c rows l a after → Keeps rows after (made a (form_by (node rows) l)))
    × ((R : Rules) (c : ℕ) (rows after : Rows) (code : ℕ) (a : Answer ℕ) (es : List Entry) → Values R c rows code a after es → Keeps rows after es)
    × ((R : Rules) (c : ℕ) (rows after : Rows) (s : Side) (code : ℕ) (a : Answer (Option ℕ)) (es : List Entry) → FirstMoves R c rows s code a after es → Keeps rows after es)
    × ((c : ℕ) (rows after : Rows) (t : List ℕ) (a : Answer ℕ) (es : List Entry) → Reads c rows t a after es → Keeps rows after es)

-- A text nested at most 96 deep is found exactly when it is the text of a node, and then that node is told
abbrev pub LookUpFindsTheNodes : Type 0
LookUpFindsTheNodes = (rows : Rows) (t : List ℕ) (n : ℕ) → Shallow t
    → LooksUp rows t (told n) ↔ ((n < length rows) × (bytes (node rows n) ≡ t))
