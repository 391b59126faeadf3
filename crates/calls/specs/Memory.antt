-- What may be remembered of a position: its number, once it was valued.
-- Assumes nothing.
use Rattle.std.specs.Prelude.{◌≡◌, ℕ, ◌<◌, List, ◌++◌, length}
use Rattle.games.specs.Form.{Form}
use Rattle.games.specs.Order.{◌≈◌}
use Rattle.rulesets.specs.Rules.{Rules}
use Rattle.calls.specs.Rows.{Rows, node, ◌among◌}
use Rattle.calls.specs.Answers.{Answer, told}
use Rattle.calls.specs.Entering.{Entry, parts, Enters}
use Rattle.calls.specs.Positions.{Values}
use Rattle.calls.specs.Sound.{Sound}

-- node n equals g, and every part of g equals some node
pub record Remembered (rows : Rows) (g : Form) (n : ℕ) : Type 0 where
  pub inside : n < length rows
  pub equals : node rows n ≈ g
  pub parts_too : (x : Form) → x among parts g → (m : ℕ) × (m < length rows) × (node rows m ≈ x)

-- A form that was entered is remembered, it stays so while rows are added, and while it is, entering it tells its number and adds no row.
abbrev pub MemoryHolds : Type 0
MemoryHolds = ((c : ℕ) (rows after : Rows) (g : Form) (n : ℕ) (places : List ℕ) (es : List Entry) → Enters c rows g places (told n) after es → Remembered after g n)
    × ((rows more : Rows) (g : Form) (n : ℕ) → Remembered rows g n → Remembered (rows ++ more) g n)
    × ((c : ℕ) (rows : Rows) (g : Form) (n : ℕ) (places : List ℕ) → Remembered rows g n → (es : List Entry) × Enters c rows g places (told n) rows es)

-- A position that was valued is valued again, with more rows behind, to the same number, and no row is added.
abbrev pub ValuedAgain : Type 0
ValuedAgain = (R : Rules) (c : ℕ) (rows after more : Rows) (code n : ℕ) (es : List Entry)
    → Values R c rows code (told n) after es → Sound (after ++ more)
    → (a : Answer ℕ) (later : Rows) (fs : List Entry) → Values R c (after ++ more) code a later fs
    → (a ≡ told n) × (later ≡ after ++ more)
