-- The theorems on all lists of calls, as statements.
-- Assumes nothing.
use Rattle.std.specs.Prelude.{◌≡◌, ℕ, ◌↔◌, List}
use Rattle.games.specs.Form.{Form}
use Rattle.games.specs.Play.{NoStarterWins}
use Rattle.games.specs.Text.{bytes}
use Rattle.rulesets.specs.Rules.{Rules, Lawful, game}
use Rattle.calls.specs.Rows.{Rows, node, ◌among◌}
use Rattle.calls.specs.Answers.{Answer, told}
use Rattle.calls.specs.Sealing.{CanonicalFormOf}
use Rattle.calls.specs.Entering.{Entry, entry}
use Rattle.calls.specs.Positions.{Values}
use Rattle.calls.specs.Texts.{Shallow, Written}
use Rattle.calls.specs.Reading.{Reads}
use Rattle.calls.specs.Asking.{Prints}
use Rattle.calls.specs.Sound.{Sound}
use Rattle.calls.specs.Runs.{Past, draft_game, grown, sealed, Printed, Calls, Reached}

-- Each row is canonical, names lower numbers only, and equals no other in value
abbrev pub RowsAreSound : Type 0
RowsAreSound = (c : ℕ) (p : Past) → Reached c p → Sound p.rows

-- Two entries have one number exactly when no starter of their difference can win
abbrev pub NumbersTellGames : Type 0
NumbersTellGames = (c : ℕ) (p : Past) (e f : Entry) → Reached c p → e among p.entries → f among p.entries
    → (e.number ≡ f.number) ↔ NoStarterWins e.game f.game

-- Two dictionaries print one text for one entry of each exactly when no starter of their difference can win
abbrev pub TextsTellGames : Type 0
TextsTellGames = (c d : ℕ) (p q : Past) (e f : Entry) → Reached c p → Reached d q → e among p.entries
    → f among q.entries
    → (room room' m n : ℕ) (t u : List ℕ) → Prints p.rows e.number room (told m) t
    → Prints q.rows f.number room' (told n) u
    → (t ≡ u) ↔ NoStarterWins e.game f.game

-- What is printed for an entry is the text of its game's canonical form
abbrev pub TextsAreCanonical : Type 0
TextsAreCanonical = (c : ℕ) (p : Past) (e : Entry) → Reached c p → e among p.entries
    → (room m : ℕ) (t : List ℕ) → Prints p.rows e.number room (told m) t → (h : Form)
    → CanonicalFormOf e.game h → t ≡ bytes h

-- The row of an entry's number is the canonical form of its game
abbrev pub EntriesAreCanonical : Type 0
EntriesAreCanonical = (c : ℕ) (p : Past) (e : Entry) → Reached c p → e among p.entries
    → CanonicalFormOf e.game (node p.rows e.number)

-- A call that tells a number leaves an entry with it: of the position's game, of the form as written, of the draft's game
pub record ToldNumbersAreEntries : Type 0 where
  pub value : (R : Rules) (c : ℕ) (rows after : Rows) (code n : ℕ) (es : List Entry)
      → Values R c rows code (told n) after es → entry n (game R code) among es
  pub read : (c : ℕ) (rows after : Rows) (t : List ℕ) (g : Form) (n : ℕ) (es : List Entry) → Written t g
      → Reads c rows t (told n) after es → entry n g among es
  pub seal : (p : Past) (i slips n : ℕ) (after : Rows)
      → entry n (draft_game p i) among (sealed p i slips (told n) after).entries

-- Reading a printed text, nested at most 96 deep, tells the printed number and leaves the rows: it can be read so, and not otherwise
abbrev pub PrintedReadsBack : Type 0
PrintedReadsBack = (c : ℕ) (p : Past) (w : Printed) → Reached c p → w among p.printed → Shallow w.text
    → ((es : List Entry) × Reads c p.rows w.text (told w.number) p.rows es)
    × ((a : Answer ℕ) (after : Rows) (es : List Entry) → Reads c p.rows w.text a after es → (a ≡ told w.number) × (after ≡ p.rows))

-- A position that was valued is valued again, after any more calls, to the same number, and no row is added
abbrev pub ValuedStays : Type 0
ValuedStays = (c : ℕ) (p q : Past) (R : Rules) → Lawful R → Reached c p
    → (code n : ℕ) (after : Rows) (es : List Entry) → Values R c p.rows code (told n) after es
    → Calls c (grown p after es) q → (a : Answer ℕ) (later : Rows) (fs : List Entry)
    → Values R c q.rows code a later fs → (a ≡ told n) × (later ≡ q.rows)
