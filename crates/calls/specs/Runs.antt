-- Lists of calls on a dictionary and its drafts, and what they leave.
-- Assumes nothing.
use Rattle.std.specs.Prelude.{◌≡◌, ℕ, suc, ◌<◌, ◌≤◌, cond, List, [], ◌∷◌, ◌++◌, Option, ◌==◌}
use Rattle.games.specs.declared.side.Side.{Side}
use Rattle.games.specs.declared.side.Side.TheVariants.{Left, Right}
use Rattle.games.specs.Form.{Form, 𝟎}
use Rattle.games.specs.Numbered.{Lists, form_by}
use Rattle.rulesets.specs.Rules.{Rules, Lawful}
use Rattle.calls.specs.Rows.{Rows, no_numbers}
use Rattle.calls.specs.Answers.{Answer, told, refused}
use Rattle.calls.specs.Sealing.{SealsNumbers}
use Rattle.calls.specs.Entering.{Entry, made}
use Rattle.calls.specs.Positions.{Values, FirstMoves}
use Rattle.calls.specs.Reading.{Reads}
use Rattle.calls.specs.Asking.{Prints}

-- a text that a print wrote, and the number that was printed
pub record Printed : Type 0 where
  pub number : ℕ
  pub text : List ℕ

-- What the calls have left so far: the rows; the entries, newest first; for each draft, by a number of its own, what was put since it was last emptied;
-- how many slips were handed out and not spent; and the texts printed.
pub record Past : Type 0 where
  pub rows : Rows
  pub entries : List Entry
  pub drafts : ℕ → Lists
  pub slips : ℕ
  pub printed : List Printed

-- a dictionary just begun
abbrev pub new : Past
new = record { rows = []; entries = []; drafts = λ i. no_numbers; slips = 0; printed = [] }

-- the same with other rows, and entries added
abbrev pub grown : Past → Rows → List Entry → Past
grown p rows es = record { rows = rows; entries = es ++ p.entries; drafts = p.drafts; slips = p.slips; printed = p.printed }

-- the same with another content of draft i, and another count of slips
abbrev pub holding : Past → ℕ → Lists → ℕ → Past
holding p i d slips = record { rows = p.rows; entries = p.entries; drafts = λ j. cond (j == i) d (p.drafts j); slips = slips; printed = p.printed }

-- the same with a text printed
abbrev pub printing : Past → ℕ → List ℕ → Past
printing p n t = record { rows = p.rows; entries = p.entries; drafts = p.drafts; slips = p.slips; printed = record { number = n; text = t } ∷ p.printed }

-- a draft with one more number put
abbrev pub put : Side → ℕ → Lists → Lists
put Left n d = record { left = n ∷ d.left; right = d.right }
put Right n d = record { left = d.left; right = n ∷ d.right }

-- the game of a number: that of the latest entry that was told it
abbrev pub latest : List Entry → ℕ → Form
latest [] n = 𝟎
latest (e ∷ es) n = cond (n == e.number) e.game (latest es n)

-- the game of a draft: the form whose options are the games of the numbers put
abbrev pub draft_game : Past → ℕ → Form
draft_game p i = form_by (latest p.entries) (p.drafts i)

-- draft i opened: it is empty, and one more slip is out
abbrev pub opened : Past → ℕ → Past
opened p i = holding p i no_numbers (suc p.slips)

-- draft i abandoned: it is empty, and so many slips are left
abbrev pub abandoned : Past → ℕ → ℕ → Past
abandoned p i slips = holding p i no_numbers slips

-- draft i sealed: it is empty, whatever was answered; and where a number was told, that is an entry with the draft's game
abbrev pub sealed : Past → ℕ → ℕ → Answer ℕ → Rows → Past
sealed p i slips a after = holding (grown p after (made a (draft_game p i))) i no_numbers slips

-- One call, accepted or refused, on what those before it left.
-- Open hands out a slip; put, seal and abandon are shown one that is not spent, and seal and abandon spend it.
pub data Call (capacity : ℕ) : Past → Past → Type 0 where
  value : {p : Past} {a : Answer ℕ} {after : Rows} {es : List Entry} (R : Rules) → Lawful R → (code : ℕ)
      → Values R capacity p.rows code a after es → Call capacity p (grown p after es)
  first_move : {p : Past} {a : Answer (Option ℕ)} {after : Rows} {es : List Entry} (R : Rules) → Lawful R
      → (s : Side) (code : ℕ)
      → FirstMoves R capacity p.rows s code a after es → Call capacity p (grown p after es)
  read : {p : Past} {a : Answer ℕ} {after : Rows} {es : List Entry} (t : List ℕ)
      → Reads capacity p.rows t a after es → Call capacity p (grown p after es)
  open_draft : {p : Past} (i : ℕ) → Call capacity p (holding p i no_numbers (suc p.slips))
  put_number : {p : Past} (i : ℕ) (s : Side) (n : ℕ) → 0 < p.slips → n ≤ 383
      → Call capacity p (holding p i (put s n (p.drafts i)) p.slips)
  put_refused : {p : Past} (i : ℕ) (s : Side) (n : ℕ) → 0 < p.slips → 383 < n → Call capacity p p
  abandon : {p : Past} (i slips : ℕ) → p.slips ≡ suc slips → Call capacity p (holding p i no_numbers slips)
  seal : {p : Past} {a : Answer ℕ} {after : Rows} (i slips : ℕ) → p.slips ≡ suc slips
      → SealsNumbers capacity p.rows (p.drafts i) a after
      → Call capacity p (holding (grown p after (made a (draft_game p i))) i no_numbers slips)
  print : {p : Past} {size : ℕ} {t : List ℕ} (n room : ℕ) → Prints p.rows n room (told size) t
      → Call capacity p (printing p n t)
  print_refused : {p : Past} {k : ℕ} {t : List ℕ} (n room : ℕ) → Prints p.rows n room (refused k) t
      → Call capacity p p

-- a list of calls, each on what those before it left
pub data Calls (capacity : ℕ) : Past → Past → Type 0 where
  none_yet : {p : Past} → Calls capacity p p
  one_more : {p q r : Past} → Calls capacity p q → Call capacity q r → Calls capacity p r

-- some list of calls takes a new dictionary to this
abbrev pub Reached : ℕ → Past → Type 0
Reached capacity p = Calls capacity new p
