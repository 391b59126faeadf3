-- What a draft holds, what a put changes, and a slip that is handed out.
-- Assumes nothing.
use Rattle.std.specs.Prelude.{◌≡◌, ℕ, false}
use Rattle.games.specs.declared.side.Side.{Side}
use Rattle.games.specs.Numbered.{Lists}
use Rattle.nodesets.specs.Pairs.{by}
use Rattle.calls.specs.Answers.{Answer}
use Rattle.calls.specs.Drafts.{Puts}
use Rattle.dictionary.specs.Kept.{ListsOf}
use Rattle.drafts.specs.declared.draft.Draft.{Draft}
use Rattle.drafts.specs.declared.slip.Slip.{Slip}

-- the slip is not spent
abbrev pub Unspent : Slip → Type 0
Unspent s = s.spent ≡ false

-- just the numbers of the two lists are put
abbrev pub Holds : Draft → Lists → Type 0
Holds d l = ListsOf (by d.numbers) l

-- Every draft holds some lists
abbrev pub DraftsHold : Type 0
DraftsHold = (d : Draft) → (l : Lists) × Holds d l

-- whatever lists the draft held, it holds them then with the number put, unless that is refused
abbrev pub PutsInto : Draft → Side → ℕ → Answer (Unit {0}) → Draft → Type 0
PutsInto before s n a after = (l : Lists) → Holds before l → (m : Lists) × Puts s n l a m × Holds after m
