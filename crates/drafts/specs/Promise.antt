-- What holds of all lists of calls, in one.
-- Assumes nothing.
use Rattle.calls.specs.RunLaws.{EntriesAreCanonical, ToldNumbersAreEntries, NumbersTellGames, TextsTellGames, TextsAreCanonical, PrintedReadsBack, RowsAreSound, ValuedStays}
use Rattle.calls.specs.WorkedRun.{ShorterRun, WorkedRun}

-- Whatever list of value, first move, read, open, put, seal, abandon and print calls, refused ones among them, takes a new dictionary to where it is,
-- over any store, with any rulesets, several in one list: an entry's game has one number and one text, and a text that was printed reads back.
-- (What a call may leave is `Call` in Runs. That the code's calls are such calls is said by the clause `step` of each of them.)
pub record OneGameOneNumberOneText : Type 0 where
  -- no two entries have one number though some starter of their difference can win, or two numbers though none can
  pub numbers : NumbersTellGames
  -- no two dictionaries print one text for one entry of each though some starter of their difference can win, or two texts though none can
  pub texts : TextsTellGames
  -- no dictionary prints for an entry another text than that of the canonical form of its game
  pub canonical : TextsAreCanonical
  -- no text that a print wrote, nested at most 96 deep, is read later to another number, refused, or read with a row added
  pub read_back : PrintedReadsBack
  -- each row is canonical, names lower numbers only, and equals no other in value
  pub rows : RowsAreSound
  -- the row of an entry's number is the canonical form of its game
  pub forms : EntriesAreCanonical
  -- a call that tells a number leaves an entry with it
  pub entered : ToldNumbersAreEntries
  -- a position valued again has the same number, and no row is added
  pub valued : ValuedStays
  -- and none of this is empty: a list of calls is worked through
  pub worked : WorkedRun
  -- a shorter list too, which asks for no first move and abandons no draft
  pub shorter : ShorterRun
