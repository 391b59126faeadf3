-- A machine that reads a text, one mark after the other. The contracts of what walks along a text speak of it;
-- what reading a text promises does not.
-- Assumes nothing.
use Rattle.std.specs.Prelude.{List, [], ◌∷◌}
use Rattle.games.specs.Form.{Form, Forms, form, ∅, ◌&◌, ◌⧺◌}
use Rattle.games.specs.Text.{Mark, open_mark, bar, close_mark, comma}

-- an open bracket: in its Left options, or past them in its Right options, with those read so far
pub data Bracket : Type 0 where
  in_left : Forms → Bracket
  in_right : Forms → Forms → Bracket

-- a form more among the options of a bracket
abbrev pub put : Form → Bracket → Bracket
put g (in_left ls) = in_left (ls ⧺ (g & ∅))
put g (in_right ls rs) = in_right ls (rs ⧺ (g & ∅))

-- where the reader stands, above the brackets that are open outside
pub data State : Type 0 where
  wants : List Bracket → State  -- a form must begin
  fresh : Bracket → List Bracket → State  -- after `{` or `|`
  after : Bracket → List Bracket → State  -- after an option
  done : Form → State  -- after the last bracket
  wrong : State

-- a form has been read
abbrev pub finish : Form → List Bracket → State
finish g [] = done g
finish g (b ∷ bs) = after (put g b) bs

-- the list of a bracket has ended
abbrev pub end_left : Bracket → List Bracket → State
end_left (in_left ls) bs = fresh (in_right ls ∅) bs
end_left (in_right ls rs) bs = wrong

abbrev pub end_right : Bracket → List Bracket → State
end_right (in_left ls) bs = wrong
end_right (in_right ls rs) bs = finish (form ls rs) bs

-- where a mark leads
abbrev pub next : State → Mark → State
next (wants bs) open_mark = fresh (in_left ∅) bs
next (wants bs) bar = wrong
next (wants bs) close_mark = wrong
next (wants bs) comma = wrong
next (fresh b bs) open_mark = fresh (in_left ∅) (b ∷ bs)
next (fresh b bs) bar = end_left b bs
next (fresh b bs) close_mark = end_right b bs
next (fresh b bs) comma = wrong
next (after b bs) open_mark = wrong
next (after b bs) bar = end_left b bs
next (after b bs) close_mark = end_right b bs
next (after b bs) comma = wants (b ∷ bs)
next (done g) m = wrong
next wrong m = wrong

-- where some marks lead, one after the other
abbrev pub run : State → List Mark → State
run q [] = q
run q (m ∷ ms) = run (next q m) ms

-- where the machine stands behind some marks
abbrev pub at : List Mark → State
at ms = run (wants []) ms

-- what has been read is the beginning of some form's text
abbrev pub Alive : State → Type 0
Alive (wants bs) = Unit {0}
Alive (fresh b bs) = Unit {0}
Alive (after b bs) = Unit {0}
Alive (done g) = Unit {0}
Alive wrong = ⊥

-- the brackets that are open, innermost first; and those outside the innermost
abbrev pub brackets : State → List Bracket
brackets (wants bs) = bs
brackets (fresh b bs) = b ∷ bs
brackets (after b bs) = b ∷ bs
brackets (done g) = []
brackets wrong = []

abbrev pub outside : State → List Bracket
outside (wants bs) = bs
outside (fresh b bs) = bs
outside (after b bs) = bs
outside (done g) = []
outside wrong = []
