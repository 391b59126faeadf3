-- A machine that takes a line byte by byte: it holds the symbols that are still to come, the next one first.
-- The contracts of the reader's inner methods speak of it; what `parse` promises does not.
-- Assumes nothing.
use Rattle.std.specs.Prelude.{◌≡◌, ℕ, ◌+◌, ◌≤◌, cond, List, [], ◌∷◌, ◌++◌, map, length, take, codes, ◌==◌}
use Rattle.std.proofs.Math.Option.{Option, none, some}
use Rattle.calls.specs.Texts.{Shallow}

pub data Symbol : Type 0 where
  just : ℕ → Symbol  -- just this byte
  line line_word subject subject_word board board_word side : Symbol  -- a word: past the opening bracket
  squares more_squares cells more_cells : Symbol  -- items up to the closing bracket, or more of them
  from from_digits to to_digits colour more_edges : Symbol  -- places in an edge
  text in_left after_left in_right after_right : Symbol  -- a text, or the rest of one: in a list, or after an option of it

abbrev pub letters : List ℕ → List Symbol
letters w = map just w

-- a digit and then these symbols, of the digits from 1 and of all
abbrev pub nonzero_then : List Symbol → List (ℕ × List Symbol)
nonzero_then k = (49, k) ∷ (50, k) ∷ (51, k) ∷ (52, k) ∷ (53, k) ∷ (54, k) ∷ (55, k) ∷ (56, k) ∷ (57, k) ∷ []

abbrev pub digit_then : List Symbol → List (ℕ × List Symbol)
digit_then k = (48, k) ∷ nonzero_then k

abbrev pub colour_then : List Symbol → List (ℕ × List Symbol)
colour_then k = (76, k) ∷ (82, k) ∷ (66, k) ∷ []

abbrev pub board_rules : List (ℕ × List Symbol)
board_rules = (100, letters (codes "omineering ") ++ (squares ∷ [])) ∷ (116, letters (codes "oads ") ++ (cells ∷ [])) ∷ (104, letters (codes "ackenbush ") ++ (from ∷ [])) ∷ []

-- the bytes with which a symbol begins, and what is to come after each
abbrev pub rules : Symbol → List (ℕ × List Symbol)
rules (just b) = (b, []) ∷ []
rules line = (40, line_word ∷ []) ∷ []
rules line_word = (118, letters (codes "alue ") ++ (subject ∷ just 41 ∷ [])) ∷ (99, letters (codes "ompare ") ++ (subject ∷ just 32 ∷ subject ∷ just 41 ∷ [])) ∷ (109, letters (codes "ove ") ++ (side ∷ just 32 ∷ board ∷ just 41 ∷ [])) ∷ []
rules subject = (40, subject_word ∷ []) ∷ []
rules subject_word = (109, letters (codes "inus ") ++ (board ∷ just 41 ∷ [])) ∷ (115, letters (codes "um ") ++ (board ∷ just 32 ∷ board ∷ just 41 ∷ [])) ∷ (102, letters (codes "orm ") ++ (text ∷ just 41 ∷ [])) ∷ board_rules
rules board = (40, board_word ∷ []) ∷ []
rules board_word = board_rules
rules side = (76, []) ∷ (82, []) ∷ []
rules squares = (46, more_squares ∷ []) ∷ (35, more_squares ∷ []) ∷ []
rules more_squares = (46, more_squares ∷ []) ∷ (35, more_squares ∷ []) ∷ (47, squares ∷ []) ∷ (41, []) ∷ []
rules cells = (84, more_cells ∷ []) ∷ (70, more_cells ∷ []) ∷ (46, more_cells ∷ []) ∷ []
rules more_cells = (84, more_cells ∷ []) ∷ (70, more_cells ∷ []) ∷ (46, more_cells ∷ []) ∷ (41, []) ∷ []
rules from = (48, just 45 ∷ to ∷ []) ∷ nonzero_then (from_digits ∷ [])
rules from_digits = (45, to ∷ []) ∷ digit_then (from_digits ∷ [])
rules to = (48, colour ∷ []) ∷ nonzero_then (to_digits ∷ [])
rules to_digits = (76, more_edges ∷ []) ∷ (82, more_edges ∷ []) ∷ (66, more_edges ∷ []) ∷ digit_then (to_digits ∷ [])
rules colour = colour_then (more_edges ∷ [])
rules more_edges = (44, from ∷ []) ∷ (41, []) ∷ []
rules text = (123, in_left ∷ []) ∷ []
rules in_left = (123, in_left ∷ after_left ∷ []) ∷ (124, in_right ∷ []) ∷ []
rules after_left = (44, text ∷ after_left ∷ []) ∷ (124, in_right ∷ []) ∷ []
rules in_right = (123, in_left ∷ after_right ∷ []) ∷ (125, []) ∷ []
rules after_right = (44, text ∷ after_right ∷ []) ∷ (125, []) ∷ []

abbrev pub pick : ℕ → List (ℕ × List Symbol) → Option (List Symbol)
pick b [] = none
pick b (r ∷ rs) = cond (b == r.0) (some r.1) (pick b rs)

abbrev pub onto : Option (List Symbol) → List Symbol → Option (List Symbol)
onto none k = none
onto (some s) k = some (s ++ k)

-- one byte: none where no line goes on with it
abbrev pub next : List Symbol → ℕ → Option (List Symbol)
next [] b = none
next (x ∷ k) b = onto (pick b (rules x)) k

abbrev pub step : Option (List Symbol) → ℕ → Option (List Symbol)
step none b = none
step (some s) b = next s b

abbrev pub run : Option (List Symbol) → List ℕ → Option (List Symbol)
run q [] = q
run q (b ∷ t) = run (step q b) t

-- how many brackets of a text are open
abbrev pub weight : Symbol → ℕ
weight (just b) = 0
weight line = 0
weight line_word = 0
weight subject = 0
weight subject_word = 0
weight board = 0
weight board_word = 0
weight side = 0
weight squares = 0
weight more_squares = 0
weight cells = 0
weight more_cells = 0
weight from = 0
weight from_digits = 0
weight to = 0
weight to_digits = 0
weight colour = 0
weight more_edges = 0
weight text = 0
weight in_left = 1
weight after_left = 1
weight in_right = 1
weight after_right = 1

abbrev pub depth : List Symbol → ℕ
depth [] = 0
depth (x ∷ k) = weight x + depth k

-- The first bytes of a line, up to a place, are in order, and these symbols are to come.
pub record Stands (t : List ℕ) (place : ℕ) (s : List Symbol) : Type 0 where
  pub within : place ≤ length t
  pub stack : run (some (line ∷ [])) (take place t) ≡ some s
  pub shallow : Shallow (take place t)
