-- What a call answers.
-- Assumes nothing.
use Rattle.std.specs.Prelude.{ℕ}

-- What was asked for, or a refusal by its number:
--     1 a number that is not a node's        2 more than 16 options on a side      3 a full store
--     4 a code that is not legal             5 a text too long                     6 a byte with which no form goes on
--     7 a text that ends early               8 the 97th nested bracket             9 a form that is no node's as written
-- A refusal that has a place names it: the code of a position, or the place of a byte in a text.
pub data Answer (A : Type 0) : Type 0 where
  told : A → Answer A
  refused : ℕ → Answer A
  refused_at : ℕ → ℕ → Answer A
