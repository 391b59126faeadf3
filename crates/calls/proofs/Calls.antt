-- What each call keeps.
-- Assumes nothing.
use Rattle.std.proofs.Common.{ℕ, List, Option}
use Rattle.games.specs.declared.side.Side.{Side}
use Rattle.games.specs.Numbered.{Lists, form_by}
use Rattle.rulesets.specs.Rules.{Rules}
use Rattle.calls.specs.Rows.{Rows, node}
use Rattle.calls.specs.Answers.{Answer}
use Rattle.calls.specs.Entering.{Entry, made}
use Rattle.calls.specs.Positions.{Values, FirstMoves}
use Rattle.calls.specs.Reading.{Reads}
use Rattle.calls.specs.Sealing.{SealsNumbers, unknown, known}
use Rattle.calls.specs.Laws.{Keeps, RowsStaySound}
use Rattle.calls.proofs.Sealing.{sound_empty}
use Rattle.calls.proofs.Entering.{seals_grows, Grows, grows_not, turn_grows, enters_grows}

pub values_grows : {R : Rules} {c : ℕ} {a b : Rows} {n : ℕ} {r : Answer ℕ} {es : List Entry} → Values R c a n r b es → Grows a es b
values_grows {a = a} (Values.illegal l) = grows_not a
values_grows (Values.legal l t) = enters_grows t

pub moves_grows : {R : Rules} {c : ℕ} {a b : Rows} {s : Side} {n : ℕ} {m : Answer (Option ℕ)} {es : List Entry} → FirstMoves R c a s n m b es → Grows a es b
moves_grows {a = a} (FirstMoves.illegal l) = grows_not a
moves_grows (FirstMoves.valued l t w) = turn_grows t
moves_grows (FirstMoves.ended l t) = turn_grows t

pub reads_grows : {c : ℕ} {a b : Rows} {t : List ℕ} {r : Answer ℕ} {es : List Entry} → Reads c a t r b es → Grows a es b
reads_grows {a = a} (Reads.faulty x) = grows_not a
reads_grows (Reads.well g w t) = enters_grows t

numbers_grow : {c : ℕ} {a b : Rows} {l : Lists} {r : Answer ℕ} → SealsNumbers c a l r b → Grows a (made r (form_by (node a) l)) b
numbers_grow {a = a} (unknown f) = grows_not a
numbers_grow (known k s) = seals_grows s

keeps : {a b : Rows} {es : List Entry} → Grows a es b → Keeps a b es
keeps g = record { sound = g.sound; more = g.extends.rest; behind = g.extends.is; correct = g.right }

pub rows_stay_sound : RowsStaySound
rows_stay_sound = (
  sound_empty,
  λ c rows after l a s. keeps (numbers_grow s),
  λ R c rows after code a es v. keeps (values_grows v),
  λ R c rows after s code a es v. keeps (moves_grows v),
  λ c rows after t a es r. keeps (reads_grows r),
)
