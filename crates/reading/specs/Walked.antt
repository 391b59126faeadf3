-- Closing the brackets of a text one after the other.
-- Assumes nothing.
use Rattle.std.specs.Prelude.{◌≡◌, ℕ, List, [], ◌∷◌, ◌++◌, length, Ok, Err, Result}
use Rattle.games.specs.Form.{Form}
use Rattle.games.specs.Numbered.{Lists}
use Rattle.games.specs.Text.{Mark, open_mark, bar, close_mark, comma, text}
use Rattle.games.specs.Reader.{State, wants, done, next, outside, Alive, at}
use Rattle.calls.specs.Rows.{no_numbers}
use Rattle.calls.specs.Brackets.{put_outside}

-- Some marks are taken, after which the machine is in a state and the options of its open brackets have the numbers of the lists.
-- Each bracket that closed so far is told a number, which goes to the brackets outside: so closing led from start to another value.
pub data Walk {C E : Type 0} (closes : C → Lists → ℕ → Result ℕ E → C → Type 0) (start : C) : State → List Lists → C → Type 0 where
  begins : Walk closes start (wants []) [] start
  opens : (q : State) (ls : List Lists) (c : C) → Alive (next q open_mark) → Walk closes start q ls c
      → Walk closes start (next q open_mark) (no_numbers ∷ ls) c
  bars : (q : State) (ls : List Lists) (c : C) → Alive (next q bar) → Walk closes start q ls c
      → Walk closes start (next q bar) ls c
  commas : (q : State) (ls : List Lists) (c : C) → Alive (next q comma) → Walk closes start q ls c
      → Walk closes start (next q comma) ls c
  shuts : (q : State) (l : Lists) (ls : List Lists) (b c : C) (place n : ℕ) → Alive (next q close_mark)
      → Walk closes start q (l ∷ ls) b → closes b l place (Ok n) c
      → Walk closes start (next q close_mark) (put_outside n (outside q) ls) c

-- The last bracket of g's text closes, and its number is told; or a bracket is refused at its place.
pub data Walked {C E : Type 0} (closes : C → Lists → ℕ → Result ℕ E → C → Type 0) (start : C) (g : Form) : Result ℕ E → C → Type 0 where
  ends : (q : State) (l : Lists) (b c : C) (place n : ℕ) → next q close_mark ≡ done g
      → Walk closes start q (l ∷ []) b → closes b l place (Ok n) c → Walked closes start g (Ok n) c
  stops : (ms rest : List Mark) (l : Lists) (ls : List Lists) (b c : C) (e : E)
      → text g ≡ ms ++ close_mark ∷ rest → Walk closes start (at ms) (l ∷ ls) b
      → closes b l (length ms) (Err e) c
      → Walked closes start g (Err e) c
