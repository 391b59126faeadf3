-- What the check of a text needs: so many of its bytes are in order, and the reader has taken their marks.
-- Assumes nothing.
use Rattle.std.proofs.Common.{◌≡◌, ℕ, zero, suc, ◌+◌, ◌<◌, ◌≤◌, List, [], ◌∷◌, ◌++◌, map, length, get_or, take, drop, sym, refl, ap, ◌∙◌, subst, ap₂, arith}
use mathlib.Core.Option.{none}
use Rattle.std.proofs.lemmas.List.{take-append-drop, take_all, take_more, drop_more, length-take}
use Rattle.games.specs.Form.{Form}
use Rattle.games.specs.Text.{Mark, open_mark, bar, close_mark, comma, byte}
use Rattle.games.specs.Reader.{Bracket, in_left, in_right, State, wants, fresh, after, done, wrong, finish, next, run, Alive, at, brackets}
use Rattle.games.proofs.Reader.{result}
use Rattle.games.proofs.Reading.{run_++}
use Rattle.calls.specs.Texts.{times, nesting, Shallow, Written, GoesOn, Fault}
use Rattle.calls.proofs.Texts.{goes_on, read_done, shallow_push, ends_early, no_mark, wrong_mark, deep, more_bytes}
use Rattle.calls.proofs.Bracketed.{alive_before}

-- as many brackets are open as the marks have opened and not closed
abbrev opens : List Mark → ℕ
opens ms = times 123 (map byte ms)

abbrev shuts : List Mark → ℕ
shuts ms = times 125 (map byte ms)

pub finish_open : (g : Form) (bs : List Bracket) → length (brackets (finish g bs)) ≡ length bs
finish_open g [] = refl
finish_open g (b ∷ bs) = refl

-- a mark opens a bracket, closes one, or leaves them
bracket_step : (b : Bracket) (bs : List Bracket) → (Alive (next (fresh b bs) bar) → length (brackets (next (fresh b bs) bar)) ≡ suc (length bs))
    × (Alive (next (fresh b bs) close_mark) → length (brackets (next (fresh b bs) close_mark)) ≡ length bs)
bracket_step (in_left ls) bs = (λ a. refl, λ a. absurd a)
bracket_step (in_right ls rs) bs = (λ a. absurd a, λ a. finish_open _ bs)

step_open : (q : State) (m : Mark) → Alive (next q m) → opens (m ∷ []) + length (brackets q) ≡ shuts (m ∷ []) + length (brackets (next q m))
step_open (wants bs) open_mark a = omega arith
step_open (wants bs) bar a = absurd a
step_open (wants bs) close_mark a = absurd a
step_open (wants bs) comma a = absurd a
step_open (fresh b bs) open_mark a = omega arith
step_open (fresh b bs) bar a = let h = (bracket_step b bs).0 a in omega arith
step_open (fresh b bs) close_mark a = let h = (bracket_step b bs).1 a in omega arith
step_open (fresh b bs) comma a = absurd a
step_open (after b bs) open_mark a = absurd a
step_open (after b bs) bar a = let h = (bracket_step b bs).0 a in omega arith
step_open (after b bs) close_mark a = let h = (bracket_step b bs).1 a in omega arith
step_open (after b bs) comma a = omega arith
step_open (done g) m a = absurd a
step_open wrong m a = absurd a

more_opens : (m : Mark) (ms : List Mark) → (opens (m ∷ ms) ≡ opens (m ∷ []) + opens ms) × (shuts (m ∷ ms) ≡ shuts (m ∷ []) + shuts ms)
more_opens open_mark ms = (omega arith, omega arith)
more_opens bar ms = (omega arith, omega arith)
more_opens close_mark ms = (omega arith, omega arith)
more_opens comma ms = (omega arith, omega arith)

run_open : (q : State) (ms : List Mark) → Alive (run q ms) → opens ms + length (brackets q) ≡ shuts ms + length (brackets (run q ms))
run_open q [] a = refl
run_open q (m ∷ ms) a =
    let h = step_open q m (alive_before (next q m) ms a) in
    let k = run_open (next q m) ms a in
    let e = more_opens m ms in
    omega arith

-- the nesting of what was read is the number of brackets that are open
pub nesting_is : (ms : List Mark) → Alive (at ms) → nesting (map byte ms) ≡ length (brackets (at ms))
nesting_is ms a = let h = run_open (wants []) ms a in omega arith

-- the first i bytes of the text are the marks ms, with which a form goes on, and which are nested at most 96 deep
pub record Scanned (t : List ℕ) (i : ℕ) (ms : List Mark) : Type 0 where
  pub are : map byte ms ≡ take i t
  pub alive : Alive (at ms)
  pub shallow : Shallow (map byte ms)

none_shallow : Shallow []
none_shallow zero = omega arith
none_shallow (suc i) = omega arith

pub scan_begins : (t : List ℕ) → Scanned t 0 []
scan_begins t = record { are = refl; alive = tt; shallow = none_shallow }

pub at_more : (ms : List Mark) (m : Mark) → at (ms ++ m ∷ []) ≡ next (at ms) m
at_more ms m = run_++ (wants []) ms (m ∷ [])

module _ (t : List ℕ) (i : ℕ) (ms : List Mark) where
  -- one more byte
  module _ (inside : i < length t) (x : Scanned t i ms) where
    abbrev b : ℕ
    b = get_or t i 0

    abbrev rest : List ℕ
    rest = drop (i + 1) t

    split : map byte ms ++ b ∷ rest ≡ t
    split = ap₂ ◌++◌ x.are (sym (drop_more t i 0 inside)) ∙ take-append-drop i t

    here_is : length (map byte ms) ≡ i
    here_is = ap length x.are ∙ (length-take i t ∙ omega arith)

    there : (f : ℕ) → Fault (map byte ms ++ b ∷ rest) f (length (map byte ms)) → Fault t f i
    there f y = subst (λ u. Fault u f i) split (subst (λ p. Fault (map byte ms ++ b ∷ rest) f p) here_is y)

    pub scan_no_mark : ((m : Mark) → ¬ (byte m ≡ get_or t i 0)) → Fault t 6 i
    scan_no_mark f = there 6 (no_mark b rest ms x.alive x.shallow f)

    module _ (m : Mark) (e : byte m ≡ get_or t i 0) where
      pub scan_wrong : next (at ms) m ≡ wrong → Fault t 6 i
      scan_wrong w = there 6 (wrong_mark b rest ms x.alive x.shallow m e (at_more ms m ∙ w))

      alive_more : Alive (next (at ms) m) → Alive (at (ms ++ m ∷ []))
      alive_more a = subst Alive (sym (at_more ms m)) a

      same : map byte (ms ++ m ∷ []) ≡ map byte ms ++ b ∷ []
      same = more_bytes b rest ms x.alive x.shallow m e

      nests : Alive (next (at ms) m) → nesting (map byte ms ++ b ∷ []) ≡ length (brackets (next (at ms) m))
      nests a = ap nesting (sym same) ∙ (nesting_is (ms ++ m ∷ []) (alive_more a) ∙ ap (λ q. length (brackets q)) (at_more ms m))

      pub scan_deep : Alive (next (at ms) m) → length (brackets (next (at ms) m)) ≡ 97 → Fault t 8 i
      scan_deep a k =
          let n = nests a in
          there 8 (deep b rest ms x.alive x.shallow (subst GoesOn same (goes_on (ms ++ m ∷ []) (alive_more a))) (λ h. omega arith))

      pub scan_on : Alive (next (at ms) m) → length (brackets (next (at ms) m)) ≤ 96 → Scanned t (i + 1) (ms ++ m ∷ [])
      scan_on a k = let n = nests a in record {
        are = same ∙ (ap (λ u. u ++ b ∷ []) x.are ∙ sym (take_more t i 0 inside));
        alive = alive_more a;
        shallow = subst Shallow (sym same) (shallow_push (map byte ms) b x.shallow (omega arith));
      }

  -- the end of the text
  module _ (over : length t ≤ i) (x : Scanned t i ms) where
    pub all_are : map byte ms ≡ t
    all_are = x.are ∙ take_all i t over

    pub scan_early : result (at ms) ≡ none → Fault t 7 (length t)
    scan_early r = subst (λ u. Fault u 7 (length u)) all_are (ends_early ms x.alive x.shallow r)

    pub scan_done : (g : Form) → at ms ≡ done g → Written t g
    scan_done g e = record { by_form = ap (map byte) (read_done ms g e) ∙ all_are; shallow = subst Shallow all_are x.shallow }
