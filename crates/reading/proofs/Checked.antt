-- The check of a text goes on byte by byte.
-- Assumes nothing.
use Rattle.std.proofs.Common.{◌≡◌, ℕ, ◌+◌, ◌<◌, ◌≤◌, true, false, List, [], ◌∷◌, ◌++◌, length, get_or, is_some, Ok, Err, Result, ControlFlow, Continue, Break, sym, ap, subst, ◌∙◌, inl, inr, arith}
use Rattle.std.specs.ControlFlow.{break_value}
use Rattle.std.proofs.lemmas.List.{length-reverse}
use Rattle.games.specs.Form.{Form}
use Rattle.games.specs.Text.{Mark, open_mark, close_mark, byte}
use Rattle.games.specs.Reader.{State, wants, done, wrong, next, brackets, at}
use Rattle.calls.specs.Faults.{number_of, place_of}
use Rattle.calls.specs.Nests.{Stands, Stepped, Refused}
use Rattle.calls.specs.Texts.{Written, Fault}
use Rattle.calls.specs.declared.fault.TextFault.{TextFault}
use Rattle.calls.specs.declared.fault.TextFault.TheVariants.{WrongByte, EarlyEnd, TooDeep}
use Rattle.calls.specs.declared.nest.Nest.{Nest}
use Rattle.calls.proofs.Nesting.{going, open_here}
use Rattle.calls.proofs.Scanned.{Scanned, scan_begins, scan_no_mark, scan_wrong, scan_deep, scan_on, scan_early, scan_done, at_more}
use Rattle.calls.proofs.Texts.{is_mark}
use Rattle.reading.specs.Verdict.{Verdict}

-- a text with a fault
pub faulty : (t : List ℕ) (r : Result (Unit {0}) TextFault) (f : TextFault) → r ≡ Err f → Fault t (number_of f) (place_of f) → Verdict t r
faulty t r f e x = subst (λ v. Verdict t v) (sym e) x

-- the first i bytes are taken, and where the code stands, the machine does
pub record Taken (t : List ℕ) (i : ℕ) (nest : Nest) : Type 0 where
  pub marks : List Mark
  pub scanned : Scanned t i marks
  pub stands : Stands nest (at marks)

pub takes_none : (t : List ℕ) (n : Nest) → Stands n (wants []) → Taken t 0 n
takes_none t n s = record { marks = []; scanned = scan_begins t; stands = s }

-- the first i bytes are a form's text
pub record Whole (t : List ℕ) (i : ℕ) : Type 0 where
  pub marks : List Mark
  pub scanned : Scanned t i marks
  pub form : Form
  pub is_done : at marks ≡ done form

-- where the code stands, at most 96 brackets are open
few_open : (n : Nest) (q : State) → Stands n q → length (brackets q) ≤ 96
few_open n q s =
    let o = open_here q n.spot s.at_spot in
    let l = ap length s.outside in
    let r = length-reverse n.outside.items in
    let f = n.few in
    omega arith

-- a byte with which no form goes on
wrong_byte : (t : List ℕ) (i : ℕ) (ms : List Mark) → i < length t → Scanned t i ms → ((m : Mark) → byte m ≡ get_or t i 0 → next (at ms) m ≡ wrong) → Fault t 6 i
wrong_byte t i ms inside x f = elim (is_mark (get_or t i 0)) [ inl (m, e) ↦ scan_wrong t i ms inside x m e (f m e) | inr n ↦ scan_no_mark t i ms inside x n ]

module _ (t : List ℕ) (i : ℕ) (nest : Nest) (x : Taken t i nest) where
  module _ (inside : i < length t) where
    pub takes_not : (f : TextFault) → Refused (at x.marks) (get_or t i 0) i f → Fault t (number_of f) (place_of f)
    takes_not (WrongByte p) (e, w) = subst (Fault t 6) (sym e) (wrong_byte t i x.marks inside x.scanned w)
    takes_not (EarlyEnd p) w = absurd w
    takes_not (TooDeep p) (e, b, s, l) = let o = open_here _ _ s in subst (Fault t 8) (sym e) (scan_deep t i x.marks inside x.scanned open_mark b (going _ _ s).0 (omega arith))

    pub takes_on : (later : Nest) (f : ControlFlow (Unit {0}) (Unit {0})) → Stepped (at x.marks) later (get_or t i 0) i (Ok f) → is_some (break_value f) ≡ false → Taken t (i + 1) later
    takes_on later (Break u) s e = let z : ◌≡◌ {A = ℕ} 0 1 = cc in absurd (omega arith)
    takes_on later (Continue u) (m, b, s) e = record {
      marks = x.marks ++ m ∷ [];
      scanned = scan_on t i x.marks inside x.scanned m b (going _ _ s.at_spot).0 (few_open later _ s);
      stands = subst (Stands later) (sym (at_more x.marks m)) s;
    }

    pub takes_last : (later : Nest) (f : ControlFlow (Unit {0}) (Unit {0})) → Stepped (at x.marks) later (get_or t i 0) i (Ok f) → is_some (break_value f) ≡ true → Whole t (i + 1)
    takes_last later (Continue u) s e = let z : ◌≡◌ {A = ℕ} 0 1 = cc in absurd (omega arith)
    takes_last later (Break u) (b, g, d) e = record {
      marks = x.marks ++ close_mark ∷ [];
      scanned = scan_on t i x.marks inside x.scanned close_mark b (rw d tt) (rw d (omega arith));
      form = g;
      is_done = at_more x.marks close_mark ∙ d;
    }

  pub takes_early : length t ≤ i → Fault t 7 (length t)
  takes_early over = scan_early t i x.marks over x.scanned (going (at x.marks) nest.spot x.stands.at_spot).1

module _ (t : List ℕ) (i : ℕ) (w : Whole t i) where
  -- no byte may come behind it
  pub behind_whole : i < length t → Fault t 6 i
  behind_whole inside = wrong_byte t i w.marks inside w.scanned (λ m b. ap (λ q. next q m) w.is_done)

  pub whole_text : length t ≤ i → (g : Form) × Written t g
  whole_text over = (w.form, scan_done t i w.marks over w.scanned w.form w.is_done)
