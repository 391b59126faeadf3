-- Where the machine stands in a line: one byte on, a fault, or the end.
-- Assumes nothing.
use Rattle.std.proofs.Common.{◌≡◌, ℕ, zero, suc, ◌+◌, ◌<◌, ◌≤◌, List, [], ◌∷◌, ◌++◌, length, get_or, take, sym, refl, ap, ◌∙◌, subst, add-one, arith}
use mathlib.Core.Option.{Option, none, some}
use native.Mathlib.Decide.{dec_le}
use Rattle.std.proofs.lemmas.List.{take_more, take_all, take-take, length-take-le}
use Rattle.calls.specs.Texts.{nesting, Shallow}
use Rattle.lines.specs.Syntax.{Line, spell}
use Rattle.lines.specs.Faults.{RightLine, GoesOn, Fault, wrong_byte, early_end, too_deep}
use Rattle.lines.specs.Machine.{Symbol, line, next, step, run, depth, Stands}
use Rattle.lines.proofs.Machine.{run_++, never_some, completes}
use Rattle.lines.proofs.Sound.{sound, alone}
use Rattle.lines.proofs.Complete.{run_line}
use Rattle.lines.proofs.Depth.{nesting_is}

abbrev pub at : List ℕ → Option (List Symbol)
at t = run (some (line ∷ [])) t

-- what the machine takes goes on, and nothing else does
pub goes_on : (t : List ℕ) (s : List Symbol) → at t ≡ some s → GoesOn t
goes_on t s e =
    let (rest, d) = completes s in
    let f : at (t ++ rest) ≡ some [] = run_++ (some (line ∷ [])) t rest ∙ (ap (λ q. run q rest) e ∙ d) in
    let (l, g) = alone line (t ++ rest) (sound (t ++ rest) (line ∷ []) f) in
    (l, rest, g)

pub not_on : (t : List ℕ) → at t ≡ none → ¬ GoesOn t
not_on t e (l, rest, g) =
    let f : run none rest ≡ some [] = ap (λ q. run q rest) (sym e) ∙ (sym (run_++ (some (line ∷ [])) t rest) ∙ (ap at (sym g) ∙ run_line l)) in
    never_some rest f

pub line_taken : (t : List ℕ) (l : Line) → spell l ≡ t → at t ≡ some []
line_taken t l e = ap at (sym e) ∙ run_line l

-- one byte more
at_more : (t : List ℕ) (i : ℕ) (s : List Symbol) → i < length t → at (take i t) ≡ some s → at (take (i + 1) t) ≡ next s (get_or t i 0)
at_more t i s l e = ap at (take_more t i 0 l) ∙ (run_++ (some (line ∷ [])) (take i t) (get_or t i 0 ∷ []) ∙ ap (λ q. step q (get_or t i 0)) e)

shallow_more : (t : List ℕ) (i : ℕ) → Shallow (take i t) → nesting (take (i + 1) t) ≤ 96 → Shallow (take (i + 1) t)
shallow_more t i s k j = elim (dec_le j i) [
  | yes p ↦ subst (λ u. nesting u ≤ 96) (take-take j i t p ∙ sym (take-take j (i + 1) t (omega arith))) (s j)
  | no p ↦ subst (λ u. nesting u ≤ 96) (sym (low p)) k
]
  where
    low : ¬ (j ≤ i) → take j (take (i + 1) t) ≡ take (i + 1) t
    low p = elim (dec_le (i + 1) (length t)) [
      | yes q ↦ let e = length-take-le (i + 1) t q in take_all j (take (i + 1) t) (omega arith)
      | no q ↦ let e = take_all (i + 1) t (omega arith) in let f : length (take (i + 1) t) ≡ length t = ap length e in take_all j (take (i + 1) t) (omega arith)
    ]

pub stands_start : (t : List ℕ) → Stands t 0 (line ∷ [])
stands_start t = record { within = omega arith; stack = refl; shallow = none_open }
  where
    none_open : Shallow []
    none_open zero = omega arith
    none_open (suc i) = omega arith

module _ {t : List ℕ} {i : ℕ} {s : List Symbol} (h : Stands t i s) where
  here_on : GoesOn (take i t)
  here_on = goes_on (take i t) s h.stack

  pub stands_more : (s' : List Symbol) → i < length t → next s (get_or t i 0) ≡ some s' → depth s' ≤ 96 → Stands t (i + 1) s'
  stands_more s' l e d =
      let f : at (take (i + 1) t) ≡ some s' = at_more t i s l h.stack ∙ e in
      let g = nesting_is (take (i + 1) t) s' f in
      record { within = omega arith; stack = f; shallow = shallow_more t i h.shallow (omega arith) }

  pub stands_wrong : i < length t → next s (get_or t i 0) ≡ none → Fault t 6 i
  stands_wrong l e = wrong_byte i l h.shallow here_on (rw (← add-one) (not_on (take (i + 1) t) (at_more t i s l h.stack ∙ e)))

  pub stands_deep : (s' : List Symbol) → i < length t → next s (get_or t i 0) ≡ some s' → depth s' ≡ 97 → Fault t 8 i
  stands_deep s' l e d =
      let f : at (take (i + 1) t) ≡ some s' = at_more t i s l h.stack ∙ e in
      let g = nesting_is (take (i + 1) t) s' f in
      too_deep i l h.shallow (rw (← add-one) (goes_on (take (i + 1) t) s' f)) (subst (λ j. nesting (take j t) ≡ 97) (add-one i) (g ∙ d))

pub stands_early : {t : List ℕ} {i : ℕ} {x : Symbol} {k : List Symbol} → Stands t i (x ∷ k) → length t ≤ i → Fault t 7 i
stands_early {t} {i} {x} {k} h l =
    let e : take i t ≡ t = take_all i t l in
    let n : i ≡ length t = omega (arith, h.within) in
    subst (λ j. Fault t 7 j) (sym n) (early_end (subst Shallow e h.shallow) (subst GoesOn e (here_on h)) none_is)
  where
    none_is : (m : Line) → ¬ (spell m ≡ t)
    none_is m d =
        let f = line_taken t m d in
        let g = ap at (take_all i t l) in
        let j = h.stack in
        let z : ◌≡◌ {A = ℕ} 0 1 = cc in omega arith

pub stands_end : {t : List ℕ} {i : ℕ} → Stands t i [] → length t ≤ i → (l : Line) × RightLine t l
stands_end {t} {i} h l =
    let e : take i t ≡ t = take_all i t l in
    let f : at t ≡ some [] = ap at (sym e) ∙ h.stack in
    let (m, d) = alone line t (sound t (line ∷ []) f) in
    (m, record { spelt = d; shallow = subst Shallow e h.shallow })
