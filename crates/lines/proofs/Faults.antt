-- Any bytes are a right line or have a fault, one only, and not both.
-- Assumes nothing.
use Rattle.std.proofs.Common.{◌≡◌, ℕ, zero, suc, ◌+◌, ◌<◌, ◌≤◌, ◌⊎◌, List, [], ◌∷◌, ◌++◌, length, get_or, take, drop, sym, refl, ap, ◌∙◌, subst, inl, inr, append_assoc, append-nil, arith}
use mathlib.Core.Option.{Option, none, some}
use native.Mathlib.Decide.{dec_lt, dec_le}
use Rattle.std.proofs.lemmas.List.{take-take, take-append-drop}
use Rattle.calls.specs.Texts.{nesting, Shallow}
use Rattle.lines.specs.Syntax.{Line}
use Rattle.lines.specs.Faults.{RightLine, GoesOn, Fault, wrong_byte, early_end, too_deep, BytesHaveAVerdict, TheVerdictIsOne}
use Rattle.lines.specs.Machine.{Symbol, line, next, depth, Stands}
use Rattle.lines.proofs.Depth.{one_deeper}
use Rattle.lines.proofs.Standing.{stands_start, stands_more, stands_wrong, stands_deep, stands_early, stands_end}

-- a prefix goes on too, and nests no deeper
goes_front : (t : List ℕ) (i : ℕ) → GoesOn t → GoesOn (take i t)
goes_front t i (l, rest, e) = (l, drop i t ++ rest, e ∙ (ap (λ u. u ++ rest) (sym (take-append-drop i t)) ∙ append_assoc (take i t) (drop i t) rest))

goes_less : (t : List ℕ) (i j : ℕ) → i ≤ j → GoesOn (take j t) → GoesOn (take i t)
goes_less t i j l x = subst GoesOn (take-take i j t l) (goes_front (take j t) i x)

nests_less : (t : List ℕ) (i j : ℕ) → i ≤ j → Shallow (take j t) → nesting (take i t) ≤ 96
nests_less t i j l s = subst (λ u. nesting u ≤ 96) (take-take i j t l) (s i)

fault_one : {t : List ℕ} {f g i j : ℕ} → Fault t f i → Fault t g j → (f ≡ g) × (i ≡ j)
fault_one {t} (wrong_byte i l s g n) (wrong_byte j m s' g' n') = (refl, same (dec_lt i j) (dec_lt j i))
  where
    same : Dec (i < j) → Dec (j < i) → i ≡ j
    same (yes p) d = absurd (n (goes_less t (suc i) j p g'))
    same (no p) (yes q) = absurd (n' (goes_less t (suc j) i q g))
    same (no p) (no q) = omega arith
fault_one {t} (wrong_byte i l s g n) (early_end s' g' n') = absurd (n (goes_front t (suc i) g'))
fault_one {t} (wrong_byte i l s g n) (too_deep j m s' g' d) = elim (dec_lt j i) [
  | yes p ↦ let k = nests_less t (suc j) i p s in absurd (omega arith)
  | no p ↦ absurd (n (goes_less t (suc i) (suc j) (omega arith) g'))
]
fault_one {t} (early_end s g n) (wrong_byte j m s' g' n') = absurd (n' (goes_front t (suc j) g))
fault_one (early_end s g n) (early_end s' g' n') = (refl, refl)
fault_one (early_end s g n) (too_deep j m s' g' d) = let k = s (suc j) in absurd (omega arith)
fault_one {t} (too_deep i l s g d) (wrong_byte j m s' g' n') = elim (dec_lt i j) [
  | yes p ↦ let k = nests_less t (suc i) j p s' in absurd (omega arith)
  | no p ↦ absurd (n' (goes_less t (suc j) (suc i) (omega arith) g))
]
fault_one (too_deep i l s g d) (early_end s' g' n') = let k = s' (suc i) in absurd (omega arith)
fault_one {t} (too_deep i l s g d) (too_deep j m s' g' d') = (refl, same (dec_lt i j) (dec_lt j i))
  where
    same : Dec (i < j) → Dec (j < i) → i ≡ j
    same (yes p) x = let k = nests_less t (suc i) j p s' in absurd (omega arith)
    same (no p) (yes q) = let k = nests_less t (suc j) i q s in absurd (omega arith)
    same (no p) (no q) = omega arith

no_fault : {t : List ℕ} {f i : ℕ} (l : Line) → RightLine t l → ¬ Fault t f i
no_fault {t} l w (wrong_byte i m h p q) = q (goes_front t (suc i) (l, [], w.spelt ∙ sym (append-nil t)))
no_fault l w (early_end h p q) = q l w.spelt
no_fault l w (too_deep i m h p q) = let k = w.shallow (suc i) in omega arith

pub the_verdict_is_one : TheVerdictIsOne
the_verdict_is_one = (λ t f g i j a b. fault_one a b, λ t l f i r a. no_fault l r a)

abbrev Verdict : List ℕ → Type 0
Verdict t = ((l : Line) × RightLine t l) ⊎ ((number : ℕ) × (place : ℕ) × Fault t number place)

-- from a place where the machine stands, with so many bytes left
scan : (left : ℕ) (t : List ℕ) (i : ℕ) (s : List Symbol) → i + left ≡ length t → depth s ≤ 96 → Stands t i s → Verdict t
scan zero t i [] e d h = inl (stands_end h (omega arith))
scan zero t i (x ∷ k) e d h = inr (7, i, stands_early h (omega arith))
scan (suc left) t i s e d h = go (λ s'. scan left t (i + 1) s' (omega arith)) (next s (get_or t i 0)) refl
  where
    l : i < length t
    l = omega arith

    go : ((s' : List Symbol) → depth s' ≤ 96 → Stands t (i + 1) s' → Verdict t) → (o : Option (List Symbol)) → next s (get_or t i 0) ≡ o → Verdict t
    go later none p = inr (6, i, stands_wrong h l p)
    go later (some s') p = elim (dec_le (depth s') 96) [
      | yes q ↦ later s' q (stands_more h s' l p q)
      | no q ↦ inr (8, i, stands_deep h s' l p (let k = one_deeper (take i t) s s' (get_or t i 0) h.stack p in omega arith))
    ]

pub bytes_have_a_verdict : BytesHaveAVerdict
bytes_have_a_verdict t = scan (length t) t 0 (line ∷ []) (omega arith) (omega arith) (stands_start t)
