-- Tests over the numbers below a bound.
-- Assumes nothing.
use Rattle.std.proofs.Common.{◌≡◌, ℕ, zero, suc, ◌<◌, ◌≤◌, Bool, true, false, not, ◌&&◌, ◌||◌, eqb, sym, refl, ap, ap₂, ◌∙◌, inl, inr, arith}
use Rattle.std.proofs.lemmas.Bool.{or_cases, or_left, or_right, cases_eq, eq-eqb, ne_eqb, false≢true}
use Rattle.sealing.specs.Steps.{some}

pub some_back : (n : ℕ) (p : ℕ → Bool) → some n p ≡ true → (k : ℕ) × (k < n) × (p k ≡ true)
some_back zero p t = absurd (false≢true t)
some_back (suc n) p t = elim (or_cases (some n p) (p n) t) [ inl a ↦ (let (k, h, e) = some_back n p a in (k, omega arith, e)) | inr b ↦ (n, omega arith, b) ]

pub some_into : (n : ℕ) (p : ℕ → Bool) (k : ℕ) → k < n → p k ≡ true → some n p ≡ true
some_into zero p k h t = absurd (omega arith)
some_into (suc n) p k h t = elim (cases_eq k n) [ inl e ↦ or_right (some n p) (p n) (ap p (sym e) ∙ t) | inr d ↦ or_left (some n p) (p n) (some_into n p k (omega arith) t) ]

or_regroup : (a b c : Bool) → ((a || b) || c) ≡ (a || (b || c))
or_regroup true b c = refl
or_regroup false b c = refl

pub or_false : (a : Bool) → (a || false) ≡ a
or_false true = refl
or_false false = refl

-- one number apart from the others
module _ (p q w : ℕ → Bool) (o : ℕ) (without : (j : ℕ) → q j ≡ (p j && not (eqb j o))) where
  kept : (j : ℕ) → (j ≡ o → ⊥) → q j ≡ p j
  kept j d = without j ∙ rw (ne_eqb j o d) (and_true (p j))
    where
      and_true : (b : Bool) → (b && true) ≡ b
      and_true true = refl
      and_true false = refl

  some_past : (n : ℕ) → n ≤ o → some n (λ j. p j && w j) ≡ some n (λ j. q j && w j)
  some_past zero h = refl
  some_past (suc n) h = ap₂ (λ a b. a || (b && w n)) (some_past n (omega arith)) (sym (kept n (λ e. omega arith)))

  pub some_apart : (n : ℕ) → o < n → p o ≡ true → some n (λ j. p j && w j) ≡ (w o || some n (λ j. q j && w j))
  some_apart zero h t = absurd (omega arith)
  some_apart (suc n) h t = elim (cases_eq o n) [
    | inl e ↦ last e
    | inr d ↦ ap₂ (λ a b. a || (b && w n)) (some_apart n (omega arith) t) (sym (kept n (λ e. d (sym e)))) ∙ or_regroup (w o) (some n (λ j. q j && w j)) (q n && w n)
  ]
    where
      gone : q o ≡ false
      gone = without o ∙ rw (eq-eqb o o refl) (and_false (p o))
        where
          and_false : (b : Bool) → (b && false) ≡ false
          and_false true = refl
          and_false false = refl

      turned : (a b : Bool) → (a || b) ≡ (b || (a || false))
      turned true true = refl
      turned true false = refl
      turned false true = refl
      turned false false = refl

      last : o ≡ n → (some n (λ j. p j && w j) || (p n && w n)) ≡ (w o || (some n (λ j. q j && w j) || (q n && w n)))
      last e = rw (sym e, t, gone) (ap (λ a. a || w o) (some_past o (omega arith)) ∙ turned (some o (λ j. q j && w j)) (w o))

-- what a turn gathers of the number that it takes
pub gather_one : (p q w : ℕ → Bool) (o n : ℕ) (was now : Bool) → ((j : ℕ) → q j ≡ (p j && not (eqb j o))) → o < n → p o ≡ true → now ≡ (was || w o) → (now || some n (λ j. q j && w j)) ≡ (was || some n (λ j. p j && w j))
gather_one p q w o n was now without h t e = rw e (or_regroup was (w o) (some n (λ j. q j && w j)) ∙ ap (λ b. was || b) (sym (some_apart p q w o without n h t)))

pub some_empty : (n : ℕ) (p w : ℕ → Bool) → ((k : ℕ) → p k ≡ false) → some n (λ j. p j && w j) ≡ false
some_empty zero p w e = refl
some_empty (suc n) p w e = rw (some_empty n p w e, e n) refl
