-- How many numbers fail a test: fewer from turn to turn of a loop.
-- Assumes nothing.
use Rattle.std.proofs.Common.{◌≡◌, ℕ, zero, suc, ◌+◌, ◌<◌, ◌≤◌, Bool, true, false, cond, not, ◌&&◌, eqb, refl, ap, sym, ◌∙◌, inl, inr, arith}
use Rattle.std.proofs.lemmas.Bool.{cases_eq, eq-eqb, false≢true}

-- how many of the numbers below n fail the test
unfoldable pub left_out : (ℕ → Bool) → ℕ → ℕ
left_out p zero = 0
left_out p (suc n) = left_out p n + cond (p n) 0 1

module _ (p q : ℕ → Bool) (still : (k : ℕ) → p k ≡ true → q k ≡ true) where
  one_fewer : (k : ℕ) → cond (q k) 0 1 ≤ cond (p k) 0 1
  one_fewer k = go (p k) (q k) (still k)
    where
      go : (a b : Bool) → (a ≡ true → b ≡ true) → cond b 0 1 ≤ cond a 0 1
      go true b f = rw (f refl) (omega arith)
      go false true f = omega arith
      go false false f = omega arith

  left_out_most : (n : ℕ) → left_out q n ≤ left_out p n
  unfolding left_out
  left_out_most zero = omega arith
  left_out_most (suc n) = let a = left_out_most n in let b = one_fewer n in omega arith

  pub left_out_falls : (n h : ℕ) → h < n → p h ≡ false → q h ≡ true → left_out q n < left_out p n
  unfolding left_out
  left_out_falls zero h l a b = absurd (omega arith)
  left_out_falls (suc n) h l a b = elim (cases_eq h n) [
    | inl e ↦ (let m = left_out_most n in rw (ap p (sym e) ∙ a, ap q (sym e) ∙ b) (omega arith))
    | inr d ↦ (let m = left_out_falls n h (omega arith) a b in let f = one_fewer n in omega arith)
  ]

-- one number that passed no longer does
pub left_out_taken : (p q : ℕ → Bool) (o n : ℕ) → o < n → p o ≡ true → ((j : ℕ) → q j ≡ (p j && not (eqb j o))) → left_out (λ k. not (q k)) n < left_out (λ k. not (p k)) n
left_out_taken p q o n h t without =
    left_out_falls (λ k. not (p k)) (λ k. not (q k)) (λ k u. rw (without k) (still (p k) (not (eqb k o)) u)) n o h (ap not t) (rw (without o, eq-eqb o o refl) (gone (p o)))
  where
    still : (a b : Bool) → not a ≡ true → not (a && b) ≡ true
    still true b u = absurd (false≢true u)
    still false b u = refl

    gone : (a : Bool) → not (a && false) ≡ true
    gone true = refl
    gone false = refl
