-- What a move does to the cells of a strip.
-- Assumes nothing.
use Rattle.std.specs.Prelude.{◌≡◌, ℕ, zero, suc, ◌+◌, ◌-◌, ◌*◌, ◌^◌, ◌<◌, ◌≤◌, Bool, true, ◌≢◌, map, refl}
use Rattle.std.proofs.Common.{sym, ◌∙◌, ap, inl, inr, arith}
use Rattle.std.specs.List.{list_all, range_with_len}
use Rattle.std.proofs.lemmas.Bool.{cases_eq, and_parts, and_from}
use Rattle.bits.specs.Digits.{digit}
use Rattle.bits.proofs.Digits.{digit_within, put_same, put_other, put_below, take_same, take_other}
use Rattle.toads.specs.Toads.{shifted}

-- the cells of a legal code: no digit 3
pub every_cell : (p : ℕ → Bool) (c a n i : ℕ) → list_all p (map (digit c) (range_with_len a n)) ≡ true → a ≤ i → i < a + n → p (digit c i) ≡ true
every_cell p c a zero i e l h = absurd (omega arith)
every_cell p c a (suc n) i e l h = elim (cases_eq a i) [
  | inl q ↦ rw (← q) (and_parts (p (digit c a)) _ e).0
  | inr q ↦ every_cell p c (a + 1) n i (and_parts (p (digit c a)) _ e).1 (omega arith) (omega arith)
]

pub every_from : (p : ℕ → Bool) (c a n : ℕ) → ((i : ℕ) → a ≤ i → i < a + n → p (digit c i) ≡ true) → list_all p (map (digit c) (range_with_len a n)) ≡ true
every_from p c a zero f = refl
every_from p c a (suc n) f = and_from (p (digit c a)) _ (f a (omega arith) (omega arith)) (every_from p c (a + 1) n (λ i l h. f i (omega arith) (omega arith)))

-- digit d leaves cell i for cell j, where 0 stood
module _ (c d i j : ℕ) (small : d < 4) (from : digit c i ≡ d) (free : digit c j ≡ 0) (apart : i ≢ j) where
  rest : c - d * 4 ^ i ≡ c - digit c i * 4 ^ i
  rest = ap (λ x. c - x * 4 ^ i) (sym from)

  rest_at : (k : ℕ) → k ≢ i → digit (c - d * 4 ^ i) k ≡ digit c k
  rest_at k n = ap (λ x. digit x k) rest ∙ take_other c i k n

  free_still : digit (c - d * 4 ^ i) j ≡ 0
  free_still = rest_at j (λ e. apart (sym e)) ∙ free

  pub left_empty : digit (shifted d i j c) i ≡ 0
  left_empty = put_other d small (c - d * 4 ^ i) j i free_still apart ∙ ap (λ x. digit x i) rest ∙ take_same c i

  pub now_there : digit (shifted d i j c) j ≡ d
  now_there = put_same d small (c - d * 4 ^ i) j free_still

  pub others_stay : (k : ℕ) → k ≢ i → k ≢ j → digit (shifted d i j c) k ≡ digit c k
  others_stay k p q = put_other d small (c - d * 4 ^ i) j k free_still q ∙ rest_at k p

  pub still_below : (n : ℕ) → c < 4 ^ n → j < n → shifted d i j c < 4 ^ n
  still_below n h p = put_below d small n (c - d * 4 ^ i) j (omega arith) p free_still

  pub worth_within : d * 4 ^ i ≤ c
  worth_within = rw (← from) (digit_within c i)
