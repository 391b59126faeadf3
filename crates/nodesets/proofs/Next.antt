-- The next number that passes a test, which a word tells for the 64 numbers round k; and what follows from it.
-- Assumes nothing.
use Rattle.std.proofs.Common.{◌≡◌, ℕ, zero, suc, ◌+◌, ◌-◌, ◌*◌, ◌/◌, ◌%◌, ◌^◌, ◌<◌, ◌≤◌, Bool, true, false, cond, not, ◌&&◌, ◌≢◌, List, get_or, bit_xor, Option, None, Some, MatchOption, Decides, sym, refl, ap, ◌∙◌, inl, inr, pow-suc, div-le_self, arith}
use lib.Count.{count_trailing_zeros}
use Rattle.std.specs.Option.{is_some}
use Rattle.std.proofs.lemmas.Bool.{cases_eq, cases_lt, and_parts, and_from, both_ways, eq-eqb, ne_eqb, lt-ltb, false≢true}
use Rattle.bits.specs.Bits.{bit}
use Rattle.bits.proofs.Words.{bit_first, bit_next, bit_none, bit_mask, bit_xor_lem, bit_past, bit_shr}
use Rattle.nodesets.specs.Sets.{mem, Meet, Lowest, First, Next}

-- the lowest bit that is set
pub lowest_at : (n w : ℕ) → w < 2 ^ n → w ≢ 0 → bit w (count_trailing_zeros n w) ≡ true
unfolding count_trailing_zeros
lowest_at zero w h z = absurd (z (omega arith))
lowest_at (suc n) w h z = elim (cases_eq (w % 2) 1) [
  | inl e ↦ rw e (bit_first w ∙ eq-eqb (w % 2) 1 e)
  | inr d ↦ let e : w % 2 ≡ 0 = omega arith in rw e (bit_next w (count_trailing_zeros n (w / 2)) ∙ lowest_at n (w / 2) (omega (arith, pow-suc 2 n)) (λ y. z (omega arith)))
]

pub lowest_below : (n w j : ℕ) → j < count_trailing_zeros n w → bit w j ≡ false
unfolding count_trailing_zeros
lowest_below zero w j h = absurd (omega arith)
lowest_below (suc n) w j h = elim (cases_eq (w % 2) 1) [
  | inl e ↦ absurd (let l : j < 0 = rw e at h in omega arith)
  | inr d ↦ let e : w % 2 ≡ 0 = omega arith in even e (λ i. lowest_below n (w / 2) i) j (rw e at h)
]
  where
    even : w % 2 ≡ 0 → ((i : ℕ) → i < count_trailing_zeros n (w / 2) → bit (w / 2) i ≡ false) → (j : ℕ) → j < suc (count_trailing_zeros n (w / 2)) → bit w j ≡ false
    even e up zero l = bit_first w ∙ ne_eqb (w % 2) 1 (λ d. omega arith)
    even e up (suc j) l = bit_next w j ∙ up j (omega arith)

-- from k on, where no number that stands before it passes the test, and v tells the test for the numbers of k's word
module _ (p : ℕ → Bool) (start k v : ℕ) (small : k < 384) (fits : v < 2 ^ 64) (tells : (j : ℕ) → j / 64 ≡ k / 64 → p j ≡ bit v (j % 64)) (from : start ≤ k) (passed : (j : ℕ) → start ≤ j → j < k → p j ≡ false) where
  in_word : (j : ℕ) → k ≤ j → j / 64 ≡ k / 64 → p j ≡ bit (v / 2 ^ (k % 64)) (j - k)
  in_word j l e = let d : j % 64 ≡ j - k + k % 64 = omega arith in tells j e ∙ rw d (sym (bit_shr v (k % 64) (j - k)))

  pub next_none : v / 2 ^ (k % 64) ≡ 0 → (j : ℕ) → start ≤ j → j < (k / 64 + 1) * 64 → p j ≡ false
  next_none e j s l = elim (cases_lt j k) [
    | inl h ↦ passed j s h
    | inr h ↦ in_word j h (omega arith) ∙ (ap (λ r. bit r (j - k)) e ∙ bit_none (j - k))
  ]

  module _ (some : v / 2 ^ (k % 64) ≢ 0) where
    abbrev first : ℕ
    first = count_trailing_zeros 64 (v / 2 ^ (k % 64))

    first_set : bit (v / 2 ^ (k % 64)) first ≡ true
    first_set = let d : v / 2 ^ (k % 64) ≤ v = div-le_self _ _ in lowest_at 64 _ (omega arith) some

    first_in : first + k % 64 < 64
    first_in = elim (cases_lt (first + k % 64) 64) [ inl l ↦ l | inr l ↦ absurd (both_ways _ (bit_past v 64 (first + k % 64) fits l) (sym (bit_shr v (k % 64) first) ∙ first_set)) ]

    pub next_found : First p start (k + first)
    next_found =
        let f = first_in in
        record {
          reach = omega arith;
          bound = omega arith;
          here = in_word (k + first) (omega arith) (omega arith) ∙ (let e : k + first - k ≡ first = omega arith in rw e first_set);
          passed = λ j s l. elim (cases_lt j k) [
            | inl h ↦ passed j s h
            | inr h ↦ in_word j h (omega arith) ∙ lowest_below 64 _ (j - k) (omega arith)
          ];
        }

-- whether a number's bit differs from that of a mask
abbrev pub differs : (ℕ → Bool) → ℕ → ℕ → Bool
differs p mask j = cond (p j) (not (bit mask (j % 64))) (bit mask (j % 64))

pub tells_differs : (ws : List ℕ) (mask k j : ℕ) → j / 64 ≡ k / 64 → differs (mem ws) mask j ≡ bit (bit_xor (get_or ws (k / 64) 0) mask) (j % 64)
unfolding mem
tells_differs ws mask k j e = rw e (sym (bit_xor_lem (get_or ws (k / 64) 0) mask (j % 64)))

-- a test that says the same
pub next_same : (p q : ℕ → Bool) (start : ℕ) (r : Option ℕ) → ((k : ℕ) → p k ≡ q k) → Next p start r → Next q start r
next_same p q start None same h = λ k s l. sym (same k) ∙ h k s l
next_same p q start (Some r) same h = record {
  reach = h.reach;
  bound = h.bound;
  here = sym (same r) ∙ h.here;
  passed = λ k s l. sym (same k) ∙ h.passed k s l;
}

pub no_mask : (p : ℕ → Bool) (j : ℕ) → differs p 0 j ≡ p j
no_mask p j = rw (bit_none (j % 64)) (table (p j))
  where
    table : (b : Bool) → cond b true false ≡ b
    table true = refl
    table false = refl

pub full_mask : (p : ℕ → Bool) (j : ℕ) → differs p 18446744073709551615 j ≡ not (p j)
full_mask p j = rw (bit_mask 64 (j % 64) ∙ lt-ltb (j % 64) 64 (omega arith)) (table (p j))
  where
    table : (b : Bool) → cond b false true ≡ not b
    table true = refl
    table false = refl

-- the first number in both of two sets
pub lowest_common : (p q both : ℕ → Bool) (r : Option ℕ) → ((k : ℕ) → both k ≡ (p k && q k)) → ((k : ℕ) → 384 ≤ k → p k ≡ false) → Next both 0 r
    → MatchOption r (Meet p q → ⊥) (Lowest p q)
lowest_common p q both None e past h = λ (k, a, b). elim (cases_lt k 384) [
  | inl l ↦ both_ways _ (h k (omega arith) l) (e k ∙ and_from _ _ a b)
  | inr l ↦ both_ways _ (past k l) a
]
lowest_common p q both (Some r) e past h =
    let t = and_parts (p r) (q r) (sym (e r) ∙ h.here) in
    (t.0, t.1, λ j l (a, b). both_ways _ (h.passed j (omega arith) l) (e j ∙ and_from _ _ a b))

-- where there is no next number from 0 on, there is none
pub none_next : (p : ℕ → Bool) → ((k : ℕ) → 384 ≤ k → p k ≡ false) → Next p 0 None → (k : ℕ) → p k ≡ false
none_next p past h k = elim (cases_lt k 384) [ inl l ↦ h k (omega arith) l | inr l ↦ past k l ]

-- a set has no number from n on exactly when there is no next one
pub below_by_next : (p : ℕ → Bool) (n : ℕ) (r : Option ℕ) (b : Bool) → is_some r ≡ not b → ((k : ℕ) → 384 ≤ k → p k ≡ false) → Next p n r → Decides b ((k : ℕ) → p k ≡ true → k < n)
below_by_next p n None false e past h = absurd (false≢true e)
below_by_next p n None true e past h = (
  λ _ k t. elim (cases_lt k n) [
    | inl l ↦ l
    | inr l ↦ elim (cases_lt k 384) [ inl m ↦ absurd (both_ways _ (h k l m) t) | inr m ↦ absurd (both_ways _ (past k m) t) ]
  ],
  λ _. refl,
)
below_by_next p n (Some r) true e past h = absurd (false≢true (sym e))
below_by_next p n (Some r) false e past h = (λ e. absurd (false≢true e), λ b. let l = b r h.here in let m = h.reach in absurd (omega arith))
