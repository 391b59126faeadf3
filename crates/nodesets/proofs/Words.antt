-- The members of a set of six words.
-- Assumes nothing.
use Rattle.std.proofs.Common.{◌≡◌, ℕ, zero, suc, ◌+◌, ◌-◌, ◌*◌, ◌/◌, ◌%◌, ◌^◌, ◌<◌, ◌≤◌, Bool, true, false, not, ◌&&◌, ◌||◌, eqb, ltb, ◌≢◌, List, [], ◌∷◌, length, get_or, set, Decides, MatchBool, sym, refl, ap, subst, ◌∙◌, inl, inr, arith}
use lib.Bits.{bit_and, bit_or}
use Rattle.std.specs.List.{AllWithin, HoldsAt, zip}
use Rattle.std.proofs.lemmas.Bool.{cases_eq, cases_lt, and_parts, and_from, both_ways, eq-eqb, ne_eqb, lt-ltb, le-ltb, false≢true}
use Rattle.std.proofs.lemmas.List.{get_or-set_same, get_or-set_other, get_or_past}
use Rattle.std.proofs.lemmas.Nat.{and_le_l, mod_below}
use Rattle.std.proofs.lemmas.Slice.Zip.{get_or-zip, length-zip}
use Rattle.bits.specs.Bits.{bit}
use Rattle.bits.proofs.Words.{bit_or_lem, bit_and_lem, bit_none, bit_not, bit_one, one_shl_64, some_bit}
use Rattle.nodesets.specs.Sets.{mem, Meet}

-- a number by its word and its bit
same_word : (j k : ℕ) → j / 64 ≡ k / 64 → eqb (j % 64) (k % 64) ≡ eqb j k
same_word j k e = elim (cases_eq j k) [ inl p ↦ rw (p, eq-eqb k k refl, eq-eqb (k % 64) (k % 64) refl) | inr p ↦ rw (ne_eqb j k p, ne_eqb (j % 64) (k % 64) (λ q. p (omega arith))) ]

or_swap : (a b : Bool) → (a || b) ≡ (b || a)
or_swap true true = refl
or_swap true false = refl
or_swap false true = refl
or_swap false false = refl

and_true : (b : Bool) → (b && true) ≡ b
and_true true = refl
and_true false = refl

-- a word less the bits of another
pub bit_without : (a b j : ℕ) → b < 2 ^ 64 → j < 64 → bit (bit_and a (18446744073709551615 - b)) j ≡ (bit a j && not (bit b j))
bit_without a b j f l = bit_and_lem a (18446744073709551615 - b) j ∙ ap (λ x. bit a j && x) (bit_not b 64 j f ∙ rw (lt-ltb j 64 l))

module _ (ws : List ℕ) (k : ℕ) (six : length ws ≡ 6) (small : k < 384) where
  in_range : k / 64 < length ws
  in_range = omega arith

  flag : (1 * 2 ^ (k % 64)) % 18446744073709551616 ≡ 2 ^ (k % 64)
  flag = one_shl_64 (k % 64) (omega arith)

  pub mem_insert : (j : ℕ) → mem (set ws (k / 64) (bit_or (get_or ws (k / 64) 0) ((1 * 2 ^ (k % 64)) % 18446744073709551616))) j ≡ ((eqb j k && ltb j 384) || mem ws j)
  unfolding mem
  mem_insert j = elim (cases_eq (j / 64) (k / 64)) [ inl e ↦ here e | inr n ↦ away n ]
    where
      new : ℕ
      new = bit_or (get_or ws (k / 64) 0) ((1 * 2 ^ (k % 64)) % 18446744073709551616)

      inside : j / 64 ≡ k / 64 → (eqb j k && ltb j 384) ≡ eqb j k
      inside e = rw (lt-ltb j 384 (omega arith)) (and_true (eqb j k))

      here : j / 64 ≡ k / 64 → bit (get_or (set ws (k / 64) new) (j / 64) 0) (j % 64) ≡ ((eqb j k && ltb j 384) || bit (get_or ws (j / 64) 0) (j % 64))
      here e =
          rw (inside e, e, get_or-set_same ws (k / 64) new 0 in_range, flag, bit_or_lem (get_or ws (k / 64) 0) (2 ^ (k % 64)) (j % 64), bit_one (k % 64) (j % 64), same_word j k e)
          (or_swap (bit (get_or ws (k / 64) 0) (j % 64)) (eqb j k))

      away : j / 64 ≢ k / 64 → bit (get_or (set ws (k / 64) new) (j / 64) 0) (j % 64) ≡ ((eqb j k && ltb j 384) || bit (get_or ws (j / 64) 0) (j % 64))
      away n = rw (get_or-set_other ws (k / 64) (j / 64) new 0 n, ne_eqb j k (λ e. n (ap (λ x. x / 64) e)))

  pub mem_remove : (j : ℕ) → mem (set ws (k / 64) (bit_and (get_or ws (k / 64) 0) (18446744073709551615 - (1 * 2 ^ (k % 64)) % 18446744073709551616))) j ≡ (mem ws j && not (eqb j k))
  unfolding mem
  mem_remove j = elim (cases_eq (j / 64) (k / 64)) [ inl e ↦ here e | inr n ↦ away n ]
    where
      new : ℕ
      new = bit_and (get_or ws (k / 64) 0) (18446744073709551615 - (1 * 2 ^ (k % 64)) % 18446744073709551616)

      here : j / 64 ≡ k / 64 → bit (get_or (set ws (k / 64) new) (j / 64) 0) (j % 64) ≡ (bit (get_or ws (j / 64) 0) (j % 64) && not (eqb j k))
      here e =
          rw (e, get_or-set_same ws (k / 64) new 0 in_range, bit_without (get_or ws (k / 64) 0) ((1 * 2 ^ (k % 64)) % 18446744073709551616) (j % 64) (mod_below (1 * 2 ^ (k % 64)) 18446744073709551616 (omega arith)) (omega arith), flag, bit_one (k % 64) (j % 64), same_word j k e)

      away : j / 64 ≢ k / 64 → bit (get_or (set ws (k / 64) new) (j / 64) 0) (j % 64) ≡ (bit (get_or ws (j / 64) 0) (j % 64) && not (eqb j k))
      away n = rw (get_or-set_other ws (k / 64) (j / 64) new 0 n, ne_eqb j k (λ e. n (ap (λ x. x / 64) e))) (sym (and_true (bit (get_or ws (j / 64) 0) (j % 64))))

-- word by word
pub mem_each : (g : Bool → Bool → Bool) → g false false ≡ false → (xs ys zs : List ℕ) → length xs ≡ 6 → length ys ≡ 6 → length zs ≡ 6
    → ((i j : ℕ) → i < 6 → j < 64 → bit (get_or zs i 0) j ≡ g (bit (get_or xs i 0) j) (bit (get_or ys i 0) j))
    → (j : ℕ) → mem zs j ≡ g (mem xs j) (mem ys j)
unfolding mem
mem_each g none xs ys zs p q r e j = elim (cases_lt (j / 64) 6) [
  | inl h ↦ e (j / 64) (j % 64) h (omega arith)
  | inr h ↦ rw (get_or_past xs (j / 64) 0 (omega arith), get_or_past ys (j / 64) 0 (omega arith), get_or_past zs (j / 64) 0 (omega arith), bit_none (j % 64)) (sym none)
]

pub mem_past : (ws : List ℕ) (j : ℕ) → length ws ≡ 6 → 384 ≤ j → mem ws j ≡ false
unfolding mem
mem_past ws j p h = rw (get_or_past ws (j / 64) 0 (omega arith), bit_none (j % 64))

-- a number past the words
pub insert_past : (ws : List ℕ) (k : ℕ) → 384 ≤ k → (j : ℕ) → mem ws j ≡ ((eqb j k && ltb j 384) || mem ws j)
insert_past ws k h j = elim (cases_eq j k) [ inl e ↦ rw (le-ltb j 384 (omega arith), eq-eqb j k e) | inr n ↦ rw (ne_eqb j k n) ]

pub remove_past : (ws : List ℕ) (k : ℕ) → length ws ≡ 6 → 384 ≤ k → (j : ℕ) → mem ws j ≡ (mem ws j && not (eqb j k))
remove_past ws k six h j = elim (cases_eq j k) [
  | inl e ↦ rw (mem_past ws j six (omega arith))
  | inr n ↦ rw (ne_eqb j k n) (sym (and_true (mem ws j)))
]

zeros : List ℕ
zeros = 0 ∷ (0 ∷ (0 ∷ (0 ∷ (0 ∷ (0 ∷ [])))))

pub mem_zeros : (j : ℕ) → mem (0 ∷ (0 ∷ (0 ∷ (0 ∷ (0 ∷ (0 ∷ [])))))) j ≡ false
unfolding mem zeros
mem_zeros j = rw (at (j / 64)) (bit_none (j % 64))
  where
    at : (i : ℕ) → get_or zeros i 0 ≡ 0
    at zero = refl
    at (suc zero) = refl
    at (suc (suc zero)) = refl
    at (suc (suc (suc zero))) = refl
    at (suc (suc (suc (suc zero)))) = refl
    at (suc (suc (suc (suc (suc zero))))) = refl
    at (suc (suc (suc (suc (suc (suc i)))))) = refl

shared_bit : (a b : ℕ) → bit_and a b ≢ 0 → a < 2 ^ 64 → (j : ℕ) × (j < 64) × (bit a j ≡ true) × (bit b j ≡ true)
shared_bit a b some fits =
    let (j, l, t) = some_bit 64 (bit_and a b) (omega (arith, and_le_l a b)) some in
    let (p, q) = and_parts (bit a j) (bit b j) (sym (bit_and_lem a b j) ∙ t) in
    (j, l, p, q)

-- two sets meet exactly where some word of one has a bit of the other's
module _ (ws vs : List ℕ) (six : length ws ≡ 6) (too : length vs ≡ 6) where
  pairs : length (zip ws vs) ≡ 6
  pairs = length-zip ws vs ∙ rw (six, too)

  pair_at : (P : ℕ × ℕ → Type 0) (i : ℕ) → i < 6 → HoldsAt P (zip ws vs) i → P (get_or ws i 0, get_or vs i 0)
  pair_at P i l h = subst P (get_or-zip ws vs i (0, 0) (omega arith) (omega arith)) (h (0, 0))

  pub meet_by_words : (r : Bool)
      → MatchBool r ((i : ℕ) × (i < length (zip ws vs)) × HoldsAt (λ p. (bit_and p.0 p.1 ≢ 0) × (p.0 < 2 ^ 64)) (zip ws vs) i) (AllWithin (λ p. bit_and p.0 p.1 ≡ 0) (zip ws vs) 0 (length (zip ws vs)))
      → Decides r (Meet (mem ws) (mem vs))
  unfolding mem
  meet_by_words true (i, l, some) =
      let n = pairs in
      let (meets, fits) = pair_at (λ p. (bit_and p.0 p.1 ≢ 0) × (p.0 < 2 ^ 64)) i (omega arith) some in
      let (j, m, p, q) = shared_bit (get_or ws i 0) (get_or vs i 0) meets fits in
      let d : (i * 64 + j) / 64 ≡ i = omega arith in
      let e : (i * 64 + j) % 64 ≡ j = omega arith in
      (λ _. (i * 64 + j, rw (d, e) p, rw (d, e) q), λ _. refl)
  meet_by_words false none = (
    λ e. absurd (false≢true e),
    λ (k, a, b). elim (cases_lt (k / 64) 6) [
      | inl l ↦
          let n = pairs in
          let z = pair_at (λ p. bit_and p.0 p.1 ≡ 0) (k / 64) l (λ d. none (k / 64) d (omega arith) (omega arith)) in
          absurd (both_ways _ (bit_none (k % 64)) (ap (λ w. bit w (k % 64)) (sym z) ∙ bit_and_lem _ _ (k % 64) ∙ and_from _ _ a b))
      | inr l ↦ absurd (both_ways _ (mem_past ws k six (omega arith)) a)
    ],
  )
