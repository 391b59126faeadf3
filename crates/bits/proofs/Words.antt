-- What the operations on words do to single bits.
-- Assumes nothing.
use Rattle.std.proofs.Common.{◌≡◌, ℕ, zero, suc, ◌+◌, ◌-◌, ◌*◌, ◌/◌, ◌%◌, ◌^◌, ◌<◌, ◌≤◌, Bool, true, false, cond, not, ◌&&◌, ◌||◌, eqb, ltb, ◌≢◌, sym, refl, ap, ◌∙◌, inl, inr, mul_assoc, pow-suc, div-one, arith}
use native.Mathlib.Nat.{zero-div, div-eq_of_lt, pow-succ', div-div-eq-div-mul}
use lib.Bits.{bit_and, bit_or, bit_xor}
use lib.Pow.{mod-mod-pow}
use Rattle.std.proofs.lemmas.Nat.{or_shr, and_shr, xor_shr, or_mod, and_mod, xor_mod, mod_below, pow-add, shl-shr, shr-shr, pow_below, pow_pos, one_shl, field_of}
use Rattle.std.proofs.lemmas.Bool.{cases_eq, cases_lt, cases_order, eq-eqb, ne_eqb, eqb-true, eqb-false, lt-ltb, le-ltb}
use Rattle.bits.specs.Bits.{bit}

-- ---- bit by bit from the lowest

pub bit_first : (w : ℕ) → bit w 0 ≡ eqb (w % 2) 1
unfolding bit
bit_first w = rw (div-one w)

pub bit_next : (w j : ℕ) → bit w (suc j) ≡ bit (w / 2) j
unfolding bit
bit_next w j = rw (pow-succ' 2 j, ← div-div-eq-div-mul w 2 (2 ^ j))

-- ---- and, or, xor

odd_or : (p q : ℕ) → p < 2 → q < 2 → eqb (bit_or p q) 1 ≡ (eqb p 1 || eqb q 1)
odd_or zero zero a b = refl
odd_or zero (suc zero) a b = refl
odd_or zero (suc (suc q)) a b = absurd (omega arith)
odd_or (suc zero) zero a b = refl
odd_or (suc zero) (suc zero) a b = refl
odd_or (suc zero) (suc (suc q)) a b = absurd (omega arith)
odd_or (suc (suc p)) q a b = absurd (omega arith)

odd_and : (p q : ℕ) → p < 2 → q < 2 → eqb (bit_and p q) 1 ≡ (eqb p 1 && eqb q 1)
odd_and zero zero a b = refl
odd_and zero (suc zero) a b = refl
odd_and zero (suc (suc q)) a b = absurd (omega arith)
odd_and (suc zero) zero a b = refl
odd_and (suc zero) (suc zero) a b = refl
odd_and (suc zero) (suc (suc q)) a b = absurd (omega arith)
odd_and (suc (suc p)) q a b = absurd (omega arith)

odd_xor : (p q : ℕ) → p < 2 → q < 2 → eqb (bit_xor p q) 1 ≡ cond (eqb p 1) (not (eqb q 1)) (eqb q 1)
odd_xor zero zero a b = refl
odd_xor zero (suc zero) a b = refl
odd_xor zero (suc (suc q)) a b = absurd (omega arith)
odd_xor (suc zero) zero a b = refl
odd_xor (suc zero) (suc zero) a b = refl
odd_xor (suc zero) (suc (suc q)) a b = absurd (omega arith)
odd_xor (suc (suc p)) q a b = absurd (omega arith)

pub bit_or_lem : (a b j : ℕ) → bit (bit_or a b) j ≡ (bit a j || bit b j)
unfolding bit
bit_or_lem a b j = rw (or_shr a b j, or_mod (a / 2 ^ j) (b / 2 ^ j) 1) (odd_or (a / 2 ^ j % 2) (b / 2 ^ j % 2) (mod_below _ 2 (omega arith)) (mod_below _ 2 (omega arith)))

pub bit_and_lem : (a b j : ℕ) → bit (bit_and a b) j ≡ (bit a j && bit b j)
unfolding bit
bit_and_lem a b j = rw (and_shr a b j, and_mod (a / 2 ^ j) (b / 2 ^ j) 1) (odd_and (a / 2 ^ j % 2) (b / 2 ^ j % 2) (mod_below _ 2 (omega arith)) (mod_below _ 2 (omega arith)))

pub bit_xor_lem : (a b j : ℕ) → bit (bit_xor a b) j ≡ cond (bit a j) (not (bit b j)) (bit b j)
unfolding bit
bit_xor_lem a b j = rw (xor_shr a b j, xor_mod (a / 2 ^ j) (b / 2 ^ j) 1) (odd_xor (a / 2 ^ j % 2) (b / 2 ^ j % 2) (mod_below _ 2 (omega arith)) (mod_below _ 2 (omega arith)))

-- a less the bits of b
pub bit_less : (a b j : ℕ) → bit (bit_xor a (bit_and a b)) j ≡ (bit a j && not (bit b j))
bit_less a b j = rw (bit_xor_lem a (bit_and a b) j, bit_and_lem a b j) (table (bit a j) (bit b j))
  where
    table : (p q : Bool) → cond p (not (p && q)) (p && q) ≡ (p && not q)
    table true true = refl
    table true false = refl
    table false true = refl
    table false false = refl

-- ---- numbers whose bits are known

pub bit_none : (j : ℕ) → bit 0 j ≡ false
unfolding bit
bit_none j = rw (zero-div (2 ^ j))

-- a number below 2 ^ k has no bit from k on
pub bit_past : (w k j : ℕ) → w < 2 ^ k → k ≤ j → bit w j ≡ false
bit_past w zero j h p = rw (small) (bit_none j)
  where
    small : w ≡ 0
    small = omega arith
bit_past w (suc k) zero h p = absurd (omega arith)
bit_past w (suc k) (suc j) h p = rw (bit_next w j) (bit_past (w / 2) k j (omega (arith, pow-suc 2 k)) (omega arith))

-- the only bit of 2 ^ k is k
pub bit_one : (k j : ℕ) → bit (2 ^ k) j ≡ eqb j k
unfolding bit
bit_one k j = elim (cases_order j k) [ inl e ↦ at e | inr (inl h) ↦ low h | inr (inr h) ↦ high h ]
  where
    at : j ≡ k → bit (2 ^ k) j ≡ eqb j k
    at e = rw (e, eq-eqb k k refl) (let d : 2 ^ k / 2 ^ k ≡ 1 = ap (λ x. x / 2 ^ k) (omega arith) ∙ shl-shr 1 k in rw d)

    low : j < k → bit (2 ^ k) j ≡ eqb j k
    low h =
        let f : eqb j k ≡ false = ne_eqb j k (λ e. omega arith) in
        let m : k ≡ suc (k - j - 1) + j = omega arith in
        let p : 2 ^ k ≡ 2 ^ suc (k - j - 1) * 2 ^ j = ap (λ x. 2 ^ x) m ∙ pow-add 2 (suc (k - j - 1)) j in
        let d : 2 ^ k / 2 ^ j ≡ 2 ^ suc (k - j - 1) = ap (λ x. x / 2 ^ j) p ∙ shl-shr (2 ^ suc (k - j - 1)) j in
        let z : 2 ^ suc (k - j - 1) % 2 ≡ 0 = omega (arith, pow-suc 2 (k - j - 1)) in
        rw (d, z, f)

    high : k < j → bit (2 ^ k) j ≡ eqb j k
    high h =
        let f : eqb j k ≡ false = ne_eqb j k (λ e. omega arith) in
        let d : 2 ^ k / 2 ^ j ≡ 0 = div-eq_of_lt (pow_below k j h) in
        rw (d, f)

-- the k low bits of 2 ^ k - 1 are set
pub bit_mask : (k j : ℕ) → bit (2 ^ k - 1) j ≡ ltb j k
bit_mask zero j = rw (le-ltb j 0 (omega arith)) (bit_none j)
bit_mask (suc k) zero = rw (bit_first (2 ^ suc k - 1), lt-ltb 0 (suc k) (omega arith)) (eq-eqb _ 1 (omega (arith, pow-suc 2 k, pow_pos k)))
bit_mask (suc k) (suc j) = rw (bit_next (2 ^ suc k - 1) j, half) (bit_mask k j ∙ same)
  where
    half : (2 ^ suc k - 1) / 2 ≡ 2 ^ k - 1
    half = omega (arith, pow-suc 2 k, pow_pos k)

    same : ltb j k ≡ ltb (suc j) (suc k)
    same = elim (cases_lt j k) [ inl h ↦ rw (lt-ltb j k h, lt-ltb (suc j) (suc k) (omega arith)) | inr h ↦ rw (le-ltb j k h, le-ltb (suc j) (suc k) (omega arith)) ]

-- ---- shifts, masks and the complement

pub bit_shr : (w k j : ℕ) → bit (w / 2 ^ k) j ≡ bit w (j + k)
unfolding bit
bit_shr w k j = rw (shr-shr w k j) (ap (λ x. eqb (w / 2 ^ x % 2) 1) (omega arith))

pub bit_shl_high : (w k j : ℕ) → k ≤ j → bit (w * 2 ^ k) j ≡ bit w (j - k)
bit_shl_high w k j h = ap (λ x. bit (w * 2 ^ k) x) back ∙ sym (bit_shr (w * 2 ^ k) k (j - k)) ∙ ap (λ x. bit x (j - k)) (shl-shr w k)
  where
    back : j ≡ j - k + k
    back = omega arith

pub bit_shl_low : (w k j : ℕ) → j < k → bit (w * 2 ^ k) j ≡ false
bit_shl_low w zero j h = absurd (omega arith)
bit_shl_low w (suc k) zero h = rw (bit_first (w * 2 ^ suc k)) (ne_eqb _ 1 (λ e. omega (arith, e, twice)))
  where
    twice : w * 2 ^ suc k ≡ w * 2 ^ k * 2
    twice = rw (pow-suc 2 k) (sym (mul_assoc w (2 ^ k) 2))
bit_shl_low w (suc k) (suc j) h = rw (bit_next (w * 2 ^ suc k) j, half) (bit_shl_low w k j (omega arith))
  where
    twice : w * 2 ^ suc k ≡ w * 2 ^ k * 2
    twice = rw (pow-suc 2 k) (sym (mul_assoc w (2 ^ k) 2))

    half : w * 2 ^ suc k / 2 ≡ w * 2 ^ k
    half = omega (arith, twice)

pub bit_shl : (w k j : ℕ) → bit (w * 2 ^ k) j ≡ cond (ltb j k) false (bit w (j - k))
bit_shl w k j = elim (cases_lt j k) [
  | inl h ↦ rw (lt-ltb j k h) (bit_shl_low w k j h)
  | inr h ↦ rw (le-ltb j k h) (bit_shl_high w k j h)
]

pub bit_mod : (w k j : ℕ) → bit (w % 2 ^ k) j ≡ (ltb j k && bit w j)
unfolding bit
bit_mod w k j = elim (cases_lt j k) [ inl h ↦ rw (lt-ltb j k h) (low h) | inr h ↦ rw (le-ltb j k h) (bit_past (w % 2 ^ k) k j (mod_below w (2 ^ k) (pow_pos k)) h) ]
  where
    low : j < k → bit (w % 2 ^ k) j ≡ bit w j
    low h =
        let m : k ≡ k - j - 1 + 1 + j = omega arith in
        let d : w % 2 ^ k / 2 ^ j ≡ w / 2 ^ j % 2 ^ (k - j - 1 + 1) = ap (λ x. w % 2 ^ x / 2 ^ j) m ∙ field_of w (k - j - 1 + 1) j in
        ap (λ x. eqb (x % 2) 1) d ∙ ap (λ x. eqb x 1) (mod-mod-pow (w / 2 ^ j) (k - j - 1) 1)

-- `!w` at a type of k bits
pub bit_not : (w k j : ℕ) → w < 2 ^ k → bit ((2 ^ k - 1) - w) j ≡ (ltb j k && not (bit w j))
bit_not w zero j h = rw (le-ltb j 0 (omega arith), none) (bit_none j)
  where
    none : 0 - w ≡ 0
    none = omega arith
bit_not w (suc k) zero h = rw (bit_first ((2 ^ suc k - 1) - w), bit_first w, lt-ltb 0 (suc k) (omega arith)) (elim (cases_eq (w % 2) 1) [
  | inl e ↦ rw (eq-eqb (w % 2) 1 e) (ne_eqb _ 1 (λ d. omega (arith, pow-suc 2 k, pow_pos k)))
  | inr e ↦ rw (ne_eqb (w % 2) 1 e) (eq-eqb _ 1 (omega (arith, pow-suc 2 k, pow_pos k)))
])
bit_not w (suc k) (suc j) h = rw (bit_next ((2 ^ suc k - 1) - w) j, bit_next w j, half) (bit_not (w / 2) k j (omega (arith, pow-suc 2 k)) ∙ ap (λ x. x && not (bit (w / 2) j)) same)
  where
    half : ((2 ^ suc k - 1) - w) / 2 ≡ (2 ^ k - 1) - w / 2
    half = omega (arith, pow-suc 2 k, pow_pos k)

    same : ltb j k ≡ ltb (suc j) (suc k)
    same = elim (cases_lt j k) [ inl p ↦ rw (lt-ltb j k p, lt-ltb (suc j) (suc k) (omega arith)) | inr p ↦ rw (le-ltb j k p, le-ltb (suc j) (suc k) (omega arith)) ]

-- `1 << k` of a 64-bit word
pub one_shl_64 : (k : ℕ) → k < 64 → (1 * 2 ^ k) % 18446744073709551616 ≡ 2 ^ k
one_shl_64 k h = one_shl k 64 h

pub bit_one_shl : (k j : ℕ) → k < 64 → bit ((1 * 2 ^ k) % 18446744073709551616) j ≡ eqb j k
bit_one_shl k j h = rw (one_shl_64 k h) (bit_one k j)

-- ---- numbers by their bits

-- numbers of n bits with the same bits are the same
pub bits_same : (n a b : ℕ) → a < 2 ^ n → b < 2 ^ n → ((j : ℕ) → j < n → bit a j ≡ bit b j) → a ≡ b
bits_same zero a b p q f = omega arith
bits_same (suc n) a b p q f =
    let first : eqb (a % 2) 1 ≡ eqb (b % 2) 1 = sym (bit_first a) ∙ f 0 (omega arith) ∙ bit_first b in
    let rest : a / 2 ≡ b / 2 = bits_same n (a / 2) (b / 2) (omega (arith, pow-suc 2 n)) (omega (arith, pow-suc 2 n)) (λ j h. sym (bit_next a j) ∙ f (suc j) (omega arith) ∙ bit_next b j) in
    elim (cases_eq (b % 2) 1) [
      | inl e ↦ let d : a % 2 ≡ 1 = eqb-true (a % 2) 1 (first ∙ eq-eqb (b % 2) 1 e) in omega arith
      | inr e ↦ let d : a % 2 ≢ 1 = eqb-false (a % 2) 1 (first ∙ ne_eqb (b % 2) 1 e) in omega arith
    ]

-- a number of n bits that is not 0 has a bit
pub some_bit : (n w : ℕ) → w < 2 ^ n → w ≢ 0 → (j : ℕ) × (j < n) × (bit w j ≡ true)
some_bit zero w h z = absurd (z (omega arith))
some_bit (suc n) w h z = elim (cases_eq (w % 2) 1) [
  | inl e ↦ (0, omega arith, bit_first w ∙ eq-eqb (w % 2) 1 e)
  | inr e ↦
      let (j, k, b) = some_bit n (w / 2) (omega (arith, pow-suc 2 n)) (λ y. z (omega arith)) in
      (suc j, omega arith, bit_next w j ∙ b)
]
