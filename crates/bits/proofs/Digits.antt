-- Digits in base 4: one by one, and when one is taken away or put in.
-- Assumes nothing.
use Rattle.std.proofs.Common.{◌≡◌, ℕ, zero, suc, ◌+◌, ◌-◌, ◌*◌, ◌/◌, ◌%◌, ◌^◌, ◌<◌, ◌≤◌, eqb, ◌≢◌, sym, refl, ap, ◌∙◌, pow-suc, div-one, arith}
use native.Mathlib.Nat.{pow-zero, pow-succ', div-div-eq-div-mul}
use Rattle.bits.specs.Bits.{bit}
use Rattle.bits.specs.Digits.{digit}
use Rattle.bits.proofs.Words.{bit_first, bit_next}

pub digit_first : (c : ℕ) → digit c 0 ≡ c % 4
unfolding digit
digit_first c = rw (pow-zero 4, div-one c)

pub digit_next : (c i : ℕ) → digit c (suc i) ≡ digit (c / 4) i
unfolding digit
digit_next c i = rw (pow-succ' 4 i, ← div-div-eq-div-mul c 4 (4 ^ i))

pub digit_small : (c i : ℕ) → digit c i < 4
digit_small c zero = rw (digit_first c) (omega arith)
digit_small c (suc i) = rw (digit_next c i) (digit_small (c / 4) i)

pub digit_past : (n c k : ℕ) → c < 4 ^ n → n ≤ k → digit c k ≡ 0
digit_past zero c zero h p = digit_first c ∙ omega (arith, pow-zero 4)
digit_past zero c (suc k) h p = digit_next c k ∙ digit_past zero (c / 4) k (omega (arith, pow-zero 4)) (omega arith)
digit_past (suc n) c zero h p = absurd (omega arith)
digit_past (suc n) c (suc k) h p = digit_next c k ∙ digit_past n (c / 4) k (omega (arith, pow-suc 4 n)) (omega arith)

-- a power of 4 is one of 2
pub four_pow : (i : ℕ) → 4 ^ i ≡ 2 ^ (i + i)
four_pow zero = refl
four_pow (suc i) =
    let e : suc i + suc i ≡ suc (suc (i + i)) = omega arith in
    let p = four_pow i in
    let q : 2 ^ (suc i + suc i) ≡ 2 ^ suc (suc (i + i)) = ap (λ n. 2 ^ n) e in
    omega (arith, pow-suc 4 i, pow-suc 2 (suc (i + i)), pow-suc 2 (i + i))

-- a digit's worth one place up
up : (d j : ℕ) → d * 4 ^ suc j ≡ d * 4 ^ j * 4
up d j = ap (λ x. d * x) (pow-suc 4 j) ∙ grouped (4 ^ j)
  where
    grouped : (b : ℕ) → d * (b * 4) ≡ d * b * 4
    grouped b = grind arith

-- a digit's worth is within the number
pub digit_within : (c i : ℕ) → digit c i * 4 ^ i ≤ c
digit_within c zero = rw (digit_first c, pow-zero 4) (omega arith)
digit_within c (suc i) =
    let k = digit_within (c / 4) i in
    rw (digit_next c i, up (digit (c / 4) i) i) (omega arith)

-- a digit put where 0 stands
module _ (d : ℕ) (small : d < 4) where
  at_zero : d * 4 ^ 0 ≡ d
  at_zero = rw (pow-zero 4) (omega arith)

  pub put_same : (c j : ℕ) → digit c j ≡ 0 → digit (c + d * 4 ^ j) j ≡ d
  put_same c zero z = digit_first (c + d * 4 ^ 0) ∙ (let e = at_zero in let f = digit_first c in omega arith)
  put_same c (suc j) z =
      let e : (c + d * 4 ^ suc j) / 4 ≡ c / 4 + d * 4 ^ j = let m = up d j in omega arith in
      digit_next (c + d * 4 ^ suc j) j ∙ ap (λ x. digit x j) e ∙ put_same (c / 4) j (sym (digit_next c j) ∙ z)

  pub put_other : (c j k : ℕ) → digit c j ≡ 0 → k ≢ j → digit (c + d * 4 ^ j) k ≡ digit c k
  put_other c zero zero z n = absurd (n refl)
  put_other c zero (suc k) z n =
      let e : (c + d * 4 ^ 0) / 4 ≡ c / 4 = let a = at_zero in let f = digit_first c in omega arith in
      digit_next (c + d * 4 ^ 0) k ∙ ap (λ x. digit x k) e ∙ sym (digit_next c k)
  put_other c (suc j) zero z n =
      digit_first (c + d * 4 ^ suc j) ∙ (let m = up d j in omega arith) ∙ sym (digit_first c)
  put_other c (suc j) (suc k) z n =
      let e : (c + d * 4 ^ suc j) / 4 ≡ c / 4 + d * 4 ^ j = let m = up d j in omega arith in
      digit_next (c + d * 4 ^ suc j) k ∙ ap (λ x. digit x k) e ∙ put_other (c / 4) j k (sym (digit_next c j) ∙ z) (λ q. n (ap suc q)) ∙ sym (digit_next c k)

  pub put_below : (n c j : ℕ) → c < 4 ^ n → j < n → digit c j ≡ 0 → c + d * 4 ^ j < 4 ^ n
  put_below zero c j h p z = absurd (omega arith)
  put_below (suc n) c zero h p z = let a = at_zero in let f = digit_first c in omega (arith, pow-suc 4 n)
  put_below (suc n) c (suc j) h p z =
      let m = up d j in
      let k = put_below n (c / 4) j (omega (arith, pow-suc 4 n)) (omega arith) (sym (digit_next c j) ∙ z) in
      omega (arith, pow-suc 4 n)

-- a digit taken away leaves 0
pub take_same : (c i : ℕ) → digit (c - digit c i * 4 ^ i) i ≡ 0
take_same c zero =
    let e : c - digit c 0 * 4 ^ 0 ≡ c - c % 4 = rw (digit_first c, pow-zero 4) (omega arith) in
    ap (λ x. digit x 0) e ∙ digit_first (c - c % 4) ∙ omega arith
take_same c (suc i) =
    let k = digit_within (c / 4) i in
    let e : (c - digit c (suc i) * 4 ^ suc i) / 4 ≡ c / 4 - digit (c / 4) i * 4 ^ i =
    rw (digit_next c i, up (digit (c / 4) i) i) (omega arith) in
    digit_next (c - digit c (suc i) * 4 ^ suc i) i ∙ ap (λ x. digit x i) e ∙ take_same (c / 4) i

pub take_other : (c i k : ℕ) → k ≢ i → digit (c - digit c i * 4 ^ i) k ≡ digit c k
take_other c i k n =
    let w = digit_within c i in
    let whole : c ≡ (c - digit c i * 4 ^ i) + digit c i * 4 ^ i = omega arith in
    sym (ap (λ x. digit x k) whole ∙ put_other (digit c i) (digit_small c i) (c - digit c i * 4 ^ i) i k (take_same c i) n)

-- a digit by its two bits
pub digit_low : (c i : ℕ) → bit c (i + i) ≡ eqb (digit c i % 2) 1
digit_low c zero = bit_first c ∙ rw (digit_first c) (ap (λ x. eqb x 1) (omega arith))
digit_low c (suc i) =
    let e : suc i + suc i ≡ suc (suc (i + i)) = omega arith in
    let h : c / 2 / 2 ≡ c / 4 = omega arith in
    ap (bit c) e ∙ bit_next c (suc (i + i)) ∙ bit_next (c / 2) (i + i) ∙ ap (λ x. bit x (i + i)) h ∙ digit_low (c / 4) i ∙ ap (λ x. eqb (x % 2) 1) (sym (digit_next c i))

pub digit_high : (c i : ℕ) → bit c (suc (i + i)) ≡ eqb (digit c i / 2) 1
digit_high c zero = bit_next c 0 ∙ bit_first (c / 2) ∙ rw (digit_first c) (ap (λ x. eqb x 1) (omega arith))
digit_high c (suc i) =
    let e : suc (suc i + suc i) ≡ suc (suc (suc (i + i))) = omega arith in
    let h : c / 2 / 2 ≡ c / 4 = omega arith in
    ap (bit c) e ∙ bit_next c (suc (suc (i + i))) ∙ bit_next (c / 2) (suc (i + i)) ∙ ap (λ x. bit x (suc (i + i))) h ∙ digit_high (c / 4) i ∙ ap (λ x. eqb (x / 2) 1) (sym (digit_next c i))
