-- Words that mark cells: what the operations on them mark, and the places of their bits.
-- Assumes nothing.
use Rattle.std.proofs.Common.{◌≡◌, ℕ, zero, suc, ◌+◌, ◌-◌, ◌*◌, ◌/◌, ◌%◌, ◌^◌, Bool, true, false, cond, not, ◌&&◌, ◌||◌, eqb, ltb, List, [], ◌∷◌, map, sym, refl, ap, ◌∙◌, ap₂, inl, inr, arith}
use lib.Bits.{bit_and, bit_or, bit_xor}
use Rattle.std.proofs.lemmas.Bool.{cases_lt, lt-ltb, le-ltb}
use Rattle.bits.specs.Bits.{bit, places}
use Rattle.bits.proofs.Words.{bit_first, bit_next, bit_and_lem, bit_or_lem, bit_xor_lem, bit_shr, bit_shl, bit_none}
use Rattle.bits.proofs.Places.{places_none, places_next, places_cong}
use Rattle.toads.specs.Marks.{Marks}

-- both, either, and one without the other, at even places
both_even : (e a b : Bool) → ((e && a) && (e && b)) ≡ (e && (a && b))
both_even true a b = refl
both_even false a b = refl

either_even : (e a b : Bool) → ((e && a) || (e && b)) ≡ (e && (a || b))
either_even true a b = refl
either_even false a b = refl

differ_even : (e a b : Bool) → cond (e && a) (not (e && b)) (e && b) ≡ (e && cond a (not b) b)
differ_even true a b = refl
differ_even false a b = refl

module _ (v w : ℕ) (p q : ℕ → Bool) (mv : Marks v p) (mw : Marks w q) where
  pub marks_and : Marks (bit_and v w) (λ i. p i && q i)
  marks_and k = bit_and_lem v w k ∙ ap₂ ◌&&◌ (mv k) (mw k) ∙ both_even (eqb (k % 2) 0) (p (k / 2)) (q (k / 2))

  pub marks_or : Marks (bit_or v w) (λ i. p i || q i)
  marks_or k = bit_or_lem v w k ∙ ap₂ ◌||◌ (mv k) (mw k) ∙ either_even (eqb (k % 2) 0) (p (k / 2)) (q (k / 2))

  pub marks_xor : Marks (bit_xor v w) (λ i. cond (p i) (not (q i)) (q i))
  marks_xor k = bit_xor_lem v w k ∙ ap₂ (λ a b. cond a (not b) b) (mv k) (mw k) ∙ differ_even (eqb (k % 2) 0) (p (k / 2)) (q (k / 2))

-- only what the test says of each cell matters
pub marks_same : (w : ℕ) (p q : ℕ → Bool) → ((i : ℕ) → p i ≡ q i) → Marks w p → Marks w q
marks_same w p q e m k = m k ∙ ap (λ b. eqb (k % 2) 0 && b) (e (k / 2))

-- m cells down, and m cells up
module _ (w : ℕ) (p : ℕ → Bool) (mw : Marks w p) (m : ℕ) where
  pub marks_down : Marks (w / 2 ^ (m + m)) (λ i. p (i + m))
  marks_down k =
      let parity : (k + (m + m)) % 2 ≡ k % 2 = omega arith in
      let half : (k + (m + m)) / 2 ≡ k / 2 + m = omega arith in
      bit_shr w (m + m) k ∙ mw (k + (m + m)) ∙ ap₂ (λ a b. eqb a 0 && p b) parity half

  pub marks_up : Marks (w * 2 ^ (m + m)) (λ i. cond (ltb i m) false (p (i - m)))
  marks_up k = bit_shl w (m + m) k ∙ elim (cases_lt k (m + m)) [
    | inl h ↦ rw (lt-ltb k (m + m) h, lt-ltb (k / 2) m (omega arith)) (sym (and_false (eqb (k % 2) 0)))
    | inr h ↦
        let parity : (k - (m + m)) % 2 ≡ k % 2 = omega arith in
        let half : (k - (m + m)) / 2 ≡ k / 2 - m = omega arith in
        rw (le-ltb k (m + m) h, le-ltb (k / 2) m (omega arith)) (mw (k - (m + m)) ∙ ap₂ (λ a b. eqb a 0 && p b) parity half)
  ]
    where
      and_false : (b : Bool) → (b && false) ≡ false
      and_false true = refl
      and_false false = refl

-- a word with one bit for each of n cells
abbrev pub evens : ℕ → ℕ
evens zero = 0
evens (suc n) = evens n * 4 + 1

pub marks_evens : (n : ℕ) → Marks (evens n) (λ i. ltb i n)
marks_evens zero k = bit_none k ∙ sym (none (eqb (k % 2) 0))
  where
    none : (b : Bool) → (b && ltb (k / 2) 0) ≡ false
    none b = rw (le-ltb (k / 2) 0 (omega arith)) (both b)
      where
        both : (b : Bool) → (b && false) ≡ false
        both true = refl
        both false = refl
marks_evens (suc n) zero =
    let odd : (evens n * 4 + 1) % 2 ≡ 1 = omega arith in
    bit_first (evens n * 4 + 1) ∙ ap (λ x. eqb x 1) odd ∙ sym (lt-ltb 0 (suc n) (omega arith))
marks_evens (suc n) (suc zero) =
    let none : (evens n * 4 + 1) / 2 % 2 ≡ 0 = omega arith in
    bit_next (evens n * 4 + 1) 0 ∙ bit_first ((evens n * 4 + 1) / 2) ∙ ap (λ x. eqb x 1) none
marks_evens (suc n) (suc (suc k)) =
    let q : (evens n * 4 + 1) / 2 / 2 ≡ evens n = omega arith in
    let parity : suc (suc k) % 2 ≡ k % 2 = omega arith in
    let half : suc (suc k) / 2 ≡ suc (k / 2) = omega arith in
    bit_next (evens n * 4 + 1) (suc k) ∙ bit_next ((evens n * 4 + 1) / 2) k ∙ ap (λ x. bit x k) q ∙ marks_evens n k
    ∙ sym (ap₂ (λ a b. eqb a 0 && ltb b (suc n)) parity half ∙ ap (λ b. eqb (k % 2) 0 && b) (one_more (k / 2)))
  where
    one_more : (i : ℕ) → ltb (suc i) (suc n) ≡ ltb i n
    one_more i = elim (cases_lt i n) [ inl h ↦ lt-ltb (suc i) (suc n) (omega arith) ∙ sym (lt-ltb i n h) | inr h ↦ le-ltb (suc i) (suc n) (omega arith) ∙ sym (le-ltb i n h) ]

-- the places of the bits are twice the cells
abbrev twice : ℕ → ℕ
twice i = i + i

map_suc_twice : (xs : List ℕ) → map suc (map suc (map twice xs)) ≡ map twice (map suc xs)
map_suc_twice [] = refl
map_suc_twice (x ∷ xs) = ap₂ ◌∷◌ (omega arith) (map_suc_twice xs)

later : (p : ℕ → Bool) (k : ℕ) → (eqb (suc (suc k) % 2) 0 && p (suc (suc k) / 2)) ≡ (eqb (k % 2) 0 && p (suc (k / 2)))
later p k =
    let parity : suc (suc k) % 2 ≡ k % 2 = omega arith in
    let half : suc (suc k) / 2 ≡ suc (k / 2) = omega arith in
    ap₂ (λ a b. eqb a 0 && p b) parity half

even_places : (n : ℕ) (p : ℕ → Bool) → places (n + n) (λ k. eqb (k % 2) 0 && p (k / 2)) ≡ map twice (places n p)
even_places zero p = places_none _ ∙ sym (ap (map twice) (places_none p))
even_places (suc n) p =
    let two : suc n + suc n ≡ suc (suc (n + n)) = omega arith in
    let rest = places n (λ j. p (suc j)) in
    let inner : places (suc (n + n)) (λ k. eqb (suc k % 2) 0 && p (suc k / 2)) ≡ map suc (map twice rest) =
    places_next (n + n) _ ∙ ap (map suc) (places_cong (n + n) _ _ (λ k _. later p k) ∙ even_places n (λ j. p (suc j))) in
    ap (λ m. places m (λ k. eqb (k % 2) 0 && p (k / 2))) two
    ∙ places_next (suc (n + n)) _
    ∙ ap (λ (xs : List ℕ). cond (p 0) (0 ∷ map suc xs) (map suc xs)) inner
    ∙ split rest (p 0)
    ∙ sym (ap (map twice) (places_next n p))
  where
    split : (rest : List ℕ) (b : Bool) → cond b (0 ∷ map suc (map suc (map twice rest))) (map suc (map suc (map twice rest))) ≡ map twice (cond b (0 ∷ map suc rest) (map suc rest))
    split rest true = ap (λ xs. 0 ∷ xs) (map_suc_twice rest)
    split rest false = map_suc_twice rest

pub marked_places : (n w : ℕ) (p : ℕ → Bool) → Marks w p → places (n + n) (bit w) ≡ map (λ i. i + i) (places n p)
marked_places n w p m = places_cong (n + n) (bit w) (λ k. eqb (k % 2) 0 && p (k / 2)) (λ k _. m k) ∙ even_places n p
