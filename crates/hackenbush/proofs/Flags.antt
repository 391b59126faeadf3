-- Taking one set bit out of a number.
use Rattle.std.proofs.Common.{◌≡◌, ℕ, ◌+◌, ◌^◌, ◌<◌, Bool, true, false, cond, not, ◌&&◌, ◌||◌, eqb, ◌≢◌, sym, refl, ◌∙◌, subst, inl, inr, arith}
use lib.Count.{count_trailing_zeros}
use lib.Bits.{bit_and, bit_or, bit_xor}
use Rattle.std.specs.List.{AllByRecursion}
use Rattle.std.proofs.lemmas.Nat.{or_lt, xor_lt, and_le_r, or_disjoint, pow_below, pow_pos}
use Rattle.std.proofs.lemmas.Bool.{cases_lt, both_ways, cases_eq, eq-eqb, ne_eqb}
use Rattle.bits.specs.Bits.{bit}
use Rattle.bits.proofs.Words.{bit_and_lem, bit_or_lem, bit_xor_lem, bit_one, bit_none, bit_past, bits_same}
use Rattle.bits.proofs.Places.{all_places}
use Rattle.bits.proofs.Counts.{places_lowest}

and_true : (b : Bool) → (b && true) ≡ b
and_true true = refl
and_true false = refl

flipped : (b : Bool) → cond b true false ≡ (b && true)
flipped true = refl
flipped false = refl

module _ (w k : ℕ) (set : bit w k ≡ true) where
  pub bit_cleared : (j : ℕ) → bit (bit_xor w (2 ^ k)) j ≡ (bit w j && not (eqb j k))
  bit_cleared j = bit_xor_lem w (2 ^ k) j ∙ rw (bit_one k j) (elim (cases_eq j k) [ inl e ↦ rw (e, eq-eqb k k refl, set) | inr n ↦ rw (ne_eqb j k n) (flipped (bit w j)) ])

  pub clear_here : bit (bit_xor w (2 ^ k)) k ≡ false
  clear_here = bit_cleared k ∙ rw (set, eq-eqb k k refl)

  pub clear_other : (j : ℕ) → j ≢ k → bit (bit_xor w (2 ^ k)) j ≡ bit w j
  clear_other j n = bit_cleared j ∙ rw (ne_eqb j k n) (and_true (bit w j))

  pub clear_less : w < 2 ^ 64 → k < 64 → bit_xor w (2 ^ k) < w
  clear_less small low = omega (arith, pow_pos k, sum)
    where
      flag : 2 ^ k < 2 ^ 64
      flag = pow_below k 64 low

      rest : bit_xor w (2 ^ k) < 2 ^ 64
      rest = xor_lt 64 w (2 ^ k) small flag

      meet : (j : ℕ) → bit (bit_and (bit_xor w (2 ^ k)) (2 ^ k)) j ≡ bit 0 j
      meet j = bit_and_lem (bit_xor w (2 ^ k)) (2 ^ k) j ∙ rw (bit_none j, bit_one k j) (elim (cases_eq j k) [ inl e ↦ rw (e, clear_here) | inr n ↦ rw (ne_eqb j k n) (and_false _) ])
        where
          and_false : (b : Bool) → (b && false) ≡ false
          and_false true = refl
          and_false false = refl

      join : (j : ℕ) → bit (bit_or (bit_xor w (2 ^ k)) (2 ^ k)) j ≡ bit w j
      join j = bit_or_lem (bit_xor w (2 ^ k)) (2 ^ k) j ∙ rw (bit_one k j) (elim (cases_eq j k) [ inl e ↦ rw (e, clear_here, eq-eqb k k refl, set) | inr n ↦ rw (ne_eqb j k n, clear_other j n) (or_false _) ])
        where
          or_false : (b : Bool) → (b || false) ≡ b
          or_false true = refl
          or_false false = refl

      sum : bit_xor w (2 ^ k) + 2 ^ k ≡ w
      sum =
          let apart : bit_and (bit_xor w (2 ^ k)) (2 ^ k) ≡ 0 = bits_same 64 _ 0 (omega (arith, and_le_r (bit_xor w (2 ^ k)) (2 ^ k), flag)) (omega arith) (λ j h. meet j) in
          sym (or_disjoint (bit_xor w (2 ^ k)) (2 ^ k) apart) ∙ bits_same 64 _ w (or_lt 64 _ _ rest flag) small (λ j h. join j)

-- the lowest set bit
pub lowest : (w : ℕ) → w < 2 ^ 64 → w ≢ 0 → (count_trailing_zeros 64 w < 64) × (bit w (count_trailing_zeros 64 w) ≡ true)
lowest w small some = (subst (λ xs. AllByRecursion (λ i. (i < 64) × (bit w i ≡ true)) xs) (places_lowest 64 w small some) (all_places 64 (bit w))).0

-- a set bit lies within the number
pub bit_within : (w k j : ℕ) → w < 2 ^ k → bit w j ≡ true → j < k
bit_within w k j small set = elim (cases_lt j k) [ inl h ↦ h | inr h ↦ absurd (both_ways (bit w j) (bit_past w k j small h) set) ]
