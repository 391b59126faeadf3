-- The set bits of a number as a list: how many there are, and the lowest.
-- Assumes nothing.
use Rattle.std.proofs.Common.{◌≡◌, ℕ, zero, suc, ◌-◌, ◌*◌, ◌/◌, ◌%◌, ◌^◌, ◌<◌, ◌≢◌, [], ◌∷◌, map, length, Some, None, sym, ap, ◌∙◌, inl, inr, pow-suc, arith}
use lib.Bits.{bit_and, and_step, and_self}
use lib.Count.{ones, ones_step, count_trailing_zeros}
use Rattle.std.specs.List.{slice_get}
use Rattle.std.proofs.lemmas.List.{length-map}
use Rattle.std.proofs.lemmas.Bool.{cases_eq, eq-eqb, ne_eqb}
use Rattle.bits.specs.Bits.{bit, places}
use Rattle.bits.proofs.Words.{bit_first, bit_next, bit_none}
use Rattle.bits.proofs.Places.{places_none, places_first, places_later, places_cong, places_empty}

-- a number's list by its lowest bit and its half
pub places_odd : (n w : ℕ) → w % 2 ≡ 1 → places (suc n) (bit w) ≡ 0 ∷ map suc (places n (bit (w / 2)))
places_odd n w e = places_first n (bit w) (bit_first w ∙ eq-eqb (w % 2) 1 e) ∙ ap (λ xs. 0 ∷ map suc xs) (places_cong n (λ j. bit w (suc j)) (bit (w / 2)) (λ j h. bit_next w j))

pub places_even : (n w : ℕ) → w % 2 ≡ 0 → places (suc n) (bit w) ≡ map suc (places n (bit (w / 2)))
places_even n w e = places_later n (bit w) (bit_first w ∙ ne_eqb (w % 2) 1 (λ d. omega arith)) ∙ ap (λ xs. map suc xs) (places_cong n (λ j. bit w (suc j)) (bit (w / 2)) (λ j h. bit_next w j))

pub places_zero : (n : ℕ) → places n (bit 0) ≡ []
places_zero n = places_empty n (bit 0) (λ j h. bit_none j)

-- ---- how many

pub ones_places : (n w : ℕ) → w < 2 ^ n → ones w ≡ length (places n (bit w))
unfolding ones
ones_places zero w h = ap ones none ∙ sym (ap length (places_none (bit w)))
  where
    none : w ≡ 0
    none = omega arith
ones_places (suc n) w h =
    let rest : ones (w / 2) ≡ length (places n (bit (w / 2))) = ones_places n (w / 2) (omega (arith, pow-suc 2 n)) in
    elim (cases_eq (w % 2) 1) [
      | inl e ↦ omega (arith, ones_step w, rest, ap length (places_odd n w e), length-map (places n (bit (w / 2))) suc)
      | inr e ↦ omega (arith, ones_step w, rest, ap length (places_even n w (omega arith)), length-map (places n (bit (w / 2))) suc)
    ]

-- ---- the lowest, and the others

-- `w & (w - 1)` of an odd number, and of an even one that is not 0
clear_odd : (w : ℕ) → w % 2 ≡ 1 → bit_and w (w - 1) ≡ w / 2 * 2
clear_odd w e =
    let h : (w - 1) / 2 ≡ w / 2 = omega arith in
    let z : (w - 1) % 2 ≡ 0 = omega arith in
    and_step w (w - 1) ∙ rw (h, z, e, and_self (w / 2)) (omega arith)

clear_even : (w : ℕ) → w % 2 ≡ 0 → w ≢ 0 → bit_and w (w - 1) ≡ bit_and (w / 2) (w / 2 - 1) * 2
clear_even w e n =
    let h : (w - 1) / 2 ≡ w / 2 - 1 = omega arith in
    let z : (w - 1) % 2 ≡ 1 = omega arith in
    and_step w (w - 1) ∙ rw (h, z, e) (omega arith)

pub places_lowest : (n w : ℕ) → w < 2 ^ n → w ≢ 0 → places n (bit w) ≡ count_trailing_zeros n w ∷ places n (bit (bit_and w (w - 1)))
unfolding count_trailing_zeros
places_lowest zero w h z = absurd (z (omega arith))
places_lowest (suc n) w h z = elim (cases_eq (w % 2) 1) [ inl e ↦ odd e | inr e ↦ even (omega arith) (places_lowest n (w / 2) (omega (arith, pow-suc 2 n)) (λ y. z (omega arith))) ]
  where
    odd : w % 2 ≡ 1 → places (suc n) (bit w) ≡ count_trailing_zeros (suc n) w ∷ places (suc n) (bit (bit_and w (w - 1)))
    odd e =
        let half : bit_and w (w - 1) / 2 ≡ w / 2 = omega (arith, clear_odd w e) in
        let low : bit_and w (w - 1) % 2 ≡ 0 = omega (arith, clear_odd w e) in
        places_odd n w e ∙ rw (e, places_even n (bit_and w (w - 1)) low, half)

    even : w % 2 ≡ 0 → places n (bit (w / 2)) ≡ count_trailing_zeros n (w / 2) ∷ places n (bit (bit_and (w / 2) (w / 2 - 1))) → places (suc n) (bit w) ≡ count_trailing_zeros (suc n) w ∷ places (suc n) (bit (bit_and w (w - 1)))
    even e rest =
        let half : bit_and w (w - 1) / 2 ≡ bit_and (w / 2) (w / 2 - 1) = omega (arith, clear_even w e z) in
        let low : bit_and w (w - 1) % 2 ≡ 0 = omega (arith, clear_even w e z) in
        places_even n w e ∙ ap (map suc) rest ∙ rw (e, places_even n (bit_and w (w - 1)) low, half)

-- reading the list: nothing in that of 0, the lowest bit first, and then the list without it
pub nth_zero : (n i : ℕ) → slice_get (places n (bit 0)) i ≡ None
nth_zero n i = ap (λ xs. slice_get xs i) (places_zero n)

pub nth_lowest : (n w : ℕ) → w < 2 ^ n → w ≢ 0 → slice_get (places n (bit w)) 0 ≡ Some (count_trailing_zeros n w)
nth_lowest n w h z = ap (λ xs. slice_get xs 0) (places_lowest n w h z)

pub nth_cleared : (n w i : ℕ) → w < 2 ^ n → w ≢ 0 → slice_get (places n (bit w)) (suc i) ≡ slice_get (places n (bit (bit_and w (w - 1)))) i
nth_cleared n w i h z = ap (λ xs. slice_get xs (suc i)) (places_lowest n w h z)
