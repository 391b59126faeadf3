-- The answers of the ruleset, from words of 64 bits to the edges that there are.
use Rattle.std.proofs.Common.{◌≡◌, ℕ, ◌^◌, ◌<◌, ◌≤◌, true, false, cond, ◌&&◌, eqb, ltb, List, length, Some, None, Option, sym, refl, ap, ◌∙◌, inl, inr, arith}
use lib.Bits.{bit_and}
use Rattle.std.specs.List.{slice_get}
use Rattle.std.specs.Option.{option_map}
use Rattle.std.proofs.lemmas.List.{length-map}
use Rattle.std.proofs.lemmas.Option.{slice_get-map, slice_get_past}
use Rattle.std.proofs.lemmas.Bool.{cases_Bool, and_parts, and_right, cond-true, eqb-true, lt-ltb}
use Rattle.games.specs.declared.side.Side.{Side}
use Rattle.bits.specs.Bits.{bit, places}
use Rattle.bits.proofs.Words.{bit_and_lem, bit_past}
use Rattle.bits.proofs.Places.{all_places, nth_all, places_cong, places_more}
use Rattle.hackenbush.specs.declared.edge.Edge.{Edge}
use Rattle.hackenbush.specs.Hackenbush.{painted, fall, legal, cut, hackenbush}
use Rattle.hackenbush.specs.Codes.{fall_below}
use Rattle.hackenbush.specs.Standing.{legal_found}

-- a code of which nothing falls is below the limit
pub legal_test : (es : List Edge) (n : ℕ) → eqb (fall es (bit n)) n ≡ legal es n
unfolding legal
legal_test es n = elim (cases_Bool (eqb (fall es (bit n)) n)) [
  | inl e ↦ let small : n < 2 ^ length es = omega (arith, eqb-true (fall es (bit n)) n e, fall_below es (bit n)) in rw (e, lt-ltb n (2 ^ length es) small)
  | inr e ↦ rw e (sym (and_right (ltb n (2 ^ length es)) false refl))
]

-- a bit that was found is set
pub nth_set : (n mask i k : ℕ) → Some k ≡ slice_get (places 64 (bit (bit_and n mask))) i → bit n k ≡ true
nth_set n mask i k e = (and_parts (bit n k) (bit mask k) (sym (bit_and_lem n mask k) ∙ (nth_all _ _ i k (all_places 64 (bit (bit_and n mask))) (sym e)).1)).0

module _ (es : List Edge) (few : length es ≤ 64) (n : ℕ) where
  pub rank_is : legal es n ≡ true → length (places 64 (bit n)) ≡ (hackenbush es).rank n
  rank_is l = rw l (ap length (places_more (length es) 64 (bit n) few (λ j h _. bit_past n (length es) j (legal_found es n l).0 h)))

  module _ (s : Side) (mask : ℕ) (is : (i : ℕ) → bit mask i ≡ painted s es i) where
    cuttable : places 64 (bit (bit_and n mask)) ≡ places (length es) (λ i. bit n i && painted s es i)
    unfolding painted
    cuttable =
        places_cong 64 (bit (bit_and n mask)) (λ i. bit n i && painted s es i) (λ j _. bit_and_lem n mask j ∙ ap (λ b. bit n j && b) (is j))
        ∙ places_more (length es) 64 (λ i. bit n i && painted s es i) few (λ j h _. rw (slice_get_past es j h) (and_right (bit n j) false refl))

    pub count_moves : legal es n ≡ true → length (places 64 (bit (bit_and n mask))) ≡ length ((hackenbush es).moves s n)
    count_moves l = rw (l, length-map (places (length es) (λ i. bit n i && painted s es i)) (cut es n)) (ap length cuttable)

    nth_moves : legal es n ≡ true → (i : ℕ) → slice_get ((hackenbush es).moves s n) i ≡ option_map (cut es n) (slice_get (places 64 (bit (bit_and n mask))) i)
    nth_moves l i = rw (l, cuttable) (slice_get-map (cut es n) (places (length es) (λ j. bit n j && painted s es j)) i)

    pub successor_found : (i k : ℕ) (r : Option ℕ) → Some k ≡ slice_get (places 64 (bit (bit_and n mask))) i → r ≡ cond (legal es n) (Some (cut es n k)) None → r ≡ slice_get ((hackenbush es).moves s n) i
    successor_found i k r e c = c ∙ elim (cases_Bool (legal es n)) [
      | inl l ↦ cond-true (legal es n) (Some (cut es n k)) None l ∙ sym (nth_moves l i ∙ ap (option_map (cut es n)) (sym e))
      | inr l ↦ rw l
    ]

    pub successor_none : (i : ℕ) → None ≡ slice_get (places 64 (bit (bit_and n mask))) i → None ≡ slice_get ((hackenbush es).moves s n) i
    successor_none i e = elim (cases_Bool (legal es n)) [ inl l ↦ sym (nth_moves l i ∙ ap (option_map (cut es n)) (sym e)) | inr l ↦ rw l ]
