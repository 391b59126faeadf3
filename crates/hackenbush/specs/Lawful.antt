-- The laws of a ruleset hold of every picture.
use Rattle.std.specs.Prelude.{◌≡◌, ℕ, zero, suc, ◌<◌, ◌≤◌, Bool, true, false, cond, ◌&&◌, List, [], map, length, refl}
use Rattle.std.proofs.Common.{sym, ◌∙◌, arith}
use Rattle.std.proofs.Math.Logic.{inl, inr}
use Rattle.std.specs.List.{AllByRecursion}
use Rattle.std.proofs.lemmas.Nat.{pow_pos, pow_below}
use Rattle.std.proofs.ByRecursion.{All-map, All-weaker}
use Rattle.std.proofs.lemmas.List.{length-map}
use Rattle.std.proofs.lemmas.Bool.{cases_Bool, and_parts, eq-eqb, ne_eqb}
use Rattle.games.specs.declared.side.Side.{Side}
use Rattle.rulesets.specs.Rules.{Lawful}
use Rattle.bits.specs.Bits.{bit, places}
use Rattle.bits.proofs.Places.{all_places, length_places, length_places_first, length_places_later, length_places_less}
use Rattle.hackenbush.specs.declared.edge.Edge.{Edge}
use Rattle.hackenbush.specs.Hackenbush.{fits, painted, legal, without, cut, hackenbush}
use Rattle.hackenbush.specs.Codes.{bit_fall}
use Rattle.hackenbush.specs.Reading.{fits_length}
use Rattle.hackenbush.specs.Standing.{legal_found, fall_legal}

-- fewer pass the narrower test
fewer : (n : ℕ) (p q : ℕ → Bool) → ((j : ℕ) → p j ≡ true → q j ≡ true) → length (places n p) ≤ length (places n q)
fewer zero p q f = omega (arith, length_places 0 p)
fewer (suc n) p q f =
    let rest = fewer n (λ j. p (suc j)) (λ j. q (suc j)) (λ j. f (suc j)) in
    elim (cases_Bool (p 0)) [
      | inl a ↦ omega (arith, rest, length_places_first n p a, length_places_first n q (f 0 a))
      | inr a ↦ elim (cases_Bool (q 0)) [
        | inl b ↦ omega (arith, rest, length_places_later n p a, length_places_first n q b)
        | inr b ↦ omega (arith, rest, length_places_later n p a, length_places_later n q b)
      ]
    ]

and_true : (b : Bool) → b ≡ (b && true)
and_true true = refl
and_true false = refl

-- a cut leaves fewer edges standing
cut_fewer : (es : List Edge) (n i : ℕ) → i < length es → bit n i ≡ true → length (places (length es) (bit (cut es n i))) < length (places (length es) (bit n))
cut_fewer es n i low set =
    omega (
      arith,
      fewer (length es) (bit (cut es n i)) (without n i) (λ j b. (and_parts (without n i j) _ (sym (bit_fall es (without n i) j) ∙ b)).0),
      length_places_less (length es) (bit n) (without n i) i low set (rw (set, eq-eqb i i refl)) (λ j _ ne. rw (ne_eqb j i ne) (and_true (bit n j))),
    )

module _ (es : List Edge) (size : fits es ≡ true) where
  small : length es ≤ 24
  small = (fits_length es size).1

  narrow : (s : Side) (n : ℕ) → length ((hackenbush es).moves s n) ≤ 24
  narrow s n = elim (legal es n) as (λ b. length (cond b (map (cut es n) (places (length es) (λ i. bit n i && painted s es i))) []) ≤ 24) [
    | true ↦ omega (arith, small, length-map (places (length es) (λ i. bit n i && painted s es i)) (cut es n), length_places (length es) (λ i. bit n i && painted s es i))
    | false ↦ omega arith
  ]

  shallow : (n : ℕ) → (hackenbush es).rank n ≤ 24
  shallow n = elim (legal es n) as (λ b. cond b (length (places (length es) (bit n))) 0 ≤ 24) [
    | true ↦ omega (arith, small, length_places (length es) (bit n))
    | false ↦ omega arith
  ]

  -- what a successor has to be
  Lower : ℕ → ℕ → Type 0
  Lower n m = (legal es m ≡ true) × (cond (legal es m) (length (places (length es) (bit m))) 0 < length (places (length es) (bit n)))

  cut_lower : (s : Side) (n i : ℕ) → (i < length es) × ((bit n i && painted s es i) ≡ true) → Lower n (cut es n i)
  unfolding Lower
  cut_lower s n i h = (fall_legal es (without n i), rw (fall_legal es (without n i)) (cut_fewer es n i h.0 (and_parts (bit n i) _ h.1).0))

  falls : (s : Side) (n : ℕ) → AllByRecursion (λ m. (legal es m ≡ true) × ((hackenbush es).rank m < (hackenbush es).rank n)) ((hackenbush es).moves s n)
  unfolding Lower
  falls s n =
      let can : ℕ → Bool = λ i. bit n i && painted s es i in
      elim (cases_Bool (legal es n)) [
        | inl l ↦ rw l (All-map (Lower n) (cut es n) (places (length es) can) (All-weaker (λ i. (i < length es) × (can i ≡ true)) _ (cut_lower s n) _ (all_places (length es) can)))
        | inr l ↦ rw l tt
      ]

  pub lawful : Lawful (hackenbush es)
  lawful = record {
    limit_low = omega (arith, pow_pos (length es));
    limit_high = omega (arith, pow_below (length es) 60 (omega (arith, small)));
    width_high = omega arith;
    depth_high = omega arith;
    below = λ n l. (legal_found es n l).0;
    narrow = narrow;
    shallow = shallow;
    falls = falls;
    no_moves = λ s n l. rw l;
    no_rank = λ n l. rw l;
  }
