-- Domineering is a lawful ruleset.
-- Assumes nothing.
use Rattle.std.specs.Prelude.{◌≡◌, ℕ, suc, ◌+◌, ◌*◌, ◌/◌, ◌^◌, ◌<◌, ◌≤◌, Bool, true, false, not, ◌&&◌, ◌||◌, ◌≢◌, [], map, length, nat_lt, refl}
use Rattle.std.proofs.Common.{sym, ◌∙◌, ap, arith, pow_mono}
use Rattle.std.specs.Int.Bits.{bit_or}
use Rattle.std.specs.List.{AllByRecursion}
use Rattle.std.proofs.lemmas.Nat.{or_lt, pow_below, pow_pos}
use Rattle.std.proofs.ByRecursion.{All-map, All-weaker}
use Rattle.std.proofs.lemmas.List.{length-map}
use Rattle.std.proofs.lemmas.Bool.{and_right, cond_both, cond-true, cond-false, eq-eqb, ne_eqb, lt-ltb, ltb-true}
use Rattle.bits.specs.Bits.{bit, places}
use Rattle.bits.proofs.Places.{all_places, length_places, length_places_less}
use Rattle.bits.proofs.Words.{bit_or_lem, bit_one}
use Rattle.games.specs.declared.side.Side.{Side}
use Rattle.games.specs.declared.side.Side.TheVariants.{Left, Right}
use Rattle.rulesets.specs.Rules.{Lawful}
use Rattle.domineering.specs.Domineering.{sized, free, fits, reach, covered, domineering}
use Rattle.domineering.specs.Size.{cells_high, columns_low}
use Rattle.domineering.specs.Moves.{fits_first, fits_second, free_on}

-- ---- filling one cell

-- the cell is no longer empty, and the others are as they were
fill_here : (cells n i : ℕ) → free cells (bit_or n (2 ^ i)) i ≡ false
fill_here cells n i = and_right (nat_lt i cells) (not (bit (bit_or n (2 ^ i)) i)) (ap not (bit_or_lem n (2 ^ i) i ∙ ap (λ x. bit n i || x) (bit_one i i ∙ eq-eqb i i refl)) ∙ table (bit n i))
  where
    table : (x : Bool) → not (x || true) ≡ false
    table true = refl
    table false = refl

fill_other : (cells n i j : ℕ) → j ≢ i → free cells n j ≡ free cells (bit_or n (2 ^ i)) j
fill_other cells n i j z = ap (λ x. nat_lt j cells && not x) (sym (bit_or_lem n (2 ^ i) j ∙ ap (λ x. bit n j || x) (bit_one i j ∙ ne_eqb j i z) ∙ table (bit n j)))
  where
    table : (x : Bool) → (x || false) ≡ x
    table true = refl
    table false = refl

-- so there is one empty cell less
fill_less : (cells n i : ℕ) → free cells n i ≡ true → length (places cells (free cells n)) ≡ suc (length (places cells (free cells (bit_or n (2 ^ i)))))
fill_less cells n i h =
    length_places_less cells (free cells n) (free cells (bit_or n (2 ^ i))) i (free_on cells n i h) h (fill_here cells n i) (λ j l z. fill_other cells n i j z)

-- ---- a move

reach_low : (s : Side) (c : ℕ) → 1 ≤ c → 1 ≤ reach s c
reach_low Left c h = h
reach_low Right c h = omega arith

module _ (s : Side) (r c n i : ℕ) (size : sized r c ≡ true) (legal : n < 2 ^ (r * c)) (fit : fits s r c n i ≡ true) where
  legal_after : covered s c n i < 2 ^ (r * c)
  legal_after =
      or_lt (r * c) (bit_or n (2 ^ i)) (2 ^ (i + reach s c)) (or_lt (r * c) n (2 ^ i) legal (pow_below i (r * c) (free_on (r * c) n i (fits_first s r c n i fit))))
      (pow_below (i + reach s c) (r * c) (free_on (r * c) n (i + reach s c) (fits_second s r c n i fit)))

  two_less : length (places (r * c) (free (r * c) n)) ≡ suc (suc (length (places (r * c) (free (r * c) (covered s c n i)))))
  two_less =
      let apart : i + reach s c ≢ i = λ e. omega (arith, reach_low s c (columns_low r c size)) in
      fill_less (r * c) n i (fits_first s r c n i fit)
      ∙ ap suc (fill_less (r * c) (bit_or n (2 ^ i)) (i + reach s c) (sym (fill_other (r * c) n i (i + reach s c) apart) ∙ fits_second s r c n i fit))

  legal_move : (domineering r c).legal (covered s c n i) ≡ true
  legal_move = lt-ltb (covered s c n i) (2 ^ (r * c)) legal_after

  rank_falls : (domineering r c).rank (covered s c n i) < (domineering r c).rank n
  rank_falls =
      let before = cond-true (nat_lt n (2 ^ (r * c))) (length (places (r * c) (free (r * c) n)) / 2) 0 (lt-ltb n (2 ^ (r * c)) legal) in
      let after = cond-true (nat_lt (covered s c n i) (2 ^ (r * c))) (length (places (r * c) (free (r * c) (covered s c n i))) / 2) 0 legal_move in
      omega (arith, before, after, two_less)

-- ---- the laws

module _ (r c : ℕ) (size : sized r c ≡ true) where
  few : r * c ≤ 30
  few = cells_high r c size

  narrow : (s : Side) (n : ℕ) → length ((domineering r c).moves s n) ≤ 30
  narrow s n =
      let xs = places (r * c) (fits s r c n) in
      cond_both (nat_lt n (2 ^ (r * c))) (map (covered s c n) xs) [] (λ ys. length ys ≤ 30)
      (λ h. omega (arith, few, length-map xs (covered s c n), length_places (r * c) (fits s r c n)))
      (λ h. omega arith)

  shallow : (n : ℕ) → (domineering r c).rank n ≤ 15
  shallow n =
      cond_both (nat_lt n (2 ^ (r * c))) (length (places (r * c) (free (r * c) n)) / 2) 0 (λ k. k ≤ 15)
      (λ h. omega (arith, few, length_places (r * c) (free (r * c) n)))
      (λ h. omega arith)

  falls : (s : Side) (n : ℕ) → AllByRecursion (λ m. ((domineering r c).legal m ≡ true) × ((domineering r c).rank m < (domineering r c).rank n)) ((domineering r c).moves s n)
  falls s n =
      cond_both (nat_lt n (2 ^ (r * c))) (map (covered s c n) (places (r * c) (fits s r c n))) [] (λ ys. AllByRecursion (λ m. ((domineering r c).legal m ≡ true) × ((domineering r c).rank m < (domineering r c).rank n)) ys)
      (λ h. All-map _ (covered s c n) (places (r * c) (fits s r c n)) (All-weaker (λ i. (i < r * c) × (fits s r c n i ≡ true)) _ (λ i k. (
        legal_move s r c n i size (ltb-true n (2 ^ (r * c)) h) k.1,
        rank_falls s r c n i size (ltb-true n (2 ^ (r * c)) h) k.1,
      )) (places (r * c) (fits s r c n)) (all_places (r * c) (fits s r c n))))
      (λ h. tt)

  pub domineering_lawful : Lawful (domineering r c)
  domineering_lawful = record {
    limit_low = omega (arith, pow_pos (r * c));
    limit_high = let h : r * c ≤ 60 = omega (arith, few) in pow_mono h;
    width_high = omega arith;
    depth_high = omega arith;
    below = λ n h. ltb-true n (2 ^ (r * c)) h;
    narrow = narrow;
    shallow = shallow;
    falls = falls;
    no_moves = λ s n h. cond-false (nat_lt n (2 ^ (r * c))) (map (covered s c n) (places (r * c) (fits s r c n))) [] h;
    no_rank = λ n h. cond-false (nat_lt n (2 ^ (r * c))) (length (places (r * c) (free (r * c) n)) / 2) 0 h;
  }
