-- The lists of moves, read off the masks.
-- Assumes nothing.
use Rattle.std.specs.Prelude.{◌≡◌, ℕ, ◌+◌, ◌*◌, ◌/◌, ◌<◌, ◌≤◌, Bool, true, false, cond, not, ◌&&◌, [], map, length, Some, None, nat_lt}
use Rattle.std.proofs.Common.{sym, ◌∙◌, ap, arith}
use Rattle.std.specs.List.{slice_get}
use Rattle.std.specs.Option.{option_map}
use Rattle.std.proofs.lemmas.List.{length-map}
use Rattle.std.proofs.lemmas.Option.{slice_get-map}
use Rattle.std.proofs.lemmas.Bool.{and_left, and_parts, le-ltb, ltb-true}
use Rattle.bits.specs.Bits.{bit, places}
use Rattle.bits.proofs.Places.{places_cong, places_more, all_places, nth_all}
use Rattle.games.specs.declared.side.Side.{Side}
use Rattle.domineering.specs.Domineering.{sized, free, fits, lies, reach, covered, domineering}
use Rattle.domineering.specs.Size.{cells_high}

-- the list of a mask's bits is that of the test it stands for
places_mask : (cells w : ℕ) (p : ℕ → Bool) → cells ≤ 64 → ((i : ℕ) → bit w i ≡ p i) → ((i : ℕ) → cells ≤ i → p i ≡ false) → places 64 (bit w) ≡ places cells p
places_mask cells w p h f past = places_cong 64 (bit w) p (λ i l. f i) ∙ places_more cells 64 p h (λ i l m. past i l)

free_past : (cells n i : ℕ) → cells ≤ i → free cells n i ≡ false
free_past cells n i h = and_left (nat_lt i cells) (not (bit n i)) (le-ltb i cells h)

-- both cells of a domino that fits are empty cells of the board
pub fits_first : (s : Side) (r c n i : ℕ) → fits s r c n i ≡ true → free (r * c) n i ≡ true
fits_first s r c n i h = (and_parts (free (r * c) n i) (free (r * c) n (i + reach s c) && lies s c i) h).0

pub fits_second : (s : Side) (r c n i : ℕ) → fits s r c n i ≡ true → free (r * c) n (i + reach s c) ≡ true
fits_second s r c n i h = (and_parts (free (r * c) n (i + reach s c)) (lies s c i) (and_parts (free (r * c) n i) (free (r * c) n (i + reach s c) && lies s c i) h).1).0

pub free_on : (cells n i : ℕ) → free cells n i ≡ true → i < cells
free_on cells n i h = ltb-true i cells (and_parts (nat_lt i cells) (not (bit n i)) h).0

module _ (r c n : ℕ) (size : sized r c ≡ true) (legal : (domineering r c).legal n ≡ true) where
  pub rank_is : (w : ℕ) → ((i : ℕ) → bit w i ≡ free (r * c) n i) → length (places 64 (bit w)) / 2 ≡ (domineering r c).rank n
  rank_is w f =
      ap (λ xs. length xs / 2) (places_mask (r * c) w (free (r * c) n) (omega (arith, cells_high r c size)) f (free_past (r * c) n))
      ∙ sym (ap (λ b. cond b (length (places (r * c) (free (r * c) n)) / 2) 0) legal)

  module _ (s : Side) (w : ℕ) (opens : (i : ℕ) → bit w i ≡ fits s r c n i) where
    list_is : places 64 (bit w) ≡ places (r * c) (fits s r c n)
    list_is = places_mask (r * c) w (fits s r c n) (omega (arith, cells_high r c size)) opens (λ i h. and_left (free (r * c) n i) (free (r * c) n (i + reach s c) && lies s c i) (free_past (r * c) n i h))

    moves_are : (domineering r c).moves s n ≡ map (covered s c n) (places 64 (bit w))
    moves_are =
        ap (λ b. cond b (map (covered s c n) (places (r * c) (fits s r c n))) []) legal
        ∙ ap (map (covered s c n)) (sym list_is)

    pub count_is : length (places 64 (bit w)) ≡ length ((domineering r c).moves s n)
    count_is = sym (ap length moves_are ∙ length-map (places 64 (bit w)) (covered s c n))

    pub successor_none : (k : ℕ) → slice_get (places 64 (bit w)) k ≡ None → slice_get ((domineering r c).moves s n) k ≡ None
    successor_none k e = ap (λ xs. slice_get xs k) moves_are ∙ slice_get-map (covered s c n) (places 64 (bit w)) k ∙ ap (option_map (covered s c n)) e

    pub successor_some : (k i : ℕ) → slice_get (places 64 (bit w)) k ≡ Some i → slice_get ((domineering r c).moves s n) k ≡ Some (covered s c n i)
    successor_some k i e = ap (λ xs. slice_get xs k) moves_are ∙ slice_get-map (covered s c n) (places 64 (bit w)) k ∙ ap (option_map (covered s c n)) e

    -- a domino that is found lies on the board
    pub found_on : (k i : ℕ) → slice_get (places 64 (bit w)) k ≡ Some i → i + reach s c < r * c
    found_on k i e = free_on (r * c) n (i + reach s c) (fits_second s r c n i (sym (opens i) ∙ (nth_all (λ j. (j < 64) × (bit w j ≡ true)) (places 64 (bit w)) k i (all_places 64 (bit w)) e).1))
