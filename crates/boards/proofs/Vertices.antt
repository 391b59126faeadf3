-- The bytes of a written vertex, read one by one.
-- Assumes nothing.
use Rattle.std.proofs.Common.{◌≡◌, ℕ, zero, suc, ◌+◌, ◌-◌, ◌*◌, ◌<◌, ◌≤◌, ◌&&◌, ltb, leb, get_or, List, [], ◌∷◌, map, Some, None, Option, refl, ap, ◌∙◌, ⊎_elim, arith}
use Rattle.std.specs.Option.{option_map}
use Rattle.std.specs.Int.Digits.{digits_of, number_from_digits_after, AllBelowBase}
use Rattle.std.proofs.lemmas.Int.Digits.{all_below_base_digits_of, number_digits_of, number_after_ge, first_digits_of}
use Rattle.std.proofs.lemmas.Bool.{cond-true, cond-false, lt-ltb, le-ltb, le-leb, and_from, and_right, cases_lt}
use Rattle.hackenbush.specs.declared.edge.Edge.{Edge as Joint}
use Rattle.lines.specs.Syntax.{numeral}
use Rattle.lines.proofs.Numerals.{ascii, numeral_zero, numeral_digits}
use Rattle.boards.specs.declared.setup.edges.Edges.{Edges}
use Rattle.boards.specs.declared.setup.edges.Part.{Part}
use Rattle.boards.specs.Stepping.{run}
use Rattle.boards.specs.EdgesRead.{with_part, longer, part_read, digit_read, edge_step}
use Rattle.boards.proofs.Running.{run_none}

-- these edges were read, and this of the next
abbrev pub state : Part → List Joint → Edges
state p xs = record { part = p; edges = record { items = xs } }

-- the byte of a digit
digit_byte : (s : Edges) (d : ℕ) → d < 10 → edge_step s (ascii d) ≡ digit_read s d
digit_byte s d h =
    cond-true (leb 48 (ascii d) && leb (ascii d) 57) _ _ (and_from (leb 48 (ascii d)) _ (le-leb _ _ (omega arith)) (le-leb _ _ (omega arith)))
    ∙ ap (digit_read s) (back d)
  where
    back : (d : ℕ) → 48 + d - 48 ≡ d
    back d = omega arith

longer_low : (v d : ℕ) → 0 < v → v * 10 + d < 16 → longer v d ≡ Some (v * 10 + d)
longer_low v d p h = cond-true (ltb 0 v && ltb (v * 10 + d) 16) (Some (v * 10 + d)) None (and_from (ltb 0 v) _ (lt-ltb _ _ p) (lt-ltb _ _ h))

longer_high : (v d : ℕ) → 16 ≤ v * 10 + d → longer v d ≡ None
longer_high v d h = cond-false (ltb 0 v && ltb (v * 10 + d) 16) (Some (v * 10 + d)) None (and_right (ltb 0 v) _ (le-ltb _ _ h))

-- a vertex is read from the part before it to a part that holds it
module _ (before : Part) (holding : ℕ → Part) (begins : (d : ℕ) → part_read before d ≡ Some (holding d)) (goes_on : (v d : ℕ) → part_read (holding v) d ≡ option_map holding (longer v d)) (xs : List Joint) where
  first_digit : (d : ℕ) → d < 10 → edge_step (state before xs) (ascii d) ≡ Some (state (holding d) xs)
  first_digit d h = digit_byte (state before xs) d h ∙ ap (option_map (with_part (state before xs))) (begins d)

  next_digit : (v d : ℕ) (o : Option ℕ) → d < 10 → longer v d ≡ o → edge_step (state (holding v) xs) (ascii d) ≡ option_map (λ w. state (holding w) xs) o
  next_digit v d o h e = digit_byte (state (holding v) xs) d h ∙ ap (option_map (with_part (state (holding v) xs))) (goes_on v d ∙ ap (option_map holding) e) ∙ both o
    where
      both : (o : Option ℕ) → option_map (with_part (state (holding v) xs)) (option_map holding o) ≡ option_map (λ w. state (holding w) xs) o
      both None = refl
      both (Some w) = refl

  -- digits of a number up to 15, and of a higher one
  digits_low : (v : ℕ) (ds : List ℕ) → AllBelowBase 10 ds → 0 < v → number_from_digits_after 10 v ds < 16 → run edge_step (Some (state (holding v) xs)) (map ascii ds) ≡ Some (state (holding (number_from_digits_after 10 v ds)) xs)
  digits_low v [] u p h = refl
  digits_low v (d ∷ ds) u p h =
      let k = number_after_ge 10 (v * 10 + d) ds (omega arith) in
      ap (λ q. run edge_step q (map ascii ds)) (next_digit v d (Some (v * 10 + d)) u.0 (longer_low v d p (omega arith)))
      ∙ digits_low (v * 10 + d) ds u.1 (omega arith) h

  digits_high : (v : ℕ) (ds : List ℕ) → AllBelowBase 10 ds → 0 < v → v < 16 → 16 ≤ number_from_digits_after 10 v ds → run edge_step (Some (state (holding v) xs)) (map ascii ds) ≡ None
  digits_high v [] u p l h = absurd (omega arith)
  digits_high v (d ∷ ds) u p l h = ⊎_elim
      (λ low.
      ap (λ q. run edge_step q (map ascii ds)) (next_digit v d (Some (v * 10 + d)) u.0 (longer_low v d p low))
      ∙ digits_high (v * 10 + d) ds u.1 (omega arith) low h)
      (λ high.
      ap (λ q. run edge_step q (map ascii ds)) (next_digit v d None u.0 (longer_high v d high))
      ∙ run_none edge_step (map ascii ds))
      (cases_lt (v * 10 + d) 16)

  -- the digits of a number, of which the first is not 0
  number_low : (n : ℕ) (ds : List ℕ) → AllBelowBase 10 ds → 0 < get_or ds 0 0 → number_from_digits_after 10 0 ds ≡ n → n < 16 → run edge_step (Some (state before xs)) (map ascii ds) ≡ Some (state (holding n) xs)
  number_low n [] u p e h = absurd (omega arith)
  number_low n (d ∷ ds) u p e h =
      let k : number_from_digits_after 10 d ds ≡ n = ap (λ m. number_from_digits_after 10 m ds) (alone d) ∙ e in
      ap (λ q. run edge_step q (map ascii ds)) (first_digit d u.0)
      ∙ digits_low d ds u.1 p (omega arith)
      ∙ ap (λ m. Some (state (holding m) xs)) k
    where
      alone : (d : ℕ) → d ≡ 0 * 10 + d
      alone d = omega arith

  number_high : (n : ℕ) (ds : List ℕ) → AllBelowBase 10 ds → 0 < get_or ds 0 0 → number_from_digits_after 10 0 ds ≡ n → 16 ≤ n → run edge_step (Some (state before xs)) (map ascii ds) ≡ None
  number_high n [] u p e h = absurd (omega arith)
  number_high n (d ∷ ds) u p e h =
      let k : number_from_digits_after 10 d ds ≡ n = ap (λ m. number_from_digits_after 10 m ds) (alone d) ∙ e in
      let l : d < 10 = u.0 in
      ap (λ q. run edge_step q (map ascii ds)) (first_digit d u.0)
      ∙ digits_high d ds u.1 p (omega arith) (omega arith)
    where
      alone : (d : ℕ) → d ≡ 0 * 10 + d
      alone d = omega arith

  -- a vertex
  pub vertex_low : (n : ℕ) → n < 16 → run edge_step (Some (state before xs)) (numeral n) ≡ Some (state (holding n) xs)
  vertex_low zero h = ap (run edge_step (Some (state before xs))) numeral_zero ∙ first_digit 0 (omega arith)
  vertex_low (suc n) h =
      ap (run edge_step (Some (state before xs))) (numeral_digits (suc n) (omega arith))
      ∙ number_low (suc n) (digits_of 10 (suc n)) (all_below_base_digits_of 10 (suc n) (omega arith)) (first_digits_of 10 (suc n) (omega arith) (omega arith)) (number_digits_of 10 (suc n) (omega arith)) h

  pub vertex_high : (n : ℕ) → 16 ≤ n → run edge_step (Some (state before xs)) (numeral n) ≡ None
  vertex_high zero h = absurd (omega arith)
  vertex_high (suc n) h =
      ap (run edge_step (Some (state before xs))) (numeral_digits (suc n) (omega arith))
      ∙ number_high (suc n) (digits_of 10 (suc n)) (all_below_base_digits_of 10 (suc n) (omega arith)) (first_digits_of 10 (suc n) (omega arith) (omega arith)) (number_digits_of 10 (suc n) (omega arith)) h
