-- What the code of a sum works out: the parts' codes, the count of the successors and each of them.
-- Assumes nothing.
use Rattle.std.proofs.Common.{◌≡◌, ℕ, zero, suc, ◌+◌, ◌-◌, ◌*◌, ◌/◌, ◌%◌, ◌^◌, ◌<◌, ◌≤◌, Bool, true, false, cond, List, [], ◌∷◌, ◌++◌, map, length, Some, None, Option, sym, refl, ap, ◌∙◌, inl, inr, arith}
use lib.Arith.{digits_lt}
use Rattle.std.specs.List.{slice_get}
use Rattle.std.specs.Option.{option_map}
use Rattle.std.proofs.lemmas.Bool.{cases_Bool, cases_lt, and_from}
use Rattle.std.proofs.lemmas.Option.{slice_get-map}
use Rattle.games.specs.declared.side.Side.{Side}
use Rattle.rulesets.specs.Rules.{Rules, Lawful}
use Rattle.rulesets.proofs.Positions.{nth_none, successor_falls}
use Rattle.sums.specs.Sums.{fits, first_code, second_code, legal_both, moves_in, part_codes, plus}
use Rattle.sums.specs.Parts.{both, fit, moves_at}

-- an item of the first of two lists, and of the second
nth_first : (f : ℕ → ℕ) (xs ys : List ℕ) (i m : ℕ) → Some m ≡ slice_get xs i → Some (f m) ≡ slice_get (map f xs ++ ys) i
nth_first f [] ys i m e = let z : ◌≡◌ {A = ℕ} 0 1 = cc in absurd (omega arith)
nth_first f (x ∷ xs) ys zero m e = let k : m ≡ x = cc in ap (λ y. Some (f y)) k
nth_first f (x ∷ xs) ys (suc i) m e = nth_first f xs ys i m e

nth_second : (f g : ℕ → ℕ) (xs ys : List ℕ) (i : ℕ) → length xs ≤ i → slice_get (map f xs ++ map g ys) i ≡ slice_get (map g ys) (i - length xs)
nth_second f g [] ys i h = ap (slice_get (map g ys)) (omega arith)
nth_second f g (x ∷ xs) ys zero h = absurd (omega arith)
nth_second f g (x ∷ xs) ys (suc i) h = nth_second f g xs ys i (omega arith) ∙ ap (slice_get (map g ys)) (omega arith)

-- an index at which there is nothing is past the end
pub past_end : (xs : List ℕ) (i : ℕ) → None ≡ slice_get xs i → length xs ≤ i
past_end xs i none = elim (cases_lt i (length xs)) [ inl h ↦ absurd (nth_none xs i h none) | inr h ↦ h ]

-- a code with a successor is legal
mover_legal : (R : Rules) → Lawful R → (s : Side) (n i m : ℕ) → Some m ≡ slice_get (R.moves s n) i → R.legal n ≡ true
mover_legal R l s n i m there = elim (cases_Bool (R.legal n)) [ inl t ↦ t | inr t ↦ absurd (omega (arith, l.no_rank n t, (successor_falls R l s n i m there).1)) ]

module _ (A B : Rules) where
  -- what the parts' codes, where there are any, tell
  pub record Parted (n a b : ℕ) : Type 0 where
    pub legal_sum : legal_both A B n ≡ true
    pub first_is : a ≡ first_code B n
    pub second_is : b ≡ second_code B n

  pub parted : (n a b : ℕ) → ◌≡◌ {A = Option (ℕ × ℕ)} (Some (a, b)) (part_codes A B n) → Parted n a b
  parted n a b e = go (legal_both A B n) refl e
    where
      go : (l : Bool) → legal_both A B n ≡ l → ◌≡◌ {A = Option (ℕ × ℕ)} (Some (a, b)) (cond l (Some (first_code B n, second_code B n)) None) → Parted n a b
      go true h e =
          let k : ◌≡◌ {A = ℕ × ℕ} (a, b) (first_code B n, second_code B n) = cc in
          record { legal_sum = h; first_is = ap (λ (t : ℕ × ℕ). t.0) k; second_is = ap (λ (t : ℕ × ℕ). t.1) k }
      go false h e = let z : ◌≡◌ {A = ℕ} 0 1 = cc in absurd (omega arith)

  -- the numbers that the code has: the codes a and b of the code n, and base, the limit of the second part
  module _ (s : Side) (n a b base : ℕ) (told : ◌≡◌ {A = Option (ℕ × ℕ)} (Some (a, b)) (part_codes A B n)) (limit_is : base ≡ B.limit) where
    moves_are : (plus A B).moves s n ≡ map (λ m. m * base + b) (A.moves s a) ++ map (λ m. a * base + m) (B.moves s b)
    moves_are = let p = parted n a b told in rw (p.first_is, p.second_is, limit_is) (moves_at A B s n p.legal_sum)

    module _ (i m : ℕ) (there : Some m ≡ slice_get (A.moves s a) i) where
      pub first_fits : Lawful A → Lawful B → m * base + b < 2 ^ 64
      first_fits la lb =
          let p = parted n a b told in
          let k = both A B n p.legal_sum in
          let d = digits_lt (la.below m (successor_falls A la s a i m there).0) (lb.below (second_code B n) k.second) in
          let f = (fit A B k.fitting).limits in
          rw (p.second_is, limit_is) (omega arith)

      pub first_found : Some (m * base + b) ≡ slice_get ((plus A B).moves s n) i
      first_found = nth_first (λ m. m * base + b) (A.moves s a) _ i m there ∙ sym (ap (λ ms. slice_get ms i) moves_are)

    module _ (i before : ℕ) (before_is : before ≡ length (A.moves s a)) (past : before ≤ i) where
      second_at : slice_get ((plus A B).moves s n) i ≡ slice_get (map (λ m. a * base + m) (B.moves s b)) (i - before)
      second_at = ap (λ ms. slice_get ms i) moves_are ∙ rw before_is (nth_second (λ m. m * base + b) (λ m. a * base + m) (A.moves s a) (B.moves s b) i (omega arith))

      pub second_found : (m : ℕ) → Some m ≡ slice_get (B.moves s b) (i - before) → Some (a * base + m) ≡ slice_get ((plus A B).moves s n) i
      second_found m there = ap (option_map (λ m. a * base + m)) there ∙ sym (slice_get-map (λ m. a * base + m) (B.moves s b) (i - before)) ∙ sym second_at

      pub none_found : None ≡ slice_get (B.moves s b) (i - before) → None ≡ slice_get ((plus A B).moves s n) i
      none_found none = ap (option_map (λ m. a * base + m)) none ∙ sym (slice_get-map (λ m. a * base + m) (B.moves s b) (i - before)) ∙ sym second_at

    pub second_fits : Lawful A → Lawful B → (j m : ℕ) → Some m ≡ slice_get (B.moves s b) j → a * base + m < 2 ^ 64
    second_fits la lb j m there =
        let p = parted n a b told in
        let k = both A B n p.legal_sum in
        let d = digits_lt (la.below (first_code B n) k.first) (lb.below m (successor_falls B lb s b j m there).0) in
        let f = (fit A B k.fitting).limits in
        rw (p.first_is, limit_is) (omega arith)

  -- The code n of a sum that fits, cut in two by the limit of the second part.
  module _ (la : Lawful A) (lb : Lawful B) (s : Side) (n base : ℕ) (fitting : fits A B ≡ true) (limit_is : base ≡ B.limit) where
    first_is : n / base ≡ first_code B n
    first_is = ap (λ (l : ℕ). n / l) limit_is

    second_is : n % base ≡ second_code B n
    second_is = ap (λ (l : ℕ). n % l) limit_is

    told : legal_both A B n ≡ true → ◌≡◌ {A = Option (ℕ × ℕ)} (Some (n / base, n % base)) (part_codes A B n)
    told l = rw (limit_is, l) refl

    told_both : A.legal (n / base) ≡ true → B.legal (n % base) ≡ true → ◌≡◌ {A = Option (ℕ × ℕ)} (Some (n / base, n % base)) (part_codes A B n)
    told_both p q = told (and_from _ _ fitting (and_from _ _ (ap A.legal (sym first_is) ∙ p) (ap B.legal (sym second_is) ∙ q)))

    -- a move in the first part, where the second is legal
    module _ (i m : ℕ) (there : Some m ≡ slice_get (A.moves s (n / base)) i) (q : B.legal (n % base) ≡ true) where
      first_told : ◌≡◌ {A = Option (ℕ × ℕ)} (Some (n / base, n % base)) (part_codes A B n)
      first_told = told_both (mover_legal A la s (n / base) i m there) q

      pub in_first_fits : m * base + n % base < 2 ^ 64
      in_first_fits = first_fits s n (n / base) (n % base) base first_told limit_is i m there la lb

      pub in_first_found : Some (m * base + n % base) ≡ slice_get ((plus A B).moves s n) i
      in_first_found = first_found s n (n / base) (n % base) base first_told limit_is i m there

    -- past the moves in the first part
    module _ (i before : ℕ) (before_is : before ≡ length (A.moves s (n / base))) (past : before ≤ i) where
      -- a move in the second part, where the first is legal
      module _ (m : ℕ) (there : Some m ≡ slice_get (B.moves s (n % base)) (i - before)) (p : A.legal (n / base) ≡ true) where
        second_told : ◌≡◌ {A = Option (ℕ × ℕ)} (Some (n / base, n % base)) (part_codes A B n)
        second_told = told_both p (mover_legal B lb s (n % base) (i - before) m there)

        pub in_second_fits : n / base * base + m < 2 ^ 64
        in_second_fits = second_fits s n (n / base) (n % base) base second_told limit_is la lb (i - before) m there

        pub in_second_found : Some (n / base * base + m) ≡ slice_get ((plus A B).moves s n) i
        in_second_found = second_found s n (n / base) (n % base) base second_told limit_is i before before_is past m there

      pub in_neither : None ≡ slice_get (B.moves s (n % base)) (i - before) → None ≡ slice_get ((plus A B).moves s n) i
      in_neither none = elim (cases_Bool (legal_both A B n)) [
        | inl l ↦ none_found s n (n / base) (n % base) base (told l) limit_is i before before_is past none
        | inr l ↦ sym (ap (λ t. slice_get (cond t (moves_in A B s (first_code B n) (second_code B n)) []) i) l)
      ]
