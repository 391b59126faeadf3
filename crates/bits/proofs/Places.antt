-- The list of the numbers that pass a test.
-- Assumes nothing.
use Rattle.std.proofs.Common.{◌≡◌, ℕ, zero, suc, ◌<◌, ◌≤◌, Bool, true, false, cond, ◌≢◌, List, [], ◌∷◌, map, length, Some, filter, sym, refl, ap, ◌∙◌, subst, inl, inr, add-one, arith}
use Rattle.std.specs.List.{range_with_len, slice_get, AllByRecursion}
use Rattle.std.proofs.ByRecursion.{All-map, All-weaker}
use Rattle.std.proofs.lemmas.List.{length-map}
use Rattle.std.proofs.lemmas.Bool.{cases_Bool}
use Rattle.bits.specs.Bits.{places}

-- ---- one number at a time, from the lowest

counting_next : (a n : ℕ) → range_with_len (suc a) n ≡ map suc (range_with_len a n)
counting_next a zero = refl
counting_next a (suc n) = rw (add-one (suc a), add-one a) (ap (λ xs. suc a ∷ xs) (counting_next (suc a) n))

kept_next : (p : ℕ → Bool) (xs : List ℕ) → filter p (map suc xs) ≡ map suc (filter (λ j. p (suc j)) xs)
kept_next p [] = refl
kept_next p (x ∷ xs) = rw (kept_next p xs) (go (p (suc x)))
  where
    go : (b : Bool) → cond b (suc x ∷ map suc (filter (λ j. p (suc j)) xs)) (map suc (filter (λ j. p (suc j)) xs)) ≡ map suc (cond b (x ∷ filter (λ j. p (suc j)) xs) (filter (λ j. p (suc j)) xs))
    go true = refl
    go false = refl

pub places_none : (p : ℕ → Bool) → places 0 p ≡ []
unfolding places
places_none p = refl

-- 0 when it passes, then the others, each one more than a number of the shifted test
pub places_next : (n : ℕ) (p : ℕ → Bool) → places (suc n) p ≡ cond (p 0) (0 ∷ map suc (places n (λ j. p (suc j)))) (map suc (places n (λ j. p (suc j))))
unfolding places
places_next n p = ap (λ xs. cond (p 0) (0 ∷ xs) xs) (ap (filter p) (counting_next 0 n) ∙ kept_next p (range_with_len 0 n))

pub places_first : (n : ℕ) (p : ℕ → Bool) → p 0 ≡ true → places (suc n) p ≡ 0 ∷ map suc (places n (λ j. p (suc j)))
places_first n p e = rw (places_next n p, e)

pub places_later : (n : ℕ) (p : ℕ → Bool) → p 0 ≡ false → places (suc n) p ≡ map suc (places n (λ j. p (suc j)))
places_later n p e = rw (places_next n p, e)

-- ---- tests that agree

pub places_cong : (n : ℕ) (p q : ℕ → Bool) → ((j : ℕ) → j < n → p j ≡ q j) → places n p ≡ places n q
places_cong zero p q f = rw (places_none p, places_none q)
places_cong (suc n) p q f =
    rw (places_next n p, places_next n q, f 0 (omega arith), places_cong n (λ j. p (suc j)) (λ j. q (suc j)) (λ j h. f (suc j) (omega arith)))

pub places_empty : (n : ℕ) (p : ℕ → Bool) → ((j : ℕ) → j < n → p j ≡ false) → places n p ≡ []
places_empty zero p f = places_none p
places_empty (suc n) p f = rw (places_later n p (f 0 (omega arith)), places_empty n (λ j. p (suc j)) (λ j h. f (suc j) (omega arith)))

-- a longer range with nothing more in it
pub places_more : (m n : ℕ) (p : ℕ → Bool) → m ≤ n → ((j : ℕ) → m ≤ j → j < n → p j ≡ false) → places n p ≡ places m p
places_more zero n p h f = rw (places_none p) (places_empty n p (λ j k. f j (omega arith) k))
places_more (suc m) zero p h f = absurd (omega arith)
places_more (suc m) (suc n) p h f =
    rw (places_next n p, places_next m p, places_more m n (λ j. p (suc j)) (omega arith) (λ j k l. f (suc j) (omega arith) (omega arith)))

-- ---- what is in the list, and how long it is

pub all_places : (n : ℕ) (p : ℕ → Bool) → AllByRecursion (λ i. (i < n) × (p i ≡ true)) (places n p)
all_places zero p = rw (places_none p) tt
all_places (suc n) p =
    let rest : AllByRecursion (λ i. (i < suc n) × (p i ≡ true)) (map suc (places n (λ j. p (suc j)))) =
    All-map (λ i. (i < suc n) × (p i ≡ true)) suc (places n (λ j. p (suc j))) (All-weaker (λ i. (i < n) × (p (suc i) ≡ true)) (λ i. (suc i < suc n) × (p (suc i) ≡ true)) (λ i h. (let k : i < n = h.0 in omega arith, h.1)) (places n (λ j. p (suc j))) (all_places n (λ j. p (suc j)))) in
    elim (cases_Bool (p 0)) [
      | inl e ↦ rw (places_first n p e) ((omega arith, e), rest)
      | inr e ↦ rw (places_later n p e) rest
    ]

pub length_places_first : (n : ℕ) (p : ℕ → Bool) → p 0 ≡ true → length (places (suc n) p) ≡ suc (length (places n (λ j. p (suc j))))
length_places_first n p e = rw (places_first n p e) (ap suc (length-map (places n (λ j. p (suc j))) suc))

pub length_places_later : (n : ℕ) (p : ℕ → Bool) → p 0 ≡ false → length (places (suc n) p) ≡ length (places n (λ j. p (suc j)))
length_places_later n p e = rw (places_later n p e) (length-map (places n (λ j. p (suc j))) suc)

pub length_places : (n : ℕ) (p : ℕ → Bool) → length (places n p) ≤ n
length_places zero p = rw (places_none p) (omega arith)
length_places (suc n) p = elim (cases_Bool (p 0)) [
  | inl e ↦ omega (arith, length_places_first n p e, length_places n (λ j. p (suc j)))
  | inr e ↦ omega (arith, length_places_later n p e, length_places n (λ j. p (suc j)))
]

-- one number less: p and q agree but at k, which p alone passes
pub length_places_less : (n : ℕ) (p q : ℕ → Bool) (k : ℕ) → k < n → p k ≡ true → q k ≡ false → ((j : ℕ) → j < n → j ≢ k → p j ≡ q j) → length (places n p) ≡ suc (length (places n q))
length_places_less zero p q k h a b f = absurd (omega arith)
length_places_less (suc n) p q zero h a b f =
    length_places_first n p a
    ∙ ap (λ xs. suc (length xs)) (places_cong n (λ j. p (suc j)) (λ j. q (suc j)) (λ j l. f (suc j) (omega arith) (λ e. omega arith)))
    ∙ ap suc (sym (length_places_later n q b))
length_places_less (suc n) p q (suc k) h a b f =
    let rest = length_places_less n (λ j. p (suc j)) (λ j. q (suc j)) k (omega arith) a b (λ j l z. f (suc j) (omega arith) (λ e. z (omega arith))) in
    let same : p 0 ≡ q 0 = f 0 (omega arith) (λ e. omega arith) in
    elim (cases_Bool (q 0)) [
      | inl e ↦ omega (arith, length_places_first n p (same ∙ e), length_places_first n q e, rest)
      | inr e ↦ omega (arith, length_places_later n p (same ∙ e), length_places_later n q e, rest)
    ]

-- ---- reading the list

-- what holds of every member holds of one that is read
pub nth_all : {X : Type 0} (P : X → Type 0) (xs : List X) (i : ℕ) (x : X) → AllByRecursion P xs → slice_get xs i ≡ Some x → P x
nth_all P [] i x a e = absurd (let z : ◌≡◌ {A = ℕ} 0 1 = cc in omega arith)
nth_all P (y ∷ ys) zero x a e = let q : y ≡ x = cc in subst P q a.0
nth_all P (y ∷ ys) (suc i) x a e = nth_all P ys i x a.1 e
