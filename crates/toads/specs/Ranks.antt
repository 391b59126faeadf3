-- The rank of a strip: at most 48, and a move lowers it.
-- Assumes nothing.
use Rattle.std.specs.Prelude.{◌≡◌, ℕ, zero, suc, ◌+◌, ◌-◌, ◌*◌, ◌/◌, ◌%◌, ◌^◌, ◌<◌, ◌≤◌, Bool, true, false, cond, ◌&&◌, ◌||◌, ◌⊎◌, List, [], ◌∷◌, ◌++◌, map, length, count_by, ◌==◌, ◌≢◌, bit_and, nat_eq, refl}
use Rattle.std.proofs.Common.{sym, ◌∙◌, ap, ap₂, inl, inr, arith}
use Rattle.std.specs.List.{range_with_len}
use Rattle.std.proofs.lemmas.List.{map-append}
use Rattle.std.proofs.lemmas.List.Sums.{sum_by-cons, sum_by-append, sum_by_push}
use Rattle.std.proofs.lemmas.Nat.{and_mask, mul-le}
use Rattle.std.proofs.lemmas.Bool.{cases_eq, cases_lt, ne_eqb}
use Rattle.std.proofs.lemmas.List.FromFn.{map-range_with_len_more}
use Rattle.bits.specs.Digits.{digit}
use Rattle.bits.proofs.Digits.{four_pow}
use Rattle.toads.specs.Toads.{cells, ranked, pairs}

counting_split : (a m k : ℕ) → range_with_len a (m + k) ≡ range_with_len a m ++ range_with_len (a + m) k
counting_split a zero k = ap₂ range_with_len (omega arith) (omega arith)
counting_split a (suc m) k =
    let e : suc m + k ≡ suc (m + k) = omega arith in
    let f : a + 1 + m ≡ a + suc m = omega arith in
    ap (range_with_len a) e ∙ ap (λ xs. a ∷ xs) (counting_split (a + 1) m k ∙ ap (λ b. range_with_len (a + 1) m ++ range_with_len b k) f)

same_cells : (c e a n : ℕ) → ((i : ℕ) → a ≤ i → i < a + n → digit e i ≡ digit c i) → map (digit e) (range_with_len a n) ≡ map (digit c) (range_with_len a n)
same_cells c e a zero f = refl
same_cells c e a (suc n) f = ap₂ ◌∷◌ (f a (omega arith) (omega arith)) (same_cells c e (a + 1) n (λ i l h. f i (omega arith) (omega arith)))

-- a window of the strip is put in another order, which counts one pair less
window : (pre w v post : List ℕ) → ((p : ℕ → Bool) → count_by p v ≡ count_by p w) → suc (pairs (v ++ post)) ≡ pairs (w ++ post) → suc (pairs (pre ++ (v ++ post))) ≡ pairs (pre ++ (w ++ post))
window [] w v post same less = less
window (c ∷ pre) w v post same less =
    let k = window pre w v post same less in
    let count = λ (xs : List ℕ). count_by (ranked c) xs in
    let a : count (pre ++ (v ++ post)) ≡ count pre + (count v + count post) = sum_by-append _ pre (v ++ post) ∙ ap (λ x. count pre + x) (sum_by-append _ v post) in
    let b : count (pre ++ (w ++ post)) ≡ count pre + (count w + count post) = sum_by-append _ pre (w ++ post) ∙ ap (λ x. count pre + x) (sum_by-append _ w post) in
    let s = same (ranked c) in
    omega arith

pub window_falls : (n a m c e : ℕ) → a + m ≤ n → ((i : ℕ) → (i < a) ⊎ (a + m ≤ i) → digit e i ≡ digit c i)
    → ((p : ℕ → Bool) → count_by p (map (digit e) (range_with_len a m)) ≡ count_by p (map (digit c) (range_with_len a m)))
    → ((post : List ℕ) → suc (pairs (map (digit e) (range_with_len a m) ++ post)) ≡ pairs (map (digit c) (range_with_len a m) ++ post))
    → suc (pairs (cells n e)) ≡ pairs (cells n c)
window_falls n a m c e h out same less =
    ap (λ xs. suc (pairs xs)) (split e)
    ∙ ap₂ (λ xs ys. suc (pairs (xs ++ (map (digit e) (range_with_len a m) ++ ys)))) (same_cells c e 0 a (λ i l k. out i (inl (omega arith)))) (same_cells c e (a + m) (n - (a + m)) (λ i l k. out i (inr (omega arith))))
    ∙ window (map (digit c) (range_with_len 0 a)) (map (digit c) (range_with_len a m)) (map (digit e) (range_with_len a m)) (map (digit c) (range_with_len (a + m) (n - (a + m)))) same (less _)
    ∙ sym (ap pairs (split c))
  where
    whole : n ≡ a + (m + (n - (a + m)))
    whole = omega arith

    zero_a : 0 + a ≡ a
    zero_a = omega arith

    split : (x : ℕ) → cells n x ≡ map (digit x) (range_with_len 0 a) ++ (map (digit x) (range_with_len a m) ++ map (digit x) (range_with_len (a + m) (n - (a + m))))
    split x =
        ap (λ k. map (digit x) (range_with_len 0 k)) whole
        ∙ ap (map (digit x)) (counting_split 0 a (m + (n - (a + m))) ∙ ap (λ b. range_with_len 0 a ++ range_with_len b (m + (n - (a + m)))) zero_a)
        ∙ map-append (digit x) (range_with_len 0 a) _
        ∙ ap (λ ys. map (digit x) (range_with_len 0 a) ++ ys) (ap (map (digit x)) (counting_split a m (n - (a + m))) ∙ map-append (digit x) (range_with_len a m) _)

-- two cells change places, or the outer two of three
module _ (a c e : ℕ) where
  pub two_same : digit e a ≡ digit c (a + 1) → digit e (a + 1) ≡ digit c a → (p : ℕ → Bool) → count_by p (map (digit e) (range_with_len a 2)) ≡ count_by p (map (digit c) (range_with_len a 2))
  two_same x y p = rw (x, y) (omega arith)

  pub three_same : digit e a ≡ digit c (a + 1 + 1) → digit e (a + 1) ≡ digit c (a + 1) → digit e (a + 1 + 1) ≡ digit c a
      → (p : ℕ → Bool) → count_by p (map (digit e) (range_with_len a 3)) ≡ count_by p (map (digit c) (range_with_len a 3))
  three_same x y z p = rw (x, y, z) (omega arith)

-- what is shown of written digits holds of equal ones
pub two_less : (a b w x y z : ℕ) → w ≡ a → x ≡ b → y ≡ b → z ≡ a → ((post : List ℕ) → suc (pairs (a ∷ (b ∷ post))) ≡ pairs (b ∷ (a ∷ post)))
    → (post : List ℕ) → suc (pairs (w ∷ (x ∷ post))) ≡ pairs (y ∷ (z ∷ post))
two_less a b w x y z p q r s f post = ap₂ (λ u v. suc (pairs (u ∷ (v ∷ post)))) p q ∙ f post ∙ sym (ap₂ (λ u v. pairs (u ∷ (v ∷ post))) r s)

pub three_less : (a b d u v w x y z : ℕ) → u ≡ a → v ≡ b → w ≡ d → x ≡ d → y ≡ b → z ≡ a → ((post : List ℕ) → suc (pairs (a ∷ (b ∷ (d ∷ post)))) ≡ pairs (d ∷ (b ∷ (a ∷ post))))
    → (post : List ℕ) → suc (pairs (u ∷ (v ∷ (w ∷ post)))) ≡ pairs (x ∷ (y ∷ (z ∷ post)))
three_less a b d u v w x y z p q r i j k f post =
    ap₂ (λ u v. suc (pairs (u ∷ (v ∷ (w ∷ post))))) p q ∙ ap (λ w. suc (pairs (a ∷ (b ∷ (w ∷ post))))) r ∙ f post
    ∙ sym (ap₂ (λ x y. pairs (x ∷ (y ∷ (z ∷ post)))) i j ∙ ap (λ z. pairs (d ∷ (b ∷ (z ∷ post)))) k)

-- a toad's step, a frog's step, a toad's leap and a frog's leap: one pair less
counted : (c x : ℕ) (xs : List ℕ) → count_by (ranked c) (x ∷ xs) ≡ cond (ranked c x) 1 0 + count_by (ranked c) xs
counted c x xs = sum_by-cons _ x xs

pub toad_step : (post : List ℕ) → suc (pairs (0 ∷ (1 ∷ post))) ≡ pairs (1 ∷ (0 ∷ post))
toad_step post = let a = counted 0 1 post in let b = counted 1 0 post in omega arith

pub frog_step : (post : List ℕ) → suc (pairs (2 ∷ (0 ∷ post))) ≡ pairs (0 ∷ (2 ∷ post))
frog_step post = let a = counted 2 0 post in let b = counted 0 2 post in omega arith

pub toad_leap : (post : List ℕ) → suc (pairs (0 ∷ (2 ∷ (1 ∷ post)))) ≡ pairs (1 ∷ (2 ∷ (0 ∷ post)))
toad_leap post =
    let a = counted 0 2 (1 ∷ post) in
    let b = counted 0 1 post in
    let c = counted 2 1 post in
    let d = counted 1 2 (0 ∷ post) in
    let e = counted 1 0 post in
    let f = counted 2 0 post in
    omega arith

pub frog_leap : (post : List ℕ) → suc (pairs (2 ∷ (1 ∷ (0 ∷ post)))) ≡ pairs (0 ∷ (1 ∷ (2 ∷ post)))
frog_leap post =
    let a = counted 2 1 (0 ∷ post) in
    let b = counted 2 0 post in
    let c = counted 1 0 post in
    let d = counted 0 1 (2 ∷ post) in
    let e = counted 0 2 post in
    let f = counted 1 2 post in
    omega arith

-- with t toads, e empty cells and f frogs, at most te + tf + ef pairs count, and that is at most 48 on 12 cells
abbrev pub held : ℕ → List ℕ → ℕ
held d cs = count_by (λ c. nat_eq c d) cs

held_next : (d c : ℕ) (cs : List ℕ) → held d (c ∷ cs) ≡ cond (c == d) 1 0 + held d cs
held_next d c cs = sum_by-cons _ c cs

abbrev mixed : ℕ → ℕ → ℕ → ℕ
mixed t e f = t * e + t * f + e * f

after_toad : (cs : List ℕ) → count_by (ranked 1) cs ≡ held 0 cs + held 2 cs
after_toad [] = refl
after_toad (c ∷ cs) = let k = after_toad cs in let a = counted 1 c cs in let b = held_next 0 c cs in let d = held_next 2 c cs in let o = one c in omega arith
  where
    one : (c : ℕ) → cond (ranked 1 c) 1 0 ≡ cond (c == 0) 1 0 + cond (c == 2) 1 0
    one zero = refl
    one (suc zero) = refl
    one (suc (suc zero)) = refl
    one (suc (suc (suc c))) = rw (ne_eqb (suc (suc (suc c))) 0 (λ e. omega arith), ne_eqb (suc (suc (suc c))) 2 (λ e. omega arith)) refl

after_empty : (cs : List ℕ) → count_by (ranked 0) cs ≡ held 2 cs
after_empty [] = refl
after_empty (c ∷ cs) = let k = after_empty cs in let a = counted 0 c cs in let d = held_next 2 c cs in omega arith

after_other : (c : ℕ) → 2 ≤ c → (cs : List ℕ) → count_by (ranked c) cs ≡ 0
after_other zero h cs = absurd (omega arith)
after_other (suc zero) h cs = absurd (omega arith)
after_other (suc (suc c)) h [] = refl
after_other (suc (suc c)) h (x ∷ cs) =
    let n : cond (ranked (suc (suc c)) x) 1 0 ≡ 0 = rw (ne_eqb (suc (suc c)) 1 (λ e. omega arith), ne_eqb (suc (suc c)) 0 (λ e. omega arith)) refl in
    counted (suc (suc c)) x cs ∙ ap₂ ◌+◌ n (after_other (suc (suc c)) h cs)

pairs_bound : (cs : List ℕ) → pairs cs ≤ mixed (held 1 cs) (held 0 cs) (held 2 cs)
pairs_bound [] = omega arith
pairs_bound (c ∷ cs) = let k = pairs_bound cs in go c k
  where
    toad_more : (t e f : ℕ) → e + f + mixed t e f ≡ mixed (1 + t) e f
    toad_more t e f = grind arith

    empty_more : (t e f : ℕ) → f + mixed t e f ≤ mixed t (1 + e) f
    empty_more t e f = let k : f + mixed t e f + t ≡ mixed t (1 + e) f = grind arith in omega arith

    frog_more : (t e f : ℕ) → mixed t e f ≤ mixed t e (1 + f)
    frog_more t e f = let k : mixed t e f + t + e ≡ mixed t e (1 + f) = grind arith in omega arith

    go : (c : ℕ) → pairs cs ≤ mixed (held 1 cs) (held 0 cs) (held 2 cs) → pairs (c ∷ cs) ≤ mixed (held 1 (c ∷ cs)) (held 0 (c ∷ cs)) (held 2 (c ∷ cs))
    go zero k = rw (held_next 1 0 cs, held_next 0 0 cs, held_next 2 0 cs) (omega (arith, after_empty cs, empty_more (held 1 cs) (held 0 cs) (held 2 cs)))
    go (suc zero) k = rw (held_next 1 1 cs, held_next 0 1 cs, held_next 2 1 cs) (omega (arith, after_toad cs, toad_more (held 1 cs) (held 0 cs) (held 2 cs)))
    go (suc (suc zero)) k = rw (held_next 1 2 cs, held_next 0 2 cs, held_next 2 2 cs) (omega (arith, after_other 2 (omega arith) cs, frog_more (held 1 cs) (held 0 cs) (held 2 cs)))
    go (suc (suc (suc c))) k = rw (held_next 1 (suc (suc (suc c))) cs, held_next 0 (suc (suc (suc c))) cs, held_next 2 (suc (suc (suc c))) cs) (omega (arith, after_other (suc (suc (suc c))) (omega arith) cs))

held_few : (cs : List ℕ) → held 1 cs + held 0 cs + held 2 cs ≤ length cs
held_few [] = omega arith
held_few (c ∷ cs) = let k = held_few cs in let a = held_next 1 c cs in let b = held_next 0 c cs in let d = held_next 2 c cs in let o = one c in omega arith
  where
    one : (c : ℕ) → cond (c == 1) 1 0 + cond (c == 0) 1 0 + cond (c == 2) 1 0 ≤ 1
    one zero = omega arith
    one (suc zero) = omega arith
    one (suc (suc zero)) = omega arith
    one (suc (suc (suc c))) = rw (ne_eqb (suc (suc (suc c))) 1 (λ e. omega arith), ne_eqb (suc (suc (suc c))) 0 (λ e. omega arith), ne_eqb (suc (suc (suc c))) 2 (λ e. omega arith)) (omega arith)

squares : (a b : ℕ) → a * b + a * b ≤ a * a + b * b
squares a b = elim (cases_le a b) [ inl h ↦ up a b h | inr h ↦ let k = up b a h in let c : a * b ≡ b * a = grind arith in omega arith ]
  where
    up : (a b : ℕ) → a ≤ b → a * b + a * b ≤ a * a + b * b
    up a b h =
        let e : b ≡ a + (b - a) = omega arith in
        let k : a * (a + (b - a)) + a * (a + (b - a)) + (b - a) * (b - a) ≡ a * a + (a + (b - a)) * (a + (b - a)) = grind arith in
        rw e (omega arith)

    cases_le : (a b : ℕ) → (a ≤ b) ⊎ (b ≤ a)
    cases_le a b = elim (cases_lt a b) [ inl h ↦ inl (omega arith) | inr h ↦ inr h ]

mixed_small : (t e f : ℕ) → t + e + f ≤ 12 → mixed t e f ≤ 48
mixed_small t e f h =
    let square : (t + e + f) * (t + e + f) ≡ t * t + e * e + f * f + (mixed t e f + mixed t e f) = grind arith in
    let most : (t + e + f) * (t + e + f) ≤ 12 * 12 = mul-le (t + e + f) (t + e + f) 12 12 h h in
    omega (arith, squares t e, squares t f, squares e f)

pub pairs_small : (cs : List ℕ) → length cs ≤ 12 → pairs cs ≤ 48
pairs_small cs h = let k = held_few cs in omega (arith, pairs_bound cs, mixed_small (held 1 cs) (held 0 cs) (held 2 cs) (omega arith))

-- one cell more at the end: it counts with the toads before it, and a frog with the empty cells too
held_push : (d : ℕ) (cs : List ℕ) (c : ℕ) → held d (cs ++ c ∷ []) ≡ held d cs + cond (c == d) 1 0
held_push d cs c = sum_by_push _ cs c

pairs_push : (cs : List ℕ) (c : ℕ) → pairs (cs ++ c ∷ []) ≡ pairs cs + cond (c == 0) (held 1 cs) (cond (c == 2) (held 1 cs + held 0 cs) 0)
pairs_push [] c = none (c == 0) (c == 2)
  where
    none : (a b : Bool) → ◌≡◌ {A = ℕ} 0 (0 + cond a 0 (cond b (0 + 0) 0))
    none true b = refl
    none false true = refl
    none false false = refl
pairs_push (x ∷ cs) c =
    let k = pairs_push cs c in
    let a : count_by (ranked x) (cs ++ c ∷ []) ≡ count_by (ranked x) cs + cond (ranked x c) 1 0 = sum_by_push _ cs c in
    ap₂ ◌+◌ a k ∙ shuffled (count_by (ranked x) cs) (cond (ranked x c) 1 0) (pairs cs) _ ∙ ap (λ r. count_by (ranked x) cs + pairs cs + r) (part x c)
  where
    shuffled : (a b p r : ℕ) → a + b + (p + r) ≡ a + p + (b + r)
    shuffled a b p r = omega arith

    part : (x c : ℕ) → cond (ranked x c) 1 0 + cond (c == 0) (held 1 cs) (cond (c == 2) (held 1 cs + held 0 cs) 0)
        ≡ cond (c == 0) (held 1 (x ∷ cs)) (cond (c == 2) (held 1 (x ∷ cs) + held 0 (x ∷ cs)) 0)
    part x c = rw (held_next 1 x cs, held_next 0 x cs) (ends c)
      where
        -- x counts with an empty cell where it is a toad, and with a frog where it is a toad or empty
        go : (t e a b : Bool) → (t && e) ≡ false → (a && b) ≡ false → cond ((t && (a || b)) || (e && b)) 1 0 + cond a (held 1 cs) (cond b (held 1 cs + held 0 cs) 0)
            ≡ cond a (cond t 1 0 + held 1 cs) (cond b (cond t 1 0 + held 1 cs + (cond e 1 0 + held 0 cs)) 0)
        go true true true true h k = let z : ◌≡◌ {A = ℕ} 0 1 = cc in absurd (omega arith)
        go true true true false h k = let z : ◌≡◌ {A = ℕ} 0 1 = cc in absurd (omega arith)
        go true true false true h k = let z : ◌≡◌ {A = ℕ} 0 1 = cc in absurd (omega arith)
        go true true false false h k = let z : ◌≡◌ {A = ℕ} 0 1 = cc in absurd (omega arith)
        go true false true true h k = let z : ◌≡◌ {A = ℕ} 0 1 = cc in absurd (omega arith)
        go true false true false h k = omega arith
        go true false false true h k = omega arith
        go true false false false h k = refl
        go false true true true h k = let z : ◌≡◌ {A = ℕ} 0 1 = cc in absurd (omega arith)
        go false true true false h k = omega arith
        go false true false true h k = omega arith
        go false true false false h k = refl
        go false false true true h k = let z : ◌≡◌ {A = ℕ} 0 1 = cc in absurd (omega arith)
        go false false true false h k = omega arith
        go false false false true h k = omega arith
        go false false false false h k = refl

        apart : (x d e : ℕ) → (d ≢ e) → (x == d && x == e) ≡ false
        apart x d e n = elim (cases_eq x d) [ inl p ↦ rw (ne_eqb x e (λ q. n (sym p ∙ q))) (and_false (x == d)) | inr p ↦ rw (ne_eqb x d p) ]
          where
            and_false : (b : Bool) → (b && false) ≡ false
            and_false true = refl
            and_false false = refl

        ends : (c : ℕ) → cond (ranked x c) 1 0 + cond (c == 0) (held 1 cs) (cond (c == 2) (held 1 cs + held 0 cs) 0)
            ≡ cond (c == 0) (cond (x == 1) 1 0 + held 1 cs) (cond (c == 2) (cond (x == 1) 1 0 + held 1 cs + (cond (x == 0) 1 0 + held 0 cs)) 0)
        ends c = go (x == 1) (x == 0) (c == 0) (c == 2) (apart x 1 0 (λ q. omega arith)) (apart c 0 2 (λ q. omega arith))

-- the cells with one more
pub cells_more : (c i : ℕ) → cells (i + 1) c ≡ cells i c ++ digit c i ∷ []
cells_more c i = map-range_with_len_more (digit c) 0 i i (omega arith)

module _ (c i : ℕ) where
  pub held_more : (d : ℕ) → held d (cells (i + 1) c) ≡ held d (cells i c) + cond (digit c i == d) 1 0
  held_more d = ap (held d) (cells_more c i) ∙ held_push d (cells i c) (digit c i)

  pub pairs_more : pairs (cells (i + 1) c) ≡ pairs (cells i c) + cond (digit c i == 0) (held 1 (cells i c)) (cond (digit c i == 2) (held 1 (cells i c) + held 0 (cells i c)) 0)
  pairs_more = ap pairs (cells_more c i) ∙ pairs_push (cells i c) (digit c i)

-- the counts with one more cell, whose digit is x
module _ (c i t e p x : ℕ) (toads : t ≡ held 1 (cells i c)) (empty : e ≡ held 0 (cells i c)) (counted : p ≡ pairs (cells i c)) (is : digit c i ≡ x) where
  pub more_toads : t + cond (x == 1) 1 0 ≡ held 1 (cells (i + 1) c)
  more_toads = ap₂ (λ a b. a + cond (b == 1) 1 0) toads (sym is) ∙ sym (held_more c i 1)

  pub more_empty : e + cond (x == 0) 1 0 ≡ held 0 (cells (i + 1) c)
  more_empty = ap₂ (λ a b. a + cond (b == 0) 1 0) empty (sym is) ∙ sym (held_more c i 0)

  pub more_pairs : p + cond (x == 0) t (cond (x == 2) (t + e) 0) ≡ pairs (cells (i + 1) c)
  more_pairs = ap₂ (λ a b. a + cond (b == 0) t (cond (b == 2) (t + e) 0)) counted (sym is) ∙ ap₂ (λ a b. pairs (cells i c) + cond (digit c i == 0) a (cond (digit c i == 2) (a + b) 0)) toads empty ∙ sym (pairs_more c i)

-- the two bits of cell i
pub two_bits : (c i : ℕ) → bit_and (c / 2 ^ (2 * i)) 3 ≡ digit c i
unfolding digit
two_bits c i =
    let twice : 2 * i ≡ i + i = omega arith in
    and_mask (c / 2 ^ (2 * i)) 2 ∙ ap (λ x. c / x % 4) (ap (λ k. 2 ^ k) twice ∙ sym (four_pow i))
