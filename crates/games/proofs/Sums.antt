-- The sum of two games: its law, and that a game and its negative cancel.
-- Assumes nothing.
use Rattle.std.proofs.Common.{◌≡◌, ℕ, zero, suc, ◌+◌, ◌≤◌, refl, ap, ◌∙◌, ap₂, inl, inr, arith}
use Rattle.games.specs.Form.{Form, Forms, form, ∅, ◌&◌, lefts, rights, ◌∈◌, here, there, ◌⧺◌, 𝟎, size}
use Rattle.games.specs.Sides.{Side, Left, Right, other, options}
use Rattle.games.specs.Order.{◌≈◌}
use Rattle.games.specs.Canon.{AsGood}
use Rattle.games.specs.Sums.{negative, negatives, changed, sum_in, ◌⊕◌}
use Rattle.games.proofs.Form.{size_pos, size_left, size_right, ∈_front, ∈_back, ∈_split}
use Rattle.games.proofs.Sides.{option_size, good_make, good_option, good_other, good_≈}

changed_same : (f k : Form → Form) (xs : Forms) → ((x : Form) → x ∈ xs → f x ≡ k x) → changed f xs ≡ changed k xs
changed_same f k ∅ e = refl
changed_same f k (x & xs) e = ap₂ ◌&◌ (e x here) (changed_same f k xs (λ y m. e y (there m)))

∈_changed : (f : Form → Form) {x : Form} {xs : Forms} → x ∈ xs → f x ∈ changed f xs
∈_changed f here = here
∈_changed f (there m) = there (∈_changed f m)

changed_from : (f : Form → Form) {y : Form} (xs : Forms) → y ∈ changed f xs → (x : Form) × (x ∈ xs) × (f x ≡ y)
changed_from f ∅ m = elim m [ ]
changed_from f (x & xs) here = (x, here, refl)
changed_from f (x & xs) (there m) = let (z, n, e) = changed_from f xs m in (z, there n, e)

-- the bound does not matter once it is large enough
sum_enough : (n m : ℕ) (g h : Form) → size g + size h ≤ n → size g + size h ≤ m → sum_in n g h ≡ sum_in m g h
sum_enough zero m g h a b = let k = size_pos g in absurd (omega arith)
sum_enough (suc n) zero g h a b = let k = size_pos g in absurd (omega arith)
sum_enough (suc n) (suc m) g h a b =
    ap₂ form
    (ap₂ ◌⧺◌
    (changed_same (λ l. sum_in n l h) (λ l. sum_in m l h) (lefts g) (λ x i. let k = size_left g i in sum_enough n m x h (omega arith) (omega arith)))
    (changed_same (λ l. sum_in n g l) (λ l. sum_in m g l) (lefts h) (λ x i. let k = size_left h i in sum_enough n m g x (omega arith) (omega arith))))
    (ap₂ ◌⧺◌
    (changed_same (λ r. sum_in n r h) (λ r. sum_in m r h) (rights g) (λ x i. let k = size_right g i in sum_enough n m x h (omega arith) (omega arith)))
    (changed_same (λ r. sum_in n g r) (λ r. sum_in m g r) (rights h) (λ x i. let k = size_right h i in sum_enough n m g x (omega arith) (omega arith))))

-- a move in a sum is a move in one of the two
pub sum_law : (s : Side) (g h : Form) → options s (g ⊕ h) ≡ changed (λ o. o ⊕ h) (options s g) ⧺ changed (λ o. g ⊕ o) (options s h)
unfolding ◌⊕◌
sum_law s g h = ap (options s) (sum_enough (size g + size h) (suc (size g + size h)) g h (omega arith) (omega arith)) ∙ go s
  where
    go : (s : Side) → options s (sum_in (suc (size g + size h)) g h) ≡ changed (λ o. sum_in (size o + size h) o h) (options s g) ⧺ changed (λ o. sum_in (size g + size o) g o) (options s h)
    go Left = ap₂ ◌⧺◌
        (changed_same _ _ (lefts g) (λ x i. let k = size_left g i in sum_enough (size g + size h) (size x + size h) x h (omega arith) (omega arith)))
        (changed_same _ _ (lefts h) (λ x i. let k = size_left h i in sum_enough (size g + size h) (size g + size x) g x (omega arith) (omega arith)))
    go Right = ap₂ ◌⧺◌
        (changed_same _ _ (rights g) (λ x i. let k = size_right g i in sum_enough (size g + size h) (size x + size h) x h (omega arith) (omega arith)))
        (changed_same _ _ (rights h) (λ x i. let k = size_right h i in sum_enough (size g + size h) (size g + size x) g x (omega arith) (omega arith)))

-- the options of the negative are the negatives of the other side's options
negatives_are : (xs : Forms) → negatives xs ≡ changed negative xs
negatives_are ∅ = refl
negatives_are (x & xs) = ap (λ t. negative x & t) (negatives_are xs)

pub negative_law : (s : Side) (g : Form) → options s (negative g) ≡ changed negative (options (other s) g)
negative_law Left (form ls rs) = negatives_are rs
negative_law Right (form ls rs) = negatives_are ls

-- whatever the other side does in a sum of a game and its negative, the side answers alike in the other part
cancels_step : (n : ℕ) → ((s : Side) (g : Form) → size g ≤ n → AsGood s (g ⊕ negative g) 𝟎) → (s : Side) (g : Form) → size g ≤ suc n → AsGood s (g ⊕ negative g) 𝟎
cancels_step n smaller s g a = good_make s (g ⊕ negative g) 𝟎 answered (nothing s)
  where
    nothing : (s : Side) (o : Form) → o ∈ options s 𝟎 → ¬ AsGood s o (g ⊕ negative g)
    nothing Left o m = elim m [ ]
    nothing Right o m = elim m [ ]

    -- a move of the other side to x in the game
    in_game : (x : Form) → x ∈ options (other s) g → ¬ AsGood s 𝟎 (x ⊕ negative g)
    in_game x m p =
        let reply : negative x ∈ options s (negative g) = rw (negative_law s g) (∈_changed negative m) in
        let there' : (x ⊕ negative x) ∈ options s (x ⊕ negative g) = rw (sum_law s x (negative g)) (∈_back (changed (λ o. o ⊕ negative g) (options s x)) (∈_changed (λ o. x ⊕ o) reply)) in
        let k = option_size (other s) g m in
        good_option s p there' (smaller s x (omega arith))

    -- a move of the other side to the negative of x in the negative
    in_negative : (x : Form) → x ∈ options s g → ¬ AsGood s 𝟎 (g ⊕ negative x)
    in_negative x m p =
        let there' : (x ⊕ negative x) ∈ options s (g ⊕ negative x) = rw (sum_law s g (negative x)) (∈_front (changed (λ o. g ⊕ o) (options s (negative x))) (∈_changed (λ o. o ⊕ negative x) m)) in
        let k = option_size s g m in
        good_option s p there' (smaller s x (omega arith))

    back : (s : Side) (o : Form) → o ∈ options (other s) (negative g) → (x : Form) × (x ∈ options s g) × (negative x ≡ o)
    back Left o m = changed_from negative (lefts g) (rw (negative_law Right g) at m)
    back Right o m = changed_from negative (rights g) (rw (negative_law Left g) at m)

    answered : (o : Form) → o ∈ options (other s) (g ⊕ negative g) → ¬ AsGood s 𝟎 o
    answered o m p = elim (∈_split (changed (λ o. o ⊕ negative g) (options (other s) g)) _ (rw (sum_law (other s) g (negative g)) at m)) [
      | inl i ↦ let (x, j, e) = changed_from (λ o. o ⊕ negative g) (options (other s) g) i in in_game x j (rw (← e) at p)
      | inr i ↦
          let (y, j, e) = changed_from (λ o. g ⊕ o) (options (other s) (negative g)) i in
          let (x, k, f) = back s y j in
          in_negative x k (rw (← e, ← f) at p)
    ]

cancels_in : (n : ℕ) (s : Side) (g : Form) → size g ≤ n → AsGood s (g ⊕ negative g) 𝟎
cancels_in zero s g a = let k = size_pos g in absurd (omega arith)
cancels_in (suc n) s g a = cancels_step n (cancels_in n) s g a

pub cancels : (g : Form) → (g ⊕ negative g) ≈ 𝟎
cancels g = good_≈ (cancels_in (size g) Left g (omega arith)) (turn (cancels_in (size g) Right g (omega arith)))
  where
    turn : AsGood Right (g ⊕ negative g) 𝟎 → AsGood Left 𝟎 (g ⊕ negative g)
    turn p = good_other p
