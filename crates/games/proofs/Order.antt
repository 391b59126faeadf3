-- The order of games: its law, and that it is a decidable order.
-- Assumes nothing.
use Rattle.std.proofs.Common.{◌≡◌, ℕ, zero, suc, ◌+◌, ◌≤◌, not, ◌&&◌, T, ◌⊎◌, sym, ◌∙◌, ap₂, inl, inr, arith, T_not}
use lib.Dec.{not_T}
use Rattle.games.specs.Form.{Form, lefts, rights, ◌∈◌, any, size}
use Rattle.games.specs.Order.{ge_in, ge, ◌≥◌, ◌≈◌}
use Rattle.games.proofs.Bools.{T_dec, T_same, and_make, and_left, and_right}
use Rattle.games.proofs.Form.{size_pos, size_left, size_right, any_cong, any_at, any_some, find}

-- the bound does not matter once it is large enough
ge_in_enough : (n m : ℕ) (g h : Form) → size g + size h ≤ n → size g + size h ≤ m → ge_in n g h ≡ ge_in m g h
ge_in_enough zero m g h a b = let k = size_pos g in absurd (omega arith)
ge_in_enough (suc n) zero g h a b = let k = size_pos g in absurd (omega arith)
ge_in_enough (suc n) (suc m) g h a b =
    ap₂ (λ x y. not x && not y)
    (any_cong (λ r. ge_in n h r) (λ r. ge_in m h r) (rights g) (λ r i. let k = size_right g i in ge_in_enough n m h r (omega arith) (omega arith)))
    (any_cong (λ l. ge_in n l g) (λ l. ge_in m l g) (lefts h) (λ l i. let k = size_left h i in ge_in_enough n m l g (omega arith) (omega arith)))

-- G ≥ H exactly when no Right option of G is ≤ H and no Left option of H is ≥ G
pub ge_law : (g h : Form) → ge g h ≡ (not (any (λ r. ge h r) (rights g)) && not (any (λ l. ge l g) (lefts h)))
unfolding ge
ge_law g h =
    ge_in_enough (size g + size h) (suc (size g + size h)) g h (omega arith) (omega arith)
    ∙ ap₂ (λ x y. not x && not y)
    (any_cong _ _ (rights g) (λ r i. let k = size_right g i in ge_in_enough (size g + size h) (size h + size r) h r (omega arith) (omega arith)))
    (any_cong _ _ (lefts h) (λ l i. let k = size_left h i in ge_in_enough (size g + size h) (size l + size g) l g (omega arith) (omega arith)))

-- the law as an introduction and two eliminations: all that the rest uses
pub ≥_make : {g h : Form} → ((r : Form) → r ∈ rights g → ¬ (h ≥ r)) → ((l : Form) → l ∈ lefts h → ¬ (l ≥ g)) → g ≥ h
≥_make {g} {h} no_r no_l = record { holds = T_same (sym (ge_law g h)) (and_make _ _ (not_T _ right) (not_T _ left)) }
  where
    right : T (any (λ r. ge h r) (rights g)) → ⊥
    right t = let (r, m, k) = any_some (λ r. ge h r) (rights g) t in no_r r m (record { holds = k })

    left : T (any (λ l. ge l g) (lefts h)) → ⊥
    left t = let (l, m, k) = any_some (λ l. ge l g) (lefts h) t in no_l l m (record { holds = k })

pub ≥_right : {g h r : Form} → g ≥ h → r ∈ rights g → ¬ (h ≥ r)
≥_right {g} {h} p m q = T_not _ (and_left _ _ (T_same (ge_law g h) p.holds)) (any_at (λ r. ge h r) m q.holds)

pub ≥_left : {g h l : Form} → g ≥ h → l ∈ lefts h → ¬ (l ≥ g)
≥_left {g} {h} p m q = T_not _ (and_right (not (any (λ r. ge h r) (rights g))) _ (T_same (ge_law g h) p.holds)) (any_at (λ l. ge l g) m q.holds)

abbrev pub ≥_dec : (g h : Form) → Dec (g ≥ h)
≥_dec g h = elim (T_dec (ge g h)) [ yes t ↦ yes (record { holds = t }) | no f ↦ no (λ p. f p.holds) ]

-- G not ≥ H: some Right option of G is ≤ H, or some Left option of H is ≥ G
pub ≥_fail : (g h : Form) → ¬ (g ≥ h) → ((r : Form) × (r ∈ rights g) × (h ≥ r)) ⊎ ((l : Form) × (l ∈ lefts h) × (l ≥ g))
≥_fail g h f = go (find (λ r. h ≥ r) (λ r. ≥_dec h r) (rights g)) (find (λ l. l ≥ g) (λ l. ≥_dec l g) (lefts h))
  where
    go : ((r : Form) × (r ∈ rights g) × (h ≥ r)) ⊎ ((r : Form) → r ∈ rights g → ¬ (h ≥ r)) → ((l : Form) × (l ∈ lefts h) × (l ≥ g)) ⊎ ((l : Form) → l ∈ lefts h → ¬ (l ≥ g))
        → ((r : Form) × (r ∈ rights g) × (h ≥ r)) ⊎ ((l : Form) × (l ∈ lefts h) × (l ≥ g))
    go (inl a) b = inl a
    go (inr a) (inl b) = inr b
    go (inr a) (inr b) = absurd (f (≥_make a b))

-- reflexivity
refl_in : (n : ℕ) (g : Form) → size g ≤ n → g ≥ g
refl_in zero g a = let k = size_pos g in absurd (omega arith)
refl_in (suc n) g a =
    ≥_make (λ r m p. let k = size_right g m in ≥_right p m (refl_in n r (omega arith)))
    (λ l m p. let k = size_left g m in ≥_left p m (refl_in n l (omega arith)))

pub ≥_refl : (g : Form) → g ≥ g
≥_refl g = refl_in (size g) g (omega arith)

-- a Left option is never ≥ its form, nor a form ≥ its Right option
pub left_never : {g l : Form} → l ∈ lefts g → ¬ (l ≥ g)
left_never {g} {l} m p = ≥_left p m (≥_refl l)

pub right_never : {g r : Form} → r ∈ rights g → ¬ (g ≥ r)
right_never {g} {r} m p = ≥_right p m (≥_refl r)

-- transitivity
trans_in : (n : ℕ) (x y z : Form) → size x + size y + size z ≤ n → x ≥ y → y ≥ z → x ≥ z
trans_in zero x y z a p q = let k = size_pos x in absurd (omega arith)
trans_in (suc n) x y z a p q =
    ≥_make (λ r m t. let k = size_right x m in ≥_right p m (trans_in n y z r (omega arith) q t))
    (λ l m t. let k = size_left z m in ≥_left q m (trans_in n l x y (omega arith) t p))

pub ≥_trans : {x y z : Form} → x ≥ y → y ≥ z → x ≥ z
≥_trans {x} {y} {z} p q = trans_in (size x + size y + size z) x y z (omega arith) p q

-- equality of value
pub ≈_refl : (g : Form) → g ≈ g
≈_refl g = record { above = ≥_refl g; below = ≥_refl g }

pub ≈_sym : {g h : Form} → g ≈ h → h ≈ g
≈_sym e = record { above = e.below; below = e.above }

pub ≈_trans : {g h k : Form} → g ≈ h → h ≈ k → g ≈ k
≈_trans d e = record { above = ≥_trans d.above e.above; below = ≥_trans e.below d.below }
