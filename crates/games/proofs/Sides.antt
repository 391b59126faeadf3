-- The order as each side sees it, so that Left and Right are proved at once.
-- Assumes nothing.
use Rattle.std.proofs.Common.{◌≡◌, suc, ◌+◌, ◌<◌, ◌⊎◌, refl, ap₂, inl, inr, arith}
use Rattle.games.specs.Form.{Form, Forms, form, ◌∈◌, size, sizes}
use Rattle.games.specs.Order.{◌≥◌, ◌≈◌}
use Rattle.games.specs.Sides.{Side, Left, Right, other, options, with_options}
use Rattle.games.specs.Canon.{AsGood, for_left, for_right}
use Rattle.games.proofs.Form.{size_left, size_right}
use Rattle.games.proofs.Order.{≥_make, ≥_left, ≥_right, ≥_refl, ≥_trans, ≥_dec, ≥_fail}

pub option_size : (s : Side) (g : Form) {a : Form} → a ∈ options s g → size a < size g
option_size Left g m = size_left g m
option_size Right g m = size_right g m

pub same_options : (g h : Form) → ((s : Side) → options s g ≡ options s h) → g ≡ h
same_options (form gl gr) (form hl hr) e = ap₂ form (e Left) (e Right)

-- what `with_options` gives, and what it leaves
pub with_side : (s : Side) (xs : Forms) (g : Form) → options s (with_options s xs g) ≡ xs
with_side Left xs g = refl
with_side Right xs g = refl

pub with_other : (s : Side) (xs : Forms) (g : Form) → options (other s) (with_options s xs g) ≡ options (other s) g
with_other Left xs g = refl
with_other Right xs g = refl

pub size_sides : (s : Side) (g : Form) → size g ≡ suc (sizes (options s g) + sizes (options (other s) g))
size_sides Left (form ls rs) = refl
size_sides Right (form ls rs) = omega arith

pub good_make : (s : Side) (x y : Form) → ((o : Form) → o ∈ options (other s) x → ¬ AsGood s y o) → ((o : Form) → o ∈ options s y → ¬ AsGood s o x) → AsGood s x y
good_make Left x y f g = for_left (≥_make (λ r m p. f r m (for_left p)) (λ l m p. g l m (for_left p)))
good_make Right x y f g = for_right (≥_make (λ r m p. g r m (for_right p)) (λ l m p. f l m (for_right p)))

-- if x is as good as y, no option that the other side has of x is bettered by y, and no option of y is as good as x
pub good_reply : (s : Side) {x y o : Form} → AsGood s x y → o ∈ options (other s) x → ¬ AsGood s y o
good_reply Left (for_left p) m (for_left q) = ≥_right p m q
good_reply Right (for_right p) m (for_right q) = ≥_left p m q

pub good_option : (s : Side) {x y o : Form} → AsGood s x y → o ∈ options s y → ¬ AsGood s o x
good_option Left (for_left p) m (for_left q) = ≥_left p m q
good_option Right (for_right p) m (for_right q) = ≥_right p m q

pub good_refl : (s : Side) (x : Form) → AsGood s x x
good_refl Left x = for_left (≥_refl x)
good_refl Right x = for_right (≥_refl x)

pub good_trans : {s : Side} {x y z : Form} → AsGood s x y → AsGood s y z → AsGood s x z
good_trans (for_left p) (for_left q) = for_left (≥_trans p q)
good_trans (for_right p) (for_right q) = for_right (≥_trans q p)

abbrev pub good_dec : (s : Side) (x y : Form) → Dec (AsGood s x y)
good_dec Left x y = elim (≥_dec x y) [ yes p ↦ yes (for_left p) | no f ↦ no (λ q. f (un q)) ]
  where
    un : AsGood Left x y → x ≥ y
    un (for_left p) = p
good_dec Right x y = elim (≥_dec y x) [ yes p ↦ yes (for_right p) | no f ↦ no (λ q. f (un q)) ]
  where
    un : AsGood Right x y → y ≥ x
    un (for_right p) = p

-- what is as good for one side is as bad for the other
pub good_other : {s : Side} {x y : Form} → AsGood s x y → AsGood (other s) y x
good_other (for_left p) = for_right p
good_other (for_right p) = for_left p

-- equal: as good as each other, for either side
pub ≈_good : (s : Side) {x y : Form} → x ≈ y → AsGood s x y
≈_good Left e = for_left e.above
≈_good Right e = for_right e.below

pub good_≈ : {s : Side} {x y : Form} → AsGood s x y → AsGood s y x → x ≈ y
good_≈ (for_left p) (for_left q) = record { above = p; below = q }
good_≈ (for_right p) (for_right q) = record { above = q; below = p }

-- an option is never as good as its form, and a form never as good as its reply
pub option_never : (s : Side) {x o : Form} → o ∈ options s x → ¬ AsGood s o x
option_never s {x} {o} m p = good_option s p m (good_refl s o)

pub reply_never : (s : Side) {x o : Form} → o ∈ options (other s) x → ¬ AsGood s x o
reply_never s {x} {o} m p = good_reply s p m (good_refl s o)

-- x not as good as y: by an option of the other side of x, or by one of the side's of y
pub good_fail : (s : Side) (x y : Form) → ¬ AsGood s x y
    → ((o : Form) × (o ∈ options (other s) x) × AsGood s y o) ⊎ ((o : Form) × (o ∈ options s y) × AsGood s o x)
good_fail Left x y f = elim (≥_fail x y (λ p. f (for_left p))) [ inl (r, m, p) ↦ inl (r, m, for_left p) | inr (l, m, p) ↦ inr (l, m, for_left p) ]
good_fail Right x y f = elim (≥_fail y x (λ p. f (for_right p))) [ inl (r, m, p) ↦ inr (r, m, for_right p) | inr (l, m, p) ↦ inl (l, m, for_right p) ]
