-- The order of rows tells different rows apart.
-- Assumes nothing.
use Rattle.std.proofs.Common.{◌≡◌, ℕ, ◌<◌, ◌⊎◌, Ordering, Less, Equal, Greater, refl, ap, ◌∙◌, subst, inl, inr, arith}
use Rattle.std.specs.Ordering.{ordering_then, MatchOrdering}
use Rattle.std.specs.Cmp.{ranks}
use Rattle.std.proofs.lemmas.Cmp.{tied_itself}
use Rattle.std.proofs.lemmas.Map.Lookups.{exact_bytes, exact_unsigned}
use Rattle.std.specs.Cmp.Lexicographic.{nat_list_cmp_total}
use Rattle.games.specs.Numbered.{Lists}
use Rattle.stores.specs.Order.{number_order, list_order, row_order}
use Rattle.stores.proofs.Lowest.{both_same}

-- the three answers differ
pub not_less : (o : Ordering) → o ≡ Less → (o ≡ Equal) ⊎ (o ≡ Greater) → ⊥
not_less o p (inl q) = let z : ◌≡◌ {A = ℕ} 0 1 = cc in omega arith
not_less o p (inr q) = let z : ◌≡◌ {A = ℕ} 0 1 = cc in omega arith

pub cases_ordering : (o : Ordering) → (o ≡ Less) ⊎ ((o ≡ Equal) ⊎ (o ≡ Greater))
cases_ordering Less = inl refl
cases_ordering Equal = inr (inl refl)
cases_ordering Greater = inr (inr refl)

-- both parts are equal where the whole is
pub then_equal : (o p : Ordering) → ordering_then o p ≡ Equal → (o ≡ Equal) × (p ≡ Equal)
then_equal Less p e = absurd (not_less Less refl (inl e))
then_equal Equal p e = (refl, e)
then_equal Greater p e = absurd (not_less Less refl (let z : Less ≡ Equal = cc in inl z))

pub number_equal : (x y : ℕ) → number_order x y ≡ Equal → x ≡ y
number_equal = exact_unsigned

pub number_less : (x y : ℕ) → number_order x y ≡ Less → x < y
number_less x y e = subst (λ r. MatchOrdering r (x < y) (x ≡ y) (y < x)) e (ranks x y)

pub row_equal : (a b : Lists) → row_order a b ≡ Equal → a ≡ b
row_equal a b e =
    let p = then_equal (list_order a.left b.left) (list_order a.right b.right) e in
    both_same a b (exact_bytes a.left b.left p.0) (exact_bytes a.right b.right p.1)

pub row_itself : (a : Lists) → row_order a a ≡ Equal
row_itself a =
    ap (λ o. ordering_then o (list_order a.right a.right)) (tied_itself nat_list_cmp_total a.left) ∙ tied_itself nat_list_cmp_total a.right
