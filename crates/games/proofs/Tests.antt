-- The tests decide what they are named for.
-- Assumes nothing.
use Rattle.std.proofs.Common.{◌≡◌, not, ◌&&◌, T, Ordering, Less, Equal, Greater, refl, T_not}
use lib.Dec.{not_T}
use Rattle.games.specs.Form.{Form, Forms, form, ∅, ◌&◌, ◌∈◌, here, there, any}
use Rattle.games.specs.Listing.{listing, Rising}
use Rattle.games.specs.Sides.{Side, Left, Right, other, options}
use Rattle.games.specs.Canon.{AsGood, for_left, for_right, Dominated, Reversible, Clean, Canonical, canonical}
use Rattle.games.specs.Tests.{is_less, is_equal, as_good, dominated, reversible, rising, clean_side, is_canonical, are_canonical}
use Rattle.games.proofs.Bools.{and_make, and_left, and_right}
use Rattle.games.proofs.Form.{∈_cases, any_at, any_some}
use Rattle.games.proofs.Canon.{clean_of, options_of}
use Rattle.games.proofs.Listing.{listing_equal, listing_self}

less_is : (o : Ordering) → T (is_less o) → o ≡ Less
less_is Less t = refl
less_is Equal t = absurd t
less_is Greater t = absurd t

is_less_lem : (o : Ordering) → o ≡ Less → T (is_less o)
is_less_lem o e = rw e tt

same_is : (g h : Form) → T (is_equal (listing g h)) → g ≡ h
same_is g h t = listing_equal g h (equal_is (listing g h) t)
  where
    equal_is : (o : Ordering) → T (is_equal o) → o ≡ Equal
    equal_is Less t = absurd t
    equal_is Equal t = refl
    equal_is Greater t = absurd t

is_same : (g h : Form) → g ≡ h → T (is_equal (listing g h))
is_same g h e = rw (e, listing_self h) tt

good_is : (s : Side) (x y : Form) → T (as_good s x y) → AsGood s x y
good_is Left x y t = for_left (record { holds = t })
good_is Right x y t = for_right (record { holds = t })

is_good : {s : Side} {x y : Form} → AsGood s x y → T (as_good s x y)
is_good (for_left p) = p.holds
is_good (for_right p) = p.holds

is_dominated : (s : Side) (g a : Form) → Dominated s g a → T (dominated s g a)
is_dominated s g a d =
    any_at (λ b. not (is_equal (listing b a)) && as_good s b a) d.is_option
    (and_make _ _ (not_T _ (λ t. d.is_another (same_is d.other_one a t))) (is_good d.as_good))

dominated_is : (s : Side) (g a : Form) → T (dominated s g a) → Dominated s g a
dominated_is s g a t =
    let (b, m, k) = any_some (λ b. not (is_equal (listing b a)) && as_good s b a) (options s g) t in
    record {
      other_one = b;
      is_option = m;
      is_another = λ e. T_not (is_equal (listing b a)) (and_left _ (as_good s b a) k) (is_same b a e);
      as_good = good_is s b a (and_right (not (is_equal (listing b a))) _ k);
    }

is_reversible : (s : Side) (g a : Form) → Reversible s g a → T (reversible s g a)
is_reversible s g a r = any_at (λ b. as_good s g b) r.is_reply (is_good r.as_good)

reversible_is : (s : Side) (g a : Form) → T (reversible s g a) → Reversible s g a
reversible_is s g a t = let (b, m, k) = any_some (λ b. as_good s g b) (options (other s) a) t in record { reply = b; is_reply = m; as_good = good_is s g b k }

pub rising_is : (xs : Forms) → T (rising xs) → Rising xs
rising_is ∅ t = tt
rising_is (x & ∅) t = tt
rising_is (x & (y & ys)) t = (record { less = less_is (listing x y) (and_left _ (rising (y & ys)) t) }, rising_is (y & ys) (and_right (is_less (listing x y)) _ t))

pub is_rising : (xs : Forms) → Rising xs → T (rising xs)
is_rising ∅ r = tt
is_rising (x & ∅) r = tt
is_rising (x & (y & ys)) r = and_make _ _ (is_less_lem (listing x y) r.0.less) (is_rising (y & ys) r.1)

clean_is : (g : Form) → ((s : Side) → T (clean_side s g)) → Clean g
clean_is g t = record {
  rising = λ s. rising_is (options s g) (and_left _ (not (any (λ a. dominated s g a) (options s g)) && not (any (λ a. reversible s g a) (options s g))) (t s));
  undominated = λ s a m d. T_not (any (λ a. dominated s g a) (options s g)) (and_left _ (not (any (λ a. reversible s g a) (options s g))) (and_right (rising (options s g)) _ (t s))) (any_at (λ a. dominated s g a) m (is_dominated s g a d));
  irreversible = λ s a m r. T_not (any (λ a. reversible s g a) (options s g)) (and_right (not (any (λ a. dominated s g a) (options s g))) _ (and_right (rising (options s g)) _ (t s))) (any_at (λ a. reversible s g a) m (is_reversible s g a r));
}

-- the same for a form whose options are known
node_is : (ls rs : Forms) → T (is_canonical (form ls rs)) → (T (are_canonical ls) → (a : Form) → a ∈ ls → Canonical a)
    → (T (are_canonical rs) → (a : Form) → a ∈ rs → Canonical a) → Canonical (form ls rs)
node_is ls rs t p q = canonical (clean_is (form ls rs) sides) are
  where
    clean : T (clean_side Left (form ls rs) && clean_side Right (form ls rs))
    clean = and_left _ (are_canonical ls && are_canonical rs) t

    canons : T (are_canonical ls && are_canonical rs)
    canons = and_right (clean_side Left (form ls rs) && clean_side Right (form ls rs)) _ t

    sides : (s : Side) → T (clean_side s (form ls rs))
    sides Left = and_left _ (clean_side Right (form ls rs)) clean
    sides Right = and_right (clean_side Left (form ls rs)) _ clean

    are : (s : Side) (a : Form) → a ∈ options s (form ls rs) → Canonical a
    are Left = p (and_left _ (are_canonical rs) canons)
    are Right = q (and_right (are_canonical ls) _ canons)

mutual
  pub canonical_is : (g : Form) → T (is_canonical g) → Canonical g
  canonical_is (form ls rs) t = node_is ls rs t (canonicals_are ls) (canonicals_are rs)

  canonicals_are : (gs : Forms) → T (are_canonical gs) → (a : Form) → a ∈ gs → Canonical a
  canonicals_are ∅ t = λ a m. elim m [ ]
  canonicals_are (g & gs) t =
      ∈_cases Canonical (canonical_is g (and_left _ (are_canonical gs) t)) (canonicals_are gs (and_right (is_canonical g) _ t))

-- and the other way round
is_clean : (g : Form) → Clean g → (s : Side) → T (clean_side s g)
is_clean g c s = and_make _ _ (is_rising (options s g) (c.rising s)) (and_make _ _ (not_T _ no_dominated) (not_T _ no_reversible))
  where
    no_dominated : T (any (λ a. dominated s g a) (options s g)) → ⊥
    no_dominated t = let (a, m, k) = any_some (λ a. dominated s g a) (options s g) t in c.undominated s a m (dominated_is s g a k)

    no_reversible : T (any (λ a. reversible s g a) (options s g)) → ⊥
    no_reversible t = let (a, m, k) = any_some (λ a. reversible s g a) (options s g) t in c.irreversible s a m (reversible_is s g a k)

is_node : (ls rs : Forms) → Canonical (form ls rs) → (((a : Form) → a ∈ ls → Canonical a) → T (are_canonical ls))
    → (((a : Form) → a ∈ rs → Canonical a) → T (are_canonical rs)) → T (is_canonical (form ls rs))
is_node ls rs c p q =
    let d = clean_of c in
    and_make _ _ (and_make _ _ (is_clean (form ls rs) d Left) (is_clean (form ls rs) d Right)) (and_make _ _ (p (options_of c Left)) (q (options_of c Right)))

mutual
  pub is_canonical_lem : (g : Form) → Canonical g → T (is_canonical g)
  is_canonical_lem (form ls rs) c = is_node ls rs c (are_canonical_lem ls) (are_canonical_lem rs)

  pub are_canonical_lem : (gs : Forms) → ((a : Form) → a ∈ gs → Canonical a) → T (are_canonical gs)
  are_canonical_lem ∅ f = tt
  are_canonical_lem (g & gs) f = and_make _ _ (is_canonical_lem g (f g here)) (are_canonical_lem gs (λ a m. f a (there m)))
