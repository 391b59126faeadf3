-- Any list of forms has a strictly rising list with the same members.
-- Assumes nothing.
use Rattle.std.proofs.Common.{◌≤◌, arith}
use Rattle.games.specs.Form.{Form, Forms, ∅, ◌&◌, ◌∈◌, here, there, sizes}
use Rattle.games.specs.Listing.{◌≺◌, Rising}
use Rattle.games.proofs.Form.{◌⊆◌}
use Rattle.games.specs.Laws.{Placed, before, same, after}
use Rattle.games.proofs.Listing.{place, rising_tail, rising_first}

-- a rising list with the members of xs, and no larger than it
pub record Sorted (xs : Forms) : Type 0 where
  pub list : Forms
  pub rising : Rising list
  pub into : xs ⊆ list
  pub back : list ⊆ xs
  pub small : sizes list ≤ sizes xs

pub rising_cons : {x : Form} (xs : Forms) → ((z : Form) → z ∈ xs → x ≺ z) → Rising xs → Rising (x & xs)
rising_cons ∅ f r = tt
rising_cons (y & ys) f r = (f y here, r)

-- x put into the rising list ys at its place
abbrev pub insert : (x : Form) (ys : Forms) → Rising ys → Sorted (x & ys)
insert x ∅ r = record { list = x & ∅; rising = tt; into = λ z m. m; back = λ z m. m; small = omega arith }
insert x (y & ys) r = go (place x y) (insert x ys (rising_tail y ys r))
  where
    go : Placed x y → Sorted (x & ys) → Sorted (x & (y & ys))
    go (before p) s = record { list = x & (y & ys); rising = (p, r); into = λ z m. m; back = λ z m. m; small = omega arith }
    go (same e) s = record { list = y & ys; rising = r; into = into; back = λ z m. there m; small = omega arith }
      where
        into : (x & (y & ys)) ⊆ (y & ys)
        into z here = rw e here
        into z (there m) = m
    go (after p) s = record { list = y & s.list; rising = rising_cons s.list (λ z m. first z (s.back z m)) s.rising; into = into; back = back; small = let k = s.small in omega arith }
      where
        first : (z : Form) → z ∈ (x & ys) → y ≺ z
        first z here = p
        first z (there m) = rising_first ys r m

        into : (x & (y & ys)) ⊆ (y & s.list)
        into z here = there (s.into z here)
        into z (there here) = here
        into z (there (there m)) = there (s.into z (there m))

        up : (z : Form) → z ∈ (x & ys) → z ∈ (x & (y & ys))
        up z here = here
        up z (there m) = there (there m)

        back : (y & s.list) ⊆ (x & (y & ys))
        back z here = there here
        back z (there m) = up z (s.back z m)

abbrev pub sort : (xs : Forms) → Sorted xs
sort ∅ = record { list = ∅; rising = tt; into = λ z m. m; back = λ z m. m; small = omega arith }
sort (x & xs) = go (sort xs)
  where
    go : Sorted xs → Sorted (x & xs)
    go s = next (insert x s.list s.rising)
      where
        next : Sorted (x & s.list) → Sorted (x & xs)
        next t = record { list = t.list; rising = t.rising; into = into; back = λ z m. back z (t.back z m); small = let a = s.small in let b = t.small in omega arith }
          where
            into : (x & xs) ⊆ t.list
            into z here = t.into z here
            into z (there m) = t.into z (there (s.into z m))

            back : (x & s.list) ⊆ (x & xs)
            back z here = here
            back z (there m) = there (s.back z m)
