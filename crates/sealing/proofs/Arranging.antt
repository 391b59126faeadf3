-- `arranged` has the members of its list, and rises.
-- Assumes nothing.
use Rattle.std.proofs.Common.{◌≡◌, Ordering, Less, Equal, Greater, refl, ap, ◌∙◌}
use Rattle.games.specs.Form.{Form, Forms, ∅, ◌&◌, ◌∈◌, here, there}
use Rattle.games.specs.Listing.{listing, ◌≺◌, Rising}
use Rattle.games.proofs.Form.{◌⊆◌, ∈_cases}
use Rattle.games.proofs.Listing.{listing_equal, listing_turn, turn, rising_tail, rising_first}
use Rattle.games.proofs.Sort.{rising_cons}
use Rattle.sealing.specs.Arranged.{placed, put, arranged}

-- put: its members
placed_first : (o : Ordering) (x y : Form) (ys rest : Forms) → listing x y ≡ o → x ∈ rest → x ∈ placed o x y ys rest
placed_first Less x y ys rest e m = here
placed_first Equal x y ys rest e m = rw (listing_equal x y e) here
placed_first Greater x y ys rest e m = there m

placed_later : (o : Ordering) (x y z : Form) (ys rest : Forms) → ys ⊆ rest → z ∈ (y & ys) → z ∈ placed o x y ys rest
placed_later Less x y z ys rest f m = there m
placed_later Equal x y z ys rest f m = m
placed_later Greater x y z ys rest f here = here
placed_later Greater x y z ys rest f (there m) = there (f z m)

placed_back : (o : Ordering) (x y : Form) (ys rest : Forms) → ((z : Form) → z ∈ rest → z ∈ (x & ys)) → (z : Form) → z ∈ placed o x y ys rest → z ∈ (x & (y & ys))
placed_back Less x y ys rest f z m = m
placed_back Equal x y ys rest f z m = there m
placed_back Greater x y ys rest f z here = there here
placed_back Greater x y ys rest f z (there m) = ∈_cases (λ w. w ∈ (x & (y & ys))) here (λ w n. there (there n)) z (f z m)

pub put_first : (x : Form) (ys : Forms) → x ∈ put x ys
put_first x ∅ = here
put_first x (y & ys) = placed_first (listing x y) x y ys (put x ys) refl (put_first x ys)

pub put_later : (x : Form) (ys : Forms) → ys ⊆ put x ys
put_later x ∅ z m = there m
put_later x (y & ys) z m = placed_later (listing x y) x y z ys (put x ys) (put_later x ys) m

pub put_back : (x : Form) (ys : Forms) → put x ys ⊆ (x & ys)
put_back x ∅ z m = m
put_back x (y & ys) z m = placed_back (listing x y) x y ys (put x ys) (put_back x ys) z m

placed_rises : (o : Ordering) (x y : Form) (ys rest : Forms) → listing x y ≡ o → Rising (y & ys) → Rising rest → ((z : Form) → z ∈ rest → z ∈ (x & ys)) → Rising (placed o x y ys rest)
placed_rises Less x y ys rest e r q f = (record { less = e }, r)
placed_rises Equal x y ys rest e r q f = r
placed_rises Greater x y ys rest e r q f = rising_cons rest (λ z m. ∈_cases (λ w. y ≺ w) (record { less = listing_turn x y ∙ ap turn e }) (λ w n. rising_first ys r n) z (f z m)) q

pub put_rises : (x : Form) (ys : Forms) → Rising ys → Rising (put x ys)
put_rises x ∅ r = tt
put_rises x (y & ys) r = placed_rises (listing x y) x y ys (put x ys) refl r (put_rises x ys (rising_tail y ys r)) (put_back x ys)

-- arranged
pub arranged_into : (xs : Forms) → xs ⊆ arranged xs
arranged_into ∅ z m = m
arranged_into (x & xs) z here = put_first x (arranged xs)
arranged_into (x & xs) z (there m) = put_later x (arranged xs) z (arranged_into xs z m)

pub arranged_back : (xs : Forms) → arranged xs ⊆ xs
arranged_back ∅ z m = m
arranged_back (x & xs) z m = ∈_cases (λ w. w ∈ (x & xs)) here (λ w n. there (arranged_back xs w n)) z (put_back x (arranged xs) z m)

pub arranged_rises : (xs : Forms) → Rising (arranged xs)
arranged_rises ∅ = tt
arranged_rises (x & xs) = put_rises x (arranged xs) (arranged_rises xs)
