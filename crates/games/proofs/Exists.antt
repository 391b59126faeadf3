-- Each form equals a canonical form. What makes the form is marked `abbrev`, so that the proof computes it at a closed form.
-- Assumes nothing.
use Rattle.std.proofs.Common.{◌≡◌, ℕ, zero, suc, ◌<◌, ◌≤◌, ◌⊎◌, ap, inl, inr, arith}
use Rattle.games.specs.Form.{Form, Forms, form, ∅, ◌&◌, ◌∈◌, here, there, ◌⧺◌, size, sizes}
use Rattle.games.specs.Order.{◌≈◌}
use Rattle.games.specs.Listing.{Rising}
use Rattle.games.specs.Sides.{Side, Left, Right, other, options, with_options}
use Rattle.games.specs.Canon.{AsGood, Dominated, Reversible, Clean, Canonical, canonical}
use Rattle.games.specs.Laws.{Alike}
use Rattle.games.proofs.Form.{◌⊆◌, find, size_pos, ∈_place, ∈_without, sizes_⧺}
use Rattle.games.proofs.Order.{≈_sym, ≈_trans}
use Rattle.games.proofs.Sides.{good_dec, good_trans, ≈_good, with_side, with_other, size_sides, option_size}
use Rattle.games.proofs.Value.{replace_≈, same_≈, drop_≈, bypass_≈}
use Rattle.games.proofs.Listing.{form_dec}
use Rattle.games.proofs.Sort.{Sorted, sort}

-- a canonical form of g's value, no larger than g
pub record Found (g : Form) : Type 0 where
  pub it : Form
  pub is_canonical : Canonical it
  pub same_value : g ≈ it
  pub small : size it ≤ size g

-- a smaller form of g's value
pub record Smaller (g : Form) : Type 0 where
  pub it : Form
  pub same_value : g ≈ it
  pub small : size it < size g

-- whether an option is dominated or reversible is decidable
abbrev pub dominated_dec : (s : Side) (g a : Form) → Dec (Dominated s g a)
dominated_dec s g a = go (find (λ b. ¬ (b ≡ a) × AsGood s b a) (λ b. both (form_dec b a) (good_dec s b a)) (options s g))
  where
    both : {b : Form} → Dec (b ≡ a) → Dec (AsGood s b a) → Dec (¬ (b ≡ a) × AsGood s b a)
    both (yes e) d = no (λ p. p.0 e)
    both (no f) (yes p) = yes (f, p)
    both (no f) (no q) = no (λ p. q p.1)

    go : ((b : Form) × (b ∈ options s g) × (¬ (b ≡ a) × AsGood s b a)) ⊎ ((b : Form) → b ∈ options s g → ¬ (¬ (b ≡ a) × AsGood s b a)) → Dec (Dominated s g a)
    go (inl (b, m, p)) = yes (record { other_one = b; is_option = m; is_another = p.0; as_good = p.1 })
    go (inr f) = no (λ d. f d.other_one d.is_option (d.is_another, d.as_good))

abbrev pub reversible_dec : (s : Side) (g a : Form) → Dec (Reversible s g a)
reversible_dec s g a = go (find (λ b. AsGood s g b) (λ b. good_dec s g b) (options (other s) a))
  where
    go : ((b : Form) × (b ∈ options (other s) a) × AsGood s g b) ⊎ ((b : Form) → b ∈ options (other s) a → ¬ AsGood s g b) → Dec (Reversible s g a)
    go (inl (b, m, p)) = yes (record { reply = b; is_reply = m; as_good = p })
    go (inr f) = no (λ r. f r.reply r.is_reply r.as_good)

-- other options of a smaller size make a smaller form
abbrev pub with_small : (s : Side) (g : Form) (xs : Forms) → sizes xs < sizes (options s g) → size (with_options s xs g) < size g
with_small s g xs k =
    let a = size_sides s g in
    let b = size_sides s (with_options s xs g) in
    let c = ap sizes (with_side s xs g) in
    let d = ap sizes (with_other s xs g) in
    omega arith

-- a dominated option goes
abbrev pub drop : (s : Side) (g a : Form) → a ∈ options s g → Dominated s g a → Smaller g
drop s g a m d =
    let (pre, post, e) = ∈_place m in
    let n = ∈_without pre post (rw e at d.is_option) d.is_another in
    let k = size_pos a in
    let x = ap sizes e in
    let y = sizes_⧺ pre (a & post) in
    let z = sizes_⧺ pre post in
    record { it = with_options s (pre ⧺ post) g; same_value = drop_≈ s g a pre post e d.other_one n d.as_good; small = with_small s g (pre ⧺ post) (omega arith) }

-- a reversible option is bypassed
abbrev pub bypass : (s : Side) (g a : Form) → a ∈ options s g → Reversible s g a → Smaller g
bypass s g a m r =
    let (pre, post, e) = ∈_place m in
    let b = r.reply in
    let new = pre ⧺ (options s b ⧺ post) in
    let k = option_size (other s) a r.is_reply in
    let l = size_sides s b in
    let x = ap sizes e in
    let y = sizes_⧺ pre (a & post) in
    let z = sizes_⧺ pre (options s b ⧺ post) in
    let w = sizes_⧺ (options s b) post in
    record { it = with_options s new g; same_value = bypass_≈ s g a pre post e b r.is_reply r.as_good; small = with_small s g new (omega arith) }

-- no option of g is dominated or reversible
pub record Settled (g : Form) : Type 0 where
  pub undominated : (s : Side) (a : Form) → a ∈ options s g → ¬ Dominated s g a
  pub irreversible : (s : Side) (a : Form) → a ∈ options s g → ¬ Reversible s g a

-- a form can be made smaller, or is settled
abbrev pub look : (g : Form) → Smaller g ⊎ Settled g
look g = go (dom Left) (dom Right) (rev Left) (rev Right)
  where
    Dom : Side → Type 0
    Dom s = ((a : Form) × (a ∈ options s g) × Dominated s g a) ⊎ ((a : Form) → a ∈ options s g → ¬ Dominated s g a)

    Rev : Side → Type 0
    Rev s = ((a : Form) × (a ∈ options s g) × Reversible s g a) ⊎ ((a : Form) → a ∈ options s g → ¬ Reversible s g a)

    dom : (s : Side) → Dom s
    dom s = find (λ a. Dominated s g a) (λ a. dominated_dec s g a) (options s g)

    rev : (s : Side) → Rev s
    rev s = find (λ a. Reversible s g a) (λ a. reversible_dec s g a) (options s g)

    go : Dom Left → Dom Right → Rev Left → Rev Right → Smaller g ⊎ Settled g
    go (inl (a, m, d)) q r t = inl (drop Left g a m d)
    go (inr p) (inl (a, m, d)) r t = inl (drop Right g a m d)
    go (inr p) (inr q) (inl (a, m, d)) t = inl (bypass Left g a m d)
    go (inr p) (inr q) (inr r) (inl (a, m, d)) = inl (bypass Right g a m d)
    go (inr p) (inr q) (inr r) (inr t) = inr (record { undominated = elim [ Left ↦ p | Right ↦ q ]; irreversible = elim [ Left ↦ r | Right ↦ t ] })

-- a settled form with canonical options is canonical once its lists are sorted
abbrev pub settle : (g : Form) → Settled g → ((s : Side) (a : Form) → a ∈ options s g → Canonical a) → Found g
settle (form ls rs) w f = go (sort ls) (sort rs)
  where
    go : Sorted ls → Sorted rs → Found (form ls rs)
    go p q = record { it = c; is_canonical = canonical clean (λ s a m. f s a (back s a m)); same_value = same; small = let a = p.small in let b = q.small in omega arith }
      where
        c : Form
        c = form p.list q.list

        into : (s : Side) → options s (form ls rs) ⊆ options s c
        into Left = p.into
        into Right = q.into

        back : (s : Side) → options s c ⊆ options s (form ls rs)
        back Left = p.back
        back Right = q.back

        same : form ls rs ≈ c
        same = same_≈ (form ls rs) c into back

        rising : (s : Side) → Rising (options s c)
        rising Left = p.rising
        rising Right = q.rising

        clean : Clean c
        clean = record {
          rising = rising;
          undominated = λ s a m d. w.undominated s a (back s a m) (record { other_one = d.other_one; is_option = back s d.other_one d.is_option; is_another = d.is_another; as_good = d.as_good });
          irreversible = λ s a m r. w.irreversible s a (back s a m) (record { reply = r.reply; is_reply = r.is_reply; as_good = good_trans (≈_good s same) r.as_good });
        }

-- a list of canonical forms in place of a list of forms
pub record FoundAll (xs : Forms) : Type 0 where
  pub list : Forms
  pub are_canonical : (y : Form) → y ∈ list → Canonical y
  pub to : Alike xs list
  pub from : Alike list xs
  pub small : sizes list ≤ sizes xs

abbrev pub all : (n : ℕ) → ((g : Form) → size g ≤ n → Found g) → (xs : Forms) → sizes xs ≤ n → FoundAll xs
all n rec ∅ k = record { list = ∅; are_canonical = λ y m. elim m [ ]; to = λ y m. elim m [ ]; from = λ y m. elim m [ ]; small = omega arith }
all n rec (x & xs) k = go (rec x (omega arith)) (all n rec xs (omega arith))
  where
    go : Found x → FoundAll xs → FoundAll (x & xs)
    go p q = record { list = p.it & q.list; are_canonical = are; to = to; from = from; small = let a = p.small in let b = q.small in omega arith }
      where
        are : (y : Form) → y ∈ (p.it & q.list) → Canonical y
        are y here = p.is_canonical
        are y (there m) = q.are_canonical y m

        to : Alike (x & xs) (p.it & q.list)
        to y here = (p.it, here, ≈_sym p.same_value)
        to y (there m) = let (z, i, e) = q.to y m in (z, there i, e)

        from : Alike (p.it & q.list) (x & xs)
        from y here = (x, here, p.same_value)
        from y (there m) = let (z, i, e) = q.from y m in (z, there i, e)

-- what is found for a form of the same value and no larger
abbrev pub found_for : {g h : Form} → g ≈ h → size h ≤ size g → Found h → Found g
found_for e k f = record { it = f.it; is_canonical = f.is_canonical; same_value = ≈_trans e f.same_value; small = let a = f.small in omega arith }

abbrev pub step : (n : ℕ) → ((g : Form) → size g ≤ n → Found g) → (g : Form) → size g ≤ suc n → Found g
step n rec (form ls rs) k = go (all n rec ls (omega arith)) (all n rec rs (omega arith))
  where
    go : FoundAll ls → FoundAll rs → Found (form ls rs)
    go p q = found_for same (let a = p.small in let b = q.small in omega arith) (next (look h))
      where
        h : Form
        h = form p.list q.list

        to : (s : Side) → Alike (options s (form ls rs)) (options s h)
        to Left = p.to
        to Right = q.to

        from : (s : Side) → Alike (options s h) (options s (form ls rs))
        from Left = p.from
        from Right = q.from

        same : form ls rs ≈ h
        same = replace_≈ (form ls rs) h to from

        are : (s : Side) (a : Form) → a ∈ options s h → Canonical a
        are Left = p.are_canonical
        are Right = q.are_canonical

        next : Smaller h ⊎ Settled h → Found h
        next (inl t) = found_for t.same_value (let b = t.small in omega arith) (rec t.it (omega arith))
        next (inr w) = settle h w are

abbrev pub found_in : (n : ℕ) (g : Form) → size g ≤ n → Found g
found_in zero g k = let p = size_pos g in absurd (omega arith)
found_in (suc n) g k = step n (found_in n) g k

abbrev pub found : (g : Form) → Found g
found g = found_in (size g) g (omega arith)

-- the canonical form of g; it computes, since every step above is an `abbrev` (proofs/Examples)
abbrev pub canon : Form → Form
canon g = (found g).it
