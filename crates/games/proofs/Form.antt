-- Facts on forms and lists of forms: membership, append, size.
-- Assumes nothing.
use Rattle.std.proofs.Common.{◌≡◌, ◌+◌, ◌<◌, ◌≤◌, Bool, T, ◌⊎◌, refl, ap, inl, inr, arith}
use Rattle.games.proofs.Bools.{or_left, or_right, or_either}
use Rattle.games.specs.Form.{Form, Forms, form, ∅, ◌&◌, lefts, rights, ◌∈◌, here, there, ◌⧺◌, any, size, sizes}

infix 40 ◌⊆◌
-- every form of xs stands in ys
abbrev pub ◌⊆◌ : Forms → Forms → Type 0
xs ⊆ ys = (x : Form) → x ∈ xs → x ∈ ys

-- size
pub size_pos : (g : Form) → 1 ≤ size g
size_pos (form ls rs) = omega arith

pub size_∈ : {x : Form} {xs : Forms} → x ∈ xs → size x ≤ sizes xs
size_∈ here = omega arith
size_∈ (there m) = let k = size_∈ m in omega arith

pub size_left : (g : Form) {l : Form} → l ∈ lefts g → size l < size g
size_left (form ls rs) m = let k = size_∈ m in omega arith

pub size_right : (g : Form) {r : Form} → r ∈ rights g → size r < size g
size_right (form ls rs) m = let k = size_∈ m in omega arith

-- what holds of the first and of the others holds of all
pub ∈_cases : (P : Form → Type 0) {x : Form} {xs : Forms} → P x → ((y : Form) → y ∈ xs → P y) → (y : Form) → y ∈ (x & xs) → P y
∈_cases P p f y here = p
∈_cases P p f y (there m) = f y m

-- append
pub ∈_front : {x : Form} {xs : Forms} (ys : Forms) → x ∈ xs → x ∈ (xs ⧺ ys)
∈_front ys here = here
∈_front ys (there m) = there (∈_front ys m)

pub ∈_back : {x : Form} (xs : Forms) {ys : Forms} → x ∈ ys → x ∈ (xs ⧺ ys)
∈_back ∅ m = m
∈_back (y & xs) m = there (∈_back xs m)

pub ∈_split : {x : Form} (xs ys : Forms) → x ∈ (xs ⧺ ys) → (x ∈ xs) ⊎ (x ∈ ys)
∈_split ∅ ys m = inr m
∈_split (y & xs) ys here = inl here
∈_split (y & xs) ys (there m) = elim (∈_split xs ys m) [ inl a ↦ inl (there a) | inr b ↦ inr b ]

-- a test over a list
pub any_cong : (p q : Form → Bool) (xs : Forms) → ((x : Form) → x ∈ xs → p x ≡ q x) → any p xs ≡ any q xs
any_cong p q ∅ e = refl
any_cong p q (x & xs) e =
    let a = e x here in
    let b = any_cong p q xs (λ y m. e y (there m)) in
    cc

pub any_at : (p : Form → Bool) {x : Form} {xs : Forms} → x ∈ xs → T (p x) → T (any p xs)
any_at p {x} (here {xs = xs}) t = or_left (p x) (any p xs) t
any_at p (there {y = y} {xs = xs} m) t = or_right (p y) (any p xs) (any_at p m t)

pub any_some : (p : Form → Bool) (xs : Forms) → T (any p xs) → (x : Form) × (x ∈ xs) × T (p x)
any_some p ∅ t = absurd t
any_some p (x & xs) t =
    elim (or_either (p x) (any p xs) t) [
      | inl a ↦ (x, here, a)
      | inr b ↦ let (y, m, k) = any_some p xs b in (y, there m, k)
    ]

-- a decidable property: some form of the list has it, or none has
abbrev pub find : (P : Form → Type 0) → ((x : Form) → Dec (P x)) → (xs : Forms) → ((x : Form) × (x ∈ xs) × P x) ⊎ ((x : Form) → x ∈ xs → ¬ P x)
find P dec ∅ = inr (λ x m. elim m [ ])
find P dec (y & ys) = go (dec y) (find P dec ys)
  where
    none : ¬ P y → ((x : Form) → x ∈ ys → ¬ P x) → (x : Form) → x ∈ (y & ys) → ¬ P x
    none f g x here = f
    none f g x (there m) = g x m

    go : Dec (P y) → ((x : Form) × (x ∈ ys) × P x) ⊎ ((x : Form) → x ∈ ys → ¬ P x) → ((x : Form) × (x ∈ (y & ys)) × P x) ⊎ ((x : Form) → x ∈ (y & ys) → ¬ P x)
    go (yes p) r = inl (y, here, p)
    go (no f) (inl h) = inl (h.0, there h.1, h.2)
    go (no f) (inr g) = inr (none f g)

-- a member stands at a place
abbrev pub ∈_place : {x : Form} {xs : Forms} → x ∈ xs → (pre : Forms) × (post : Forms) × (xs ≡ pre ⧺ (x & post))
∈_place (here {xs = xs}) = (∅, xs, refl)
∈_place (there {y = y} m) = let (pre, post, e) = ∈_place m in (y & pre, post, ap (λ t. y & t) e)

-- a list without one of its places
pub ∈_without : {x a : Form} (pre post : Forms) → x ∈ (pre ⧺ (a & post)) → ¬ (x ≡ a) → x ∈ (pre ⧺ post)
∈_without ∅ post here d = absurd (d refl)
∈_without ∅ post (there m) d = m
∈_without (y & pre) post here d = here
∈_without (y & pre) post (there m) d = there (∈_without pre post m d)

pub sizes_⧺ : (xs ys : Forms) → sizes (xs ⧺ ys) ≡ sizes xs + sizes ys
sizes_⧺ ∅ ys = omega arith
sizes_⧺ (x & xs) ys = let k = sizes_⧺ xs ys in omega arith
