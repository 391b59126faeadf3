-- The listing order is a strict order, and two forms that it holds equal are the same.
-- Assumes nothing.
use Rattle.std.proofs.Common.{◌≡◌, ℕ, ◌⊎◌, Ordering, Less, Equal, Greater, sym, refl, ap, ◌∙◌, ap₂, inl, inr, arith}
use Rattle.games.specs.Form.{Form, Forms, form, ∅, ◌&◌, ◌∈◌, here, there}
use Rattle.games.specs.Listing.{or_else, listing, listings, ◌≺◌, Rising}
use Rattle.games.specs.Laws.{Placed, before, same, after}

less≢equal : {o : Ordering} → o ≡ Less → o ≡ Equal → ⊥
less≢equal p q = let z : ◌≡◌ {A = ℕ} 0 1 = cc in omega arith

or_else_less : (a b : Ordering) → or_else a b ≡ Less → (a ≡ Less) ⊎ ((a ≡ Equal) × (b ≡ Less))
or_else_less Less b e = inl refl
or_else_less Equal b e = inr (refl, e)
or_else_less Greater b e = inl e

or_else_equal : (a b : Ordering) → or_else a b ≡ Equal → (a ≡ Equal) × (b ≡ Equal)
or_else_equal Less b e = (e, cc)
or_else_equal Equal b e = (refl, e)
or_else_equal Greater b e = (e, cc)

-- the answer is Equal only at one and the same form
mutual
  pub listing_equal : (g h : Form) → listing g h ≡ Equal → g ≡ h
  listing_equal (form gl gr) (form hl hr) e =
      let (a, b) = or_else_equal (listings gl hl) (listings gr hr) e in
      ap₂ form (listings_equal gl hl a) (listings_equal gr hr b)

  pub listings_equal : (gs hs : Forms) → listings gs hs ≡ Equal → gs ≡ hs
  listings_equal ∅ ∅ e = refl
  listings_equal ∅ (h & hs) e = cc
  listings_equal (g & gs) ∅ e = cc
  listings_equal (g & gs) (h & hs) e =
      let (a, b) = or_else_equal (listing g h) (listings gs hs) e in
      ap₂ ◌&◌ (listing_equal g h a) (listings_equal gs hs b)

-- and there it is
mutual
  pub listing_self : (g : Form) → listing g g ≡ Equal
  listing_self (form ls rs) = rw (listings_self ls, listings_self rs)

  pub listings_self : (gs : Forms) → listings gs gs ≡ Equal
  listings_self ∅ = refl
  listings_self (g & gs) = rw (listing_self g, listings_self gs)

pub ≺_irrefl : {g : Form} → ¬ (g ≺ g)
≺_irrefl {g} p = less≢equal p.less (listing_self g)

-- transitivity: the one step, of three pairs that are compared by a first part and then by a second
lex_trans : (ac ce ae bd df bf : Ordering) → (ac ≡ Less → ce ≡ Less → ae ≡ Less) → (ac ≡ Equal → ae ≡ ce) → (ce ≡ Equal → ae ≡ ac)
    → (bd ≡ Less → df ≡ Less → bf ≡ Less) → or_else ac bd ≡ Less → or_else ce df ≡ Less → or_else ae bf ≡ Less
lex_trans Less Less ae bd df bf t u v w p q = rw (t refl refl)
lex_trans Less Equal ae bd df bf t u v w p q = rw (v refl)
lex_trans Less Greater ae bd df bf t u v w p q = cc
lex_trans Equal Less ae bd df bf t u v w p q = rw (u refl)
lex_trans Equal Equal ae bd df bf t u v w p q = rw (u refl) (w p q)
lex_trans Equal Greater ae bd df bf t u v w p q = cc
lex_trans Greater ce ae bd df bf t u v w p q = cc

mutual
  listing_trans : (x y z : Form) → listing x y ≡ Less → listing y z ≡ Less → listing x z ≡ Less
  listing_trans (form a b) (form c d) (form e f) p q =
      lex_trans (listings a c) (listings c e) (listings a e) (listings b d) (listings d f) (listings b f) (listings_trans a c e)
      (λ k. ap (λ t. listings t e) (listings_equal a c k)) (λ k. ap (listings a) (sym (listings_equal c e k))) (listings_trans b d f) p q

  listings_trans : (xs ys zs : Forms) → listings xs ys ≡ Less → listings ys zs ≡ Less → listings xs zs ≡ Less
  listings_trans ∅ ∅ zs p q = q
  listings_trans ∅ (y & ys) ∅ p q = cc
  listings_trans ∅ (y & ys) (z & zs) p q = refl
  listings_trans (x & xs) ∅ zs p q = cc
  listings_trans (x & xs) (y & ys) ∅ p q = q
  listings_trans (x & xs) (y & ys) (z & zs) p q =
      lex_trans (listing x y) (listing y z) (listing x z) (listings xs ys) (listings ys zs) (listings xs zs) (listing_trans x y z)
      (λ k. ap (λ t. listing t z) (listing_equal x y k)) (λ k. ap (listing x) (sym (listing_equal y z k))) (listings_trans xs ys zs) p q

pub ≺_trans : {x y z : Form} → x ≺ y → y ≺ z → x ≺ z
≺_trans {x} {y} {z} p q = record { less = listing_trans x y z p.less q.less }

-- the other way round the answer is turned
abbrev pub turn : Ordering → Ordering
turn Less = Greater
turn Equal = Equal
turn Greater = Less

turn_or_else : (a b : Ordering) → turn (or_else a b) ≡ or_else (turn a) (turn b)
turn_or_else Less b = refl
turn_or_else Equal b = refl
turn_or_else Greater b = refl

mutual
  pub listing_turn : (g h : Form) → listing h g ≡ turn (listing g h)
  listing_turn (form gl gr) (form hl hr) = ap₂ or_else (listings_turn gl hl) (listings_turn gr hr) ∙ sym (turn_or_else (listings gl hl) (listings gr hr))

  listings_turn : (gs hs : Forms) → listings hs gs ≡ turn (listings gs hs)
  listings_turn ∅ ∅ = refl
  listings_turn ∅ (h & hs) = refl
  listings_turn (g & gs) ∅ = refl
  listings_turn (g & gs) (h & hs) = ap₂ or_else (listing_turn g h) (listings_turn gs hs) ∙ sym (turn_or_else (listing g h) (listings gs hs))

-- of two forms one comes before the other, or they are the same
abbrev pub place : (g h : Form) → Placed g h
place g h = go (listing g h) refl
  where
    go : (o : Ordering) → listing g h ≡ o → Placed g h
    go Less e = before (record { less = e })
    go Equal e = same (listing_equal g h e)
    go Greater e = after (record { less = listing_turn g h ∙ ap turn e })

abbrev pub form_dec : (g h : Form) → Dec (g ≡ h)
form_dec g h = elim (place g h) [
  | before p ↦ no (λ e. ≺_irrefl (rw e at p))
  | same e ↦ yes e
  | after p ↦ no (λ e. ≺_irrefl (rw e at p))
]

-- a rising list: the first form comes before all others, and what follows rises
pub rising_tail : (x : Form) (xs : Forms) → Rising (x & xs) → Rising xs
rising_tail x ∅ r = tt
rising_tail x (y & ys) r = r.1

pub rising_first : {x y : Form} (xs : Forms) → Rising (x & xs) → y ∈ xs → x ≺ y
rising_first ∅ r m = elim m [ ]
rising_first (y & ys) r here = r.0
rising_first (z & ys) r (there m) = ≺_trans r.0 (rising_first ys r.1 m)

-- two rising lists with the same members are the same list
not_first : {x y : Form} (xs : Forms) → Rising (x & xs) → y ∈ xs → ¬ (x ≡ y)
not_first {x} xs r m e = ≺_irrefl (rw (← e) at (rising_first xs r m))

rest : {x y z : Form} {ys : Forms} → z ∈ (y & ys) → x ≡ y → ¬ (x ≡ z) → z ∈ ys
rest here e d = absurd (d e)
rest (there m) e d = m

heads : {x y : Form} (xs ys : Forms) → Rising (x & xs) → Rising (y & ys) → x ∈ (y & ys) → y ∈ (x & xs) → x ≡ y
heads xs ys r s here n = refl
heads xs ys r s (there m) here = refl
heads xs ys r s (there m) (there n) = absurd (≺_irrefl (≺_trans (rising_first xs r n) (rising_first ys s m)))

pub rising_same : (xs ys : Forms) → Rising xs → Rising ys → ((z : Form) → z ∈ xs → z ∈ ys) → ((z : Form) → z ∈ ys → z ∈ xs) → xs ≡ ys
rising_same ∅ ∅ r s a b = refl
rising_same ∅ (y & ys) r s a b = elim (b y here) [ ]
rising_same (x & xs) ∅ r s a b = elim (a x here) [ ]
rising_same (x & xs) (y & ys) r s a b =
    let e : x ≡ y = heads xs ys r s (a x here) (b y here) in
    let f : xs ≡ ys = rising_same xs ys (rising_tail x xs r) (rising_tail y ys s) (λ z m. rest (a z (there m)) e (not_first xs r m)) (λ z m. rest (b z (there m)) (sym e) (not_first ys s m)) in
    ap₂ ◌&◌ e f
