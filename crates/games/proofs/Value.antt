-- What keeps a form's value: equal options, a dominated option removed, a reversible one bypassed. Left and Right at once.
-- Assumes nothing.
use Rattle.std.proofs.Common.{◌≡◌, ◌⊎◌, sym, refl, inl, inr}
use Rattle.games.specs.Form.{Form, Forms, ◌&◌, ◌∈◌, here, there, ◌⧺◌}
use Rattle.games.specs.Order.{◌≈◌}
use Rattle.games.specs.Sides.{Side, Left, Right, other, options, with_options}
use Rattle.games.specs.Canon.{AsGood}
use Rattle.games.specs.Laws.{Alike}
use Rattle.games.proofs.Form.{◌⊆◌, ∈_front, ∈_back, ∈_split}
use Rattle.games.proofs.Order.{≈_refl, ≈_sym}
use Rattle.games.proofs.Sides.{good_make, good_reply, good_refl, good_trans, option_never, reply_never, ≈_good, good_≈, with_side, with_other}

-- each of xs is bettered by one of ys
abbrev pub Bettered : Side → Forms → Forms → Type 0
Bettered s xs ys = (x : Form) → x ∈ xs → (y : Form) × (y ∈ ys) × AsGood s y x

-- each of xs betters one of ys
abbrev pub Betters : Side → Forms → Forms → Type 0
Betters s xs ys = (x : Form) → x ∈ xs → (y : Form) × (y ∈ ys) × AsGood s x y

-- better options of its own and better ones of the other side make a form as good
pub options_good : (s : Side) (g h : Form) → Bettered s (options s h) (options s g) → Betters s (options (other s) g) (options (other s) h) → AsGood s g h
options_good s g h own others =
    good_make s g h (λ o m p. let (q, n, t) = others o m in reply_never s n (good_trans p t))
    (λ o m p. let (q, n, t) = own o m in option_never s n (good_trans t p))

pub alike_self : (xs : Forms) → Alike xs xs
alike_self xs x m = (x, m, ≈_refl x)

-- options replaced by equal ones keep the value
pub replace_≈ : (g h : Form) → ((s : Side) → Alike (options s g) (options s h)) → ((s : Side) → Alike (options s h) (options s g)) → g ≈ h
replace_≈ g h a b = good_≈ (as_good g h a b) (as_good h g b a)
  where
    as_good : (g h : Form) → ((s : Side) → Alike (options s g) (options s h)) → ((s : Side) → Alike (options s h) (options s g)) → AsGood Left g h
    as_good g h a b =
        options_good Left g h (λ x m. let (y, n, e) = b Left x m in (y, n, ≈_good Left e))
        (λ x m. let (y, n, e) = a Right x m in (y, n, ≈_good Left (≈_sym e)))

-- so only which options there are counts, and not their order or how often each stands
pub same_≈ : (g h : Form) → ((s : Side) → options s g ⊆ options s h) → ((s : Side) → options s h ⊆ options s g) → g ≈ h
same_≈ g h a b = replace_≈ g h (λ s x m. (x, a s x m, ≈_refl x)) (λ s x m. (x, b s x m, ≈_refl x))

module _ (s : Side) (g h : Form) (rest : options (other s) g ≡ options (other s) h) where
  pub to : options (other s) g ⊆ options (other s) h
  to x m = rw rest at m

  pub from : options (other s) h ⊆ options (other s) g
  from x m = rw (← rest) at m

  -- h lacks dominated options of g
  pub dominated_≈ : Bettered s (options s g) (options s h) → options s h ⊆ options s g → g ≈ h
  dominated_≈ own less =
      good_≈ (options_good s g h (λ x m. (x, less x m, good_refl s x)) (λ x m. (x, to x m, good_refl s x)))
      (options_good s h g own (λ x m. (x, from x m, good_refl s x)))

  -- h has the options of b in the place of a, an option of g that is reversible by b
  pub bypassed_≈ : (a b : Form) → b ∈ options (other s) a → AsGood s g b
      → ((o : Form) → o ∈ options s g → (a ≡ o) ⊎ (o ∈ options s h)) → ((o : Form) → o ∈ options s h → (o ∈ options s g) ⊎ (o ∈ options s b))
      → options s b ⊆ options s h → g ≈ h
  bypassed_≈ a b m p old new into = good_≈ (good_make s g h (λ o i. reply_never s (to o i)) not_new) (good_make s h g (λ o i. reply_never s (from o i)) not_old)
    where
      h_b : AsGood s h b
      h_b = good_make s h b (λ o i q. reply_never s (from o i) (good_trans p q)) (λ o i. option_never s (into o i))

      not_new : (o : Form) → o ∈ options s h → ¬ AsGood s o g
      not_new o i q = elim (new o i) [ inl j ↦ option_never s j q | inr j ↦ option_never s j (good_trans q p) ]

      not_old : (o : Form) → o ∈ options s g → ¬ AsGood s o h
      not_old o i q = elim (old o i) [ inl e ↦ good_reply s (rw (← e) at q) m h_b | inr j ↦ option_never s j q ]

-- the two at a place of the list: a stands after pre and before post
module _ (s : Side) (g a : Form) (pre post : Forms) (at : options s g ≡ pre ⧺ (a & post)) where
  -- a is dominated by b, and goes
  pub drop_≈ : (b : Form) → b ∈ (pre ⧺ post) → AsGood s b a → g ≈ with_options s (pre ⧺ post) g
  drop_≈ b m p = dominated_≈ s g (with_options s (pre ⧺ post) g) (sym (with_other s (pre ⧺ post) g))
      (λ x i. rw (with_side s (pre ⧺ post) g) (less x (rw at at i)))
      (λ x i. rw at (more x (rw (with_side s (pre ⧺ post) g) at i)))
    where
      more : (x : Form) → x ∈ (pre ⧺ post) → x ∈ (pre ⧺ (a & post))
      more x i = elim (∈_split pre post i) [ inl j ↦ ∈_front (a & post) j | inr j ↦ ∈_back pre (there j) ]

      tail : (x : Form) → x ∈ (a & post) → (y : Form) × (y ∈ (pre ⧺ post)) × AsGood s y x
      tail x here = (b, m, p)
      tail x (there j) = (x, ∈_back pre j, good_refl s x)

      less : Bettered s (pre ⧺ (a & post)) (pre ⧺ post)
      less x i = elim (∈_split pre (a & post) i) [ inl j ↦ (x, ∈_front post j, good_refl s x) | inr j ↦ tail x j ]

  -- a is reversible by b, and b's options take its place
  pub bypass_≈ : (b : Form) → b ∈ options (other s) a → AsGood s g b → g ≈ with_options s (pre ⧺ (options s b ⧺ post)) g
  bypass_≈ b m p = bypassed_≈ s g (with_options s new g) (sym (with_other s new g)) a b m p
      (λ o i. rw (with_side s new g) (old o (rw at at i)))
      (λ o i. rw at (back o (rw (with_side s new g) at i)))
      (λ o i. rw (with_side s new g) (∈_back pre (∈_front post i)))
    where
      new : Forms
      new = pre ⧺ (options s b ⧺ post)

      old' : (o : Form) → o ∈ (a & post) → (a ≡ o) ⊎ (o ∈ new)
      old' o here = inl refl
      old' o (there j) = inr (∈_back pre (∈_back (options s b) j))

      old : (o : Form) → o ∈ (pre ⧺ (a & post)) → (a ≡ o) ⊎ (o ∈ new)
      old o i = elim (∈_split pre (a & post) i) [ inl j ↦ inr (∈_front (options s b ⧺ post) j) | inr j ↦ old' o j ]

      back : (o : Form) → o ∈ new → (o ∈ (pre ⧺ (a & post))) ⊎ (o ∈ options s b)
      back o i = elim (∈_split pre (options s b ⧺ post) i) [
        | inl j ↦ inl (∈_front (a & post) j)
        | inr j ↦ elim (∈_split (options s b) post j) [ inl k ↦ inr k | inr k ↦ inl (∈_back pre (there k)) ]
      ]
