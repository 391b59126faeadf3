-- A seal has exactly one outcome.
-- Assumes nothing.
use Rattle.std.proofs.Common.{◌≡◌, ℕ, zero, suc, ◌<◌, ◌≤◌, ◌⊎◌, List, [], ◌∷◌, ◌++◌, length, sym, refl, ap, subst, ap₂, inl, inr, arith}
use native.Mathlib.Decide.{dec_lt, dec_le}
use Rattle.std.specs.List.{AllByRecursion}
use Rattle.games.specs.declared.side.Side.{Side}
use Rattle.games.specs.declared.side.Side.TheVariants.{Left, Right}
use Rattle.games.specs.Form.{Form, form, lefts, rights, ◌∈◌}
use Rattle.games.specs.Order.{◌≥◌, ◌≈◌}
use Rattle.games.specs.Sides.{options}
use Rattle.games.specs.Numbered.{Lists, each, form_by}
use Rattle.games.proofs.Order.{≥_dec, ≈_sym, ≈_trans}
use Rattle.games.proofs.Exists.{found as canonical_of}
use Rattle.games.proofs.Unique.{unique}
use Rattle.calls.specs.Rows.{Rows, node, Below}
use Rattle.calls.specs.Answers.{Answer, told, refused}
use Rattle.calls.specs.Sealing.{CanonicalFormOf, count, Narrow, New, Seals, found, added, too_wide, no_place}
use Rattle.calls.specs.Sound.{Sound}
use Rattle.calls.proofs.Sealing.{≡_≈, Node}
use Rattle.calls.proofs.Inside.{Is, inside, Numbers, numbers}

≈_dec : (g h : Form) → Dec (g ≈ h)
≈_dec g h = go (≥_dec g h) (≥_dec h g)
  where
    go : Dec (g ≥ h) → Dec (h ≥ g) → Dec (g ≈ h)
    go (yes p) (yes q) = yes (record { above = p; below = q })
    go (yes p) (no f) = no (λ e. f e.below)
    go (no f) q = no (λ e. f e.above)

narrow_dec : (h : Form) → Dec (Narrow h)
narrow_dec h = go (dec_le (count (lefts h)) 16) (dec_le (count (rights h)) 16)
  where
    go : Dec (count (lefts h) ≤ 16) → Dec (count (rights h) ≤ 16) → Dec (Narrow h)
    go (yes p) (yes q) = yes (record { on_left = p; on_right = q })
    go (yes p) (no f) = no (λ n. f n.on_right)
    go (no f) q = no (λ n. f n.on_left)

-- a node that equals g, or None
look : (rows : Rows) (g : Form) (k : ℕ) → k ≤ length rows → Node rows g ⊎ ((n : ℕ) → n < k → ¬ (node rows n ≈ g))
look rows g zero l = inr (λ n i e. omega arith)
look rows g (suc k) l = go (look rows g k (omega arith)) (≈_dec (node rows k) g)
  where
    go : Node rows g ⊎ ((n : ℕ) → n < k → ¬ (node rows n ≈ g)) → Dec (node rows k ≈ g) → Node rows g ⊎ ((n : ℕ) → n < suc k → ¬ (node rows n ≈ g))
    go (inl x) d = inl x
    go (inr f) (yes e) = inl (record { at = k; inside = omega arith; equals = e })
    go (inr f) (no d) = inr (λ n i e. elim (dec_lt n k) [
      | yes j ↦ f n j e
      | no h ↦ let same : n ≡ k = omega arith in d (rw same at e)
    ])

pub record SealOutcome (c : ℕ) (rows : Rows) (g : Form) : Type 0 where
  pub answer : Answer ℕ
  pub after : Rows
  pub holds : Seals c rows g answer after

-- there is an outcome, if the options of g equal nodes
pub seals_total : (c : ℕ) (rows : Rows) (g : Form) → Sound rows → ((s : Side) (x : Form) → x ∈ options s g → Node rows x) → SealOutcome c rows g
seals_total c rows g s known = go (look rows g (length rows) (omega arith))
  where
    h : Form
    h = (canonical_of g).it

    of : CanonicalFormOf g h
    of = record { is_canonical = (canonical_of g).is_canonical; same_value = ≈_sym (canonical_of g).same_value }

    is : (s : Side) (x : Form) → x ∈ options s h → Is rows x
    is = inside rows s h g of.is_canonical of.same_value known

    ls : Numbers rows (lefts h)
    ls = numbers rows (lefts h) (is Left)

    rs : Numbers rows (rights h)
    rs = numbers rows (rights h) (is Right)

    r : Lists
    r = record { left = ls.list; right = rs.list }

    row_form : (x : Form) → each (node rows) ls.list ≡ lefts x → each (node rows) rs.list ≡ rights x → form_by (node rows) r ≡ x
    row_form (form a b) p q = ap₂ form p q

    e : form_by (node rows) r ≡ h
    e = row_form h ls.stand_for rs.stand_for

    new_one : New rows g → Dec (Narrow h) → Dec (length rows < c) → SealOutcome c rows g
    new_one n (no w) d = record { answer = refused 2; after = rows; holds = too_wide n h of w }
    new_one n (yes w) (no f) = record { answer = refused 3; after = rows; holds = no_place n h of w (omega arith) }
    new_one n (yes w) (yes k) = record {
      answer = told (length rows);
      after = rows ++ r ∷ [];
      holds = added n r (record { on_left = ls.below; on_right = rs.below }) (subst (CanonicalFormOf g) (sym e) of) (subst Narrow (sym e) w) k;
    }

    go : Node rows g ⊎ New rows g → SealOutcome c rows g
    go (inl k) = record { answer = told k.at; after = rows; holds = found k.at k.inside k.equals }
    go (inr n) = new_one n (narrow_dec h) (dec_lt (length rows) c)

-- and no other
one_form : {g h k : Form} → CanonicalFormOf g h → CanonicalFormOf g k → h ≡ k
one_form x y = unique x.is_canonical y.is_canonical (≈_trans x.same_value (≈_sym y.same_value))

same_numbers : (rows : Rows) → Sound rows → (ns ms : List ℕ) → AllByRecursion (λ m. m < length rows) ns → AllByRecursion (λ m. m < length rows) ms → each (node rows) ns ≡ each (node rows) ms → ns ≡ ms
same_numbers rows s [] [] a b e = refl
same_numbers rows s [] (m ∷ ms) a b e = let z : ◌≡◌ {A = ℕ} 0 1 = cc in absurd (omega arith)
same_numbers rows s (n ∷ ns) [] a b e = let z : ◌≡◌ {A = ℕ} 0 1 = cc in absurd (omega arith)
same_numbers rows s (n ∷ ns) (m ∷ ms) a b e =
    let p : node rows n ≡ node rows m = cc in
    let q : each (node rows) ns ≡ each (node rows) ms = cc in
    ap₂ ◌∷◌ (s.unlike n m a.0 b.0 (≡_≈ p)) (same_numbers rows s ns ms a.1 b.1 q)

pub same_row : (rows : Rows) → Sound rows → (r q : Lists) → Below (length rows) r → Below (length rows) q → form_by (node rows) r ≡ form_by (node rows) q → r ≡ q
same_row rows s r q a b e =
    let x : each (node rows) r.left ≡ each (node rows) q.left = cc in
    let y : each (node rows) r.right ≡ each (node rows) q.right = cc in
    ap₂ (λ l m. record { left = l; right = m }) (same_numbers rows s r.left q.left a.on_left b.on_left x) (same_numbers rows s r.right q.right a.on_right b.on_right y)

pub seals_one : {c : ℕ} {rows b d : Rows} {g : Form} {r q : Answer ℕ} → Sound rows → Seals c rows g r b → Seals c rows g q d → (r ≡ q) × (b ≡ d)
seals_one s (found n k e) (found m l f) = (ap told (s.unlike n m k l (≈_trans e (≈_sym f))), refl)
seals_one s (found n k e) (added new r b f w l) = absurd (new n k e)
seals_one s (found n k e) (too_wide new h f w) = absurd (new n k e)
seals_one s (found n k e) (no_place new h f w l) = absurd (new n k e)
seals_one s (added new r b f w l) (found n k e) = absurd (new n k e)
seals_one {rows = rows} s (added new r b f w l) (added new' r' b' f' w' l') = (refl, ap (λ x. rows ++ x ∷ []) (same_row rows s r r' b b' (one_form f f')))
seals_one s (added new r b f w l) (too_wide new' h f' w') = absurd (w' (subst Narrow (one_form f f') w))
seals_one s (added new r b f w l) (no_place new' h f' w' l') = absurd (omega arith)
seals_one s (too_wide new h f w) (found n k e) = absurd (new n k e)
seals_one s (too_wide new h f w) (added new' r b f' w' l) = absurd (w (subst Narrow (one_form f' f) w'))
seals_one s (too_wide new h f w) (too_wide new' h' f' w') = (refl, refl)
seals_one s (too_wide new h f w) (no_place new' h' f' w' l) = absurd (w (subst Narrow (one_form f' f) w'))
seals_one s (no_place new h f w l) (found n k e) = absurd (new n k e)
seals_one s (no_place new h f w l) (added new' r b f' w' l') = absurd (omega arith)
seals_one s (no_place new h f w l) (too_wide new' h' f' w') = absurd (w' (subst Narrow (one_form f f') w))
seals_one s (no_place new h f w l) (no_place new' h' f' w' l') = (refl, refl)
