-- Look-up in a frozen dictionary has exactly one outcome, and finds the nodes.
-- Assumes nothing.
use Rattle.std.proofs.Common.{◌≡◌, ℕ, zero, suc, ◌<◌, ◌≤◌, ◌⊎◌, List, [], ◌∷◌, ◌++◌, length, get_or, sym, refl, ap, ◌∙◌, subst, ap₂, inl, inr, arith}
use native.Mathlib.Decide.{dec_lt}
use Rattle.std.specs.List.{AllByRecursion}
use Rattle.games.specs.Form.{Form}
use Rattle.games.specs.Text.{bytes}
use Rattle.games.proofs.Text.{bytes_injective}
use Rattle.games.proofs.Listing.{form_dec}
use Rattle.calls.specs.Rows.{Rows, node, ◌among◌, first, later}
use Rattle.calls.specs.Answers.{Answer, told, refused_at}
use Rattle.calls.specs.Entering.{parts}
use Rattle.calls.specs.Texts.{Written, closings}
use Rattle.calls.specs.Reading.{Stands, Listed, LooksUp}
use Rattle.calls.specs.Sound.{Sound}
use Rattle.calls.specs.Laws.{LookUpFindsTheNodes}
use Rattle.calls.specs.Outcomes.{ExactlyOne, LookingUpHasOneOutcome}
use Rattle.calls.proofs.Sealing.{≡_≈}
use Rattle.calls.proofs.Entering.{among_back, parts_listed}
use Rattle.calls.proofs.Again.{parts_end}
use Rattle.calls.proofs.Texts.{no_fault, fault_one, Verdict, verdict}

-- whether a form is a node's, as written
listed_in : (rows : Rows) (g : Form) (k : ℕ) → k ≤ length rows → Listed rows g ⊎ ((n : ℕ) → n < k → ¬ (node rows n ≡ g))
listed_in rows g zero l = inr (λ n i e. omega arith)
listed_in rows g (suc k) l = go (listed_in rows g k (omega arith)) (form_dec (node rows k) g)
  where
    go : Listed rows g ⊎ ((n : ℕ) → n < k → ¬ (node rows n ≡ g)) → Dec (node rows k ≡ g) → Listed rows g ⊎ ((n : ℕ) → n < suc k → ¬ (node rows n ≡ g))
    go (inl x) d = inl x
    go (inr f) (yes e) = inl (record { at = k; stands = record { inside = omega arith; as_written = e } })
    go (inr f) (no d) = inr (λ n i e. elim (dec_lt n k) [
      | yes j ↦ f n j e
      | no h ↦ let same : n ≡ k = omega arith in d (rw same at e)
    ])

listed_dec : (rows : Rows) (g : Form) → Dec (Listed rows g)
listed_dec rows g = elim (listed_in rows g (length rows) (omega arith)) [ inl x ↦ yes x | inr f ↦ no (λ y. f y.at y.stands.inside y.stands.as_written) ]

-- the first form of a list that is no node's
pub record Missing (rows : Rows) (gs : List Form) : Type 0 where
  pub it : Form
  pub before : List Form
  pub behind : List Form
  pub split : gs ≡ before ++ it ∷ behind
  pub others : AllByRecursion (Listed rows) before
  pub not_listed : ¬ Listed rows it

walk : (rows : Rows) (gs : List Form) → AllByRecursion (Listed rows) gs ⊎ Missing rows gs
walk rows [] = inl tt
walk rows (g ∷ gs) = go (listed_dec rows g) (walk rows gs)
  where
    go : Dec (Listed rows g) → AllByRecursion (Listed rows) gs ⊎ Missing rows gs → AllByRecursion (Listed rows) (g ∷ gs) ⊎ Missing rows (g ∷ gs)
    go (no f) r = inr (record { it = g; before = []; behind = gs; split = refl; others = tt; not_listed = f })
    go (yes x) (inl a) = inl (x, a)
    go (yes x) (inr m) = inr (record { it = m.it; before = g ∷ m.before; behind = m.behind; split = ap (λ l. g ∷ l) m.split; others = (x, m.others); not_listed = m.not_listed })

all_among : {rows : Rows} (gs : List Form) {x : Form} → AllByRecursion (Listed rows) gs → x among gs → Listed rows x
all_among [] a m = elim m [ ]
all_among (g ∷ gs) a first = a.0
all_among (g ∷ gs) a (later m) = all_among gs a.1 m

last : (g : Form) → g among parts g
last g = let (front, e) = parts_end g in rw e (among_back front (g ∷ []) first)

same_place : {rows : Rows} (a b c d : List Form) (g h : Form) → a ++ g ∷ b ≡ c ++ h ∷ d → AllByRecursion (Listed rows) a → AllByRecursion (Listed rows) c → ¬ Listed rows g → ¬ Listed rows h → length a ≡ length c
same_place [] b [] d g h e x y n m = refl
same_place {rows} [] b (k ∷ c) d g h e x y n m = let same : k ≡ g = cc in absurd (n (subst (Listed rows) same y.0))
same_place {rows} (k ∷ a) b [] d g h e x y n m = let same : k ≡ h = cc in absurd (m (subst (Listed rows) same x.0))
same_place (k ∷ a) b (l ∷ c) d g h e x y n m = let rest : a ++ g ∷ b ≡ c ++ h ∷ d = cc in ap suc (same_place a b c d g h rest x.1 y.1 n m)

one_form : {t : List ℕ} {g h : Form} → Written t g → Written t h → g ≡ h
one_form {g = g} {h = h} v w = bytes_injective g h (v.by_form ∙ sym w.by_form)

-- a part of a form that stands is listed, so none is missing
not_both : {rows : Rows} {g k h : Form} {n : ℕ} (before behind : List Form) → Sound rows → Stands rows g n → g ≡ k → parts k ≡ before ++ h ∷ behind → ¬ Listed rows h → ⊥
not_both {rows} {g} {k} {h} {n} before behind s x same e f =
    f (parts_listed k rows s n x.inside (x.as_written ∙ same) h (rw e (among_back before (h ∷ behind) first)))

looks_one : {rows : Rows} {t : List ℕ} {a b : Answer ℕ} → Sound rows → LooksUp rows t a → LooksUp rows t b → a ≡ b
looks_one s (LooksUp.faulty f) (LooksUp.faulty h) = let (p, q) = fault_one f h in ap₂ refused_at p q
looks_one s (LooksUp.faulty f) (LooksUp.listed g n w x) = absurd (no_fault g w f)
looks_one s (LooksUp.faulty f) (LooksUp.missing g h b d w e o m) = absurd (no_fault g w f)
looks_one s (LooksUp.listed g n w x) (LooksUp.faulty f) = absurd (no_fault g w f)
looks_one s (LooksUp.listed g n w x) (LooksUp.listed k m v y) =
    ap told (s.unlike n m x.inside y.inside (≡_≈ (x.as_written ∙ (one_form w v ∙ sym y.as_written))))
looks_one s (LooksUp.listed g n w x) (LooksUp.missing k h b d v e o m) = absurd (not_both b d s x (one_form w v) e m)
looks_one s (LooksUp.missing g h b d w e o m) (LooksUp.faulty f) = absurd (no_fault g w f)
looks_one s (LooksUp.missing g h b d w e o m) (LooksUp.listed k n v x) = absurd (not_both b d s x (one_form v w) e m)
looks_one {t = t} s (LooksUp.missing g h b d w e o m) (LooksUp.missing k j a c v f q l) =
    ap (λ i. refused_at 9 (get_or (closings 0 t) i 0)) (same_place b d a c h j (sym e ∙ (ap parts (one_form w v) ∙ f)) o q m l)

pub looking_up_has_one_outcome : LookingUpHasOneOutcome
looking_up_has_one_outcome rows t s = go (verdict t)
  where
    one : (a : Answer ℕ) → LooksUp rows t a → ExactlyOne (λ (a : Answer ℕ). LooksUp rows t a)
    one a x = record { it = a; has = x; only = λ b y. looks_one s y x }

    found : (g : Form) → Written t g → AllByRecursion (Listed rows) (parts g) ⊎ Missing rows (parts g) → ExactlyOne (λ (a : Answer ℕ). LooksUp rows t a)
    found g w (inl a) = let y = all_among (parts g) a (last g) in one (told y.at) (LooksUp.listed g y.at w y.stands)
    found g w (inr m) = one _ (LooksUp.missing g m.it m.before m.behind w m.split m.others m.not_listed)

    go : Verdict t → ExactlyOne (λ (a : Answer ℕ). LooksUp rows t a)
    go (inl (g, w)) = found g w (walk rows (parts g))
    go (inr (f, place, x)) = one (refused_at f place) (LooksUp.faulty x)

found_node : {rows : Rows} {t : List ℕ} {n : ℕ} → LooksUp rows t (told n) → (n < length rows) × (bytes (node rows n) ≡ t)
found_node (LooksUp.listed g n w x) = (x.inside, ap bytes x.as_written ∙ w.by_form)

pub look_up_finds_the_nodes : LookUpFindsTheNodes
look_up_finds_the_nodes rows t n s = (
  found_node,
  λ x. LooksUp.listed (node rows n) n (record { by_form = x.1; shallow = s }) (record { inside = x.0; as_written = refl }),
)
