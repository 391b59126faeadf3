-- A seal keeps the rows sound, adds at the end only, and answers a node that equals the form sealed.
-- Assumes nothing.
use Rattle.std.proofs.Common.{◌≡◌, ℕ, ◌<◌, ◌≤◌, ◌⊎◌, [], ◌∷◌, ◌++◌, length, get_or, sym, refl, ap, ◌∙◌, inl, inr, append_assoc, append-nil, arith}
use native.Mathlib.Decide.{dec_lt}
use Rattle.std.proofs.lemmas.List.{length-append, get_or_append_left, get_or_push}
use Rattle.games.specs.Form.{Form}
use Rattle.games.specs.Order.{◌≈◌}
use Rattle.games.specs.Canon.{Canonical}
use Rattle.games.specs.Numbered.{Lists, form_by}
use Rattle.games.proofs.Order.{≈_refl, ≈_sym, ≈_trans}
use Rattle.calls.specs.Rows.{Rows, no_numbers, node, Below}
use Rattle.calls.specs.Answers.{Answer, told}
use Rattle.calls.specs.Sealing.{Narrow, New, Seals, found, added, too_wide, no_place}
use Rattle.calls.specs.Sound.{Sound}
use Rattle.calls.proofs.Rows.{node_old, node_new}

pub ≡_≈ : {g h : Form} → g ≡ h → g ≈ h
≡_≈ {h = h} e = rw e (≈_refl h)

-- the rows a, and more behind them
pub record Extends (a b : Rows) : Type 0 where
  pub rest : Rows
  pub is : b ≡ a ++ rest

pub extends_refl : (a : Rows) → Extends a a
extends_refl a = record { rest = []; is = sym (append-nil a) }

pub extends_trans : {a b d : Rows} → Extends a b → Extends b d → Extends a d
extends_trans {a} {b} {d} e f = record { rest = e.rest ++ f.rest; is = f.is ∙ (ap (λ t. t ++ f.rest) e.is ∙ append_assoc a e.rest f.rest) }

pub extends_length : {a b : Rows} → Extends a b → length a ≤ length b
extends_length {a} {b} e = let k = ap length e.is in let l = length-append a e.rest in omega arith

pub extends_node : {a b : Rows} (n : ℕ) → Extends a b → n < length a → node b n ≡ node a n
extends_node {a} {b} n e lt = ap (λ t. node t n) e.is ∙ node_old a e.rest n lt

-- a node that equals g
pub record Node (rows : Rows) (g : Form) : Type 0 where
  pub at : ℕ
  pub inside : at < length rows
  pub equals : node rows at ≈ g

abbrev pub extends_known : {a b : Rows} {g : Form} → Extends a b → Node a g → Node b g
extends_known e k = record { at = k.at; inside = let l = extends_length e in let m = k.inside in omega arith; equals = ≈_trans (≡_≈ (extends_node k.at e k.inside)) k.equals }

-- soundness
pub sound_empty : Sound []
sound_empty = record { lower = λ n k. absurd (omega arith); canonical = λ n k. absurd (omega arith); narrow = λ n k. absurd (omega arith); unlike = λ m n k. absurd (omega arith) }

old_or_new : (a : Rows) (r : Lists) (n : ℕ) → n < length (a ++ r ∷ []) → (n < length a) ⊎ (n ≡ length a)
old_or_new a r n k = let l = length-append a (r ∷ []) in elim (dec_lt n (length a)) [ yes p ↦ inl p | no f ↦ inr (omega arith) ]

sound_added : (a : Rows) (r : Lists) → Sound a → Below (length a) r → Canonical (form_by (node a) r) → Narrow (form_by (node a) r) → New a (form_by (node a) r) → Sound (a ++ r ∷ [])
sound_added a r s b c w new = record { lower = lower; canonical = can; narrow = nar; unlike = unlike }
  where
    b⁺ : Rows
    b⁺ = a ++ r ∷ []

    at_new : node b⁺ (length a) ≡ form_by (node a) r
    at_new = node_new a r

    old : (P : Form → Type 0) (n : ℕ) → n < length a → P (node a n) → P (node b⁺ n)
    old P n k p = rw (node_old a (r ∷ []) n k) p

    every : (P : Form → Type 0) → ((n : ℕ) → n < length a → P (node a n)) → P (form_by (node a) r) → (n : ℕ) → n < length b⁺ → P (node b⁺ n)
    every P f p n k = go (old_or_new a r n k)
      where
        go : (n < length a) ⊎ (n ≡ length a) → P (node b⁺ n)
        go (inl m) = rw (node_old a (r ∷ []) n m) (f n m)
        go (inr e) = rw (e, at_new) p

    lower : (n : ℕ) → n < length b⁺ → Below n (get_or b⁺ n no_numbers)
    lower n k = go (old_or_new a r n k)
      where
        go : (n < length a) ⊎ (n ≡ length a) → Below n (get_or b⁺ n no_numbers)
        go (inl m) = rw (get_or_append_left a (r ∷ []) no_numbers n m) (s.lower n m)
        go (inr e) = rw (get_or_push a r no_numbers n (sym e), e) b

    can : (n : ℕ) → n < length b⁺ → Canonical (node b⁺ n)
    can = every Canonical s.canonical c

    nar : (n : ℕ) → n < length b⁺ → Narrow (node b⁺ n)
    nar = every Narrow s.narrow w

    unlike : (m n : ℕ) → m < length b⁺ → n < length b⁺ → node b⁺ m ≈ node b⁺ n → m ≡ n
    unlike m n k l e = go (old_or_new a r m k) (old_or_new a r n l)
      where
        go : (m < length a) ⊎ (m ≡ length a) → (n < length a) ⊎ (n ≡ length a) → m ≡ n
        go (inl p) (inl q) = s.unlike m n p q (rw (node_old a (r ∷ []) m p, node_old a (r ∷ []) n q) at e)
        go (inl p) (inr q) = absurd (new m p (rw (node_old a (r ∷ []) m p, q, at_new) at e))
        go (inr p) (inl q) = absurd (new n q (≈_sym (rw (node_old a (r ∷ []) n q, p, at_new) at e)))
        go (inr p) (inr q) = p ∙ sym q

pub seals_sound : {c : ℕ} {a b : Rows} {g : Form} {r : Answer ℕ} → Sound a → Seals c a g r b → Sound b
seals_sound s (found n k e) = s
seals_sound {a = a} s (added new r b c w k) = sound_added a r s b c.is_canonical w (λ n l e. new n l (≈_trans e c.same_value))
seals_sound s (too_wide new h c w) = s
seals_sound s (no_place new h c w k) = s

pub seals_extends : {c : ℕ} {a b : Rows} {g : Form} {r : Answer ℕ} → Seals c a g r b → Extends a b
seals_extends {a = a} (found n k e) = extends_refl a
seals_extends (added new r b c w k) = record { rest = r ∷ []; is = refl }
seals_extends {a = a} (too_wide new h c w) = extends_refl a
seals_extends {a = a} (no_place new h c w k) = extends_refl a

-- sealing goes by value only
pub seals_≈ : {c : ℕ} {a b : Rows} {g h : Form} {r : Answer ℕ} → g ≈ h → Seals c a g r b → Seals c a h r b
seals_≈ v (found n k e) = found n k (≈_trans e v)
seals_≈ v (added new r b c w k) = added (λ n l e. new n l (≈_trans e (≈_sym v))) r b (record { is_canonical = c.is_canonical; same_value = ≈_trans c.same_value v }) w k
seals_≈ v (too_wide new h c w) = too_wide (λ n l e. new n l (≈_trans e (≈_sym v))) h (record { is_canonical = c.is_canonical; same_value = ≈_trans c.same_value v }) w
seals_≈ v (no_place new h c w k) = no_place (λ n l e. new n l (≈_trans e (≈_sym v))) h (record { is_canonical = c.is_canonical; same_value = ≈_trans c.same_value v }) w k

-- a form that equals a node is answered that node, and nothing is added
pub seals_found : {c : ℕ} {a b : Rows} {g : Form} {r : Answer ℕ} → Sound a → (k : Node a g) → Seals c a g r b → (r ≡ told k.at) × (b ≡ a)
seals_found s k (found n l e) = (ap told (s.unlike n k.at l k.inside (≈_trans e (≈_sym k.equals))), refl)
seals_found s k (added new r b c w l) = absurd (new k.at k.inside k.equals)
seals_found s k (too_wide new h c w) = absurd (new k.at k.inside k.equals)
seals_found s k (no_place new h c w l) = absurd (new k.at k.inside k.equals)
