-- The lowest number whose row has given lists, found from the highest number down.
-- Assumes nothing.
use Rattle.std.proofs.Common.{◌≡◌, ℕ, zero, suc, ◌<◌, ◌≤◌, true, false, cond, ◌⊎◌, List, [], ◌∷◌, length, Some, None, Decides, Option, sym, refl, ap, ◌∙◌, subst, inl, inr, arith, MatchOption}
use Rattle.std.specs.Option.{option_map}
use Rattle.std.proofs.lemmas.Bool.{cases_Bool, cases_lt, cond-true, cond-false}
use Rattle.std.proofs.lemmas.Bool.Decides.{Decides-and, Decides-like, not_from_Decides}
use Rattle.games.specs.Numbered.{Lists}
use Rattle.stores.specs.Rows.{Rows, row_at, same_list, same_lists, lowest, Finds, LowestFinds}
use Rattle.stores.proofs.Lists.{same_list_decides}

lists : List ℕ → List ℕ → Lists
lists x y = record { left = x; right = y }

pub both_same : (a b : Lists) → a.left ≡ b.left → a.right ≡ b.right → a ≡ b
unfolding lists
both_same a b p q = ap (λ x. lists x a.right) p ∙ ap (lists b.left) q

pub same_decides : (a b : Lists) → Decides (same_lists a b) (a ≡ b)
same_decides a b =
    Decides-like (same_lists a b) (λ p. both_same a b p.0 p.1) (λ e. (ap (λ (l : Lists). l.left) e, ap (λ (l : Lists). l.right) e))
    (Decides-and (same_list a.left b.left) (same_list a.right b.right) (same_list_decides a.left b.left) (same_list_decides a.right b.right))

-- none of the rows from a up to b has the lists l
abbrev pub NoneAt : Rows → Lists → ℕ → ℕ → Type 0
NoneAt rows l a b = (k : ℕ) → a ≤ k → k < b → row_at rows k ≡ l → ⊥

-- f is the lowest number from b up whose row has the lists l
abbrev pub LowestFrom : Rows → Lists → ℕ → Option ℕ → Type 0
LowestFrom rows l b f = MatchOption f (NoneAt rows l b (length rows)) (λ n. (n < length rows) × (row_at rows n ≡ l) × (b ≤ n) × NoneAt rows l b n)

pub lowest_is : (rows : Rows) (l : Lists) (f : Option ℕ) → LowestFrom rows l 0 f → f ≡ lowest rows l
lowest_is [] l None h = refl
lowest_is [] l (Some n) h = absurd (omega (arith, h.0))
lowest_is (r ∷ rows) l f h = go (lowest_is rows l) (cases_Bool (same_lists r l)) f h
  where
    go : ((g : Option ℕ) → LowestFrom rows l 0 g → g ≡ lowest rows l) → (same_lists r l ≡ true) ⊎ (same_lists r l ≡ false) → (f : Option ℕ) → LowestFrom (r ∷ rows) l 0 f → f ≡ lowest (r ∷ rows) l
    go rec (inl t) None h = absurd (h 0 (omega arith) (omega arith) ((same_decides r l).0 t))
    go rec (inl t) (Some zero) h = sym (cond-true (same_lists r l) (Some 0) (option_map suc (lowest rows l)) t)
    go rec (inl t) (Some (suc n)) h = absurd (h.3 0 (omega arith) (omega arith) ((same_decides r l).0 t))
    go rec (inr t) None h =
        ap (option_map suc) (rec None (λ k a b e. h (suc k) (omega arith) (omega arith) e)) ∙ sym (cond-false (same_lists r l) (Some 0) (option_map suc (lowest rows l)) t)
    go rec (inr t) (Some zero) h = absurd (not_from_Decides (same_lists r l) (same_decides r l) t h.1)
    go rec (inr t) (Some (suc n)) h =
        ap (option_map suc) (rec (Some n) (omega (arith, h.0), h.1, omega arith, λ k a b e. h.3 (suc k) (omega arith) (omega arith) e))
        ∙ sym (cond-false (same_lists r l) (Some 0) (option_map suc (lowest rows l)) t)

-- what `lowest` gives is such a number
pub lowest_says : (rows : Rows) (l : Lists) → LowestFrom rows l 0 (lowest rows l)
lowest_says [] l = λ k a b e. omega arith
lowest_says (r ∷ rows) l = go (cases_Bool (same_lists r l)) (lowest rows l) (lowest_says rows l)
  where
    next : (f : Option ℕ) → (r ≡ l → ⊥) → LowestFrom rows l 0 f → LowestFrom (r ∷ rows) l 0 (option_map suc f)
    next None other h = λ k a b e. elim k as (λ m. m < suc (length rows) → row_at (r ∷ rows) m ≡ l → ⊥) [ zero ↦ λ b e. other e | suc m ↦ λ b e. h m (omega arith) (omega arith) e ] b e
    next (Some n) other h = (
      omega (arith, h.0),
      h.1,
      omega arith,
      λ k a b e. elim k as (λ m. m < suc n → row_at (r ∷ rows) m ≡ l → ⊥) [ zero ↦ λ b e. other e | suc m ↦ λ b e. h.3 m (omega arith) (omega arith) e ] b e,
    )

    go : (same_lists r l ≡ true) ⊎ (same_lists r l ≡ false) → (f : Option ℕ) → LowestFrom rows l 0 f → LowestFrom (r ∷ rows) l 0 (cond (same_lists r l) (Some 0) (option_map suc f))
    go (inl t) f h =
        subst (LowestFrom (r ∷ rows) l 0) (sym (cond-true (same_lists r l) (Some 0) (option_map suc f) t))
        (omega arith, (same_decides r l).0 t, omega arith, λ k a b e. omega arith)
    go (inr t) f h =
        subst (LowestFrom (r ∷ rows) l 0) (sym (cond-false (same_lists r l) (Some 0) (option_map suc f) t)) (next f (not_from_Decides (same_lists r l) (same_decides r l) t) h)

pub lowest_finds : LowestFinds
lowest_finds rows l = go (lowest rows l) (lowest_says rows l)
  where
    go : (f : Option ℕ) → LowestFrom rows l 0 f → Finds rows l f
    go None h = λ k b e. h k (omega arith) b e
    go (Some n) h = (h.0, h.1, λ k b e. h.3 k (omega arith) b e)

-- it stays the lowest when the rows from a up to b are looked at too, and none has the lists
pub lowest_down : (rows : Rows) (l : Lists) (a b : ℕ) (f : Option ℕ) → a ≤ b → NoneAt rows l a b → LowestFrom rows l b f → LowestFrom rows l a f
lowest_down rows l a b None p q h = λ k x y e. elim (cases_lt k b) [ inl lt ↦ q k x lt e | inr ge ↦ h k ge y e ]
lowest_down rows l a b (Some n) p q h = (h.0, h.1, omega (arith, h.2), λ k x y e. elim (cases_lt k b) [ inl lt ↦ q k x lt e | inr ge ↦ h.3 k ge y e ])

pub lowest_here : (rows : Rows) (l : Lists) (n : ℕ) → n < length rows → row_at rows n ≡ l → LowestFrom rows l n (Some n)
lowest_here rows l n h e = (h, e, omega arith, λ k x y _. omega arith)
