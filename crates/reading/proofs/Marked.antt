-- A mark of the code is that of its byte.
-- Assumes nothing.
use Rattle.std.proofs.Common.{◌≡◌, ℕ, Some, None, sym, refl, ap, ◌∙◌, subst, arith}
use native.Mathlib.Decide.{ℕ_discrete}
use Rattle.std.proofs.lemmas.Bool.{ne_eqb}
use Rattle.games.specs.Text.{open_mark, bar, close_mark, comma, byte}
use Rattle.games.specs.Text
use Rattle.reading.specs.declared.mark.Mark.{Mark}
use Rattle.reading.specs.declared.mark.Mark.TheVariants.{Open, Bar, Close, Comma}
use Rattle.reading.specs.Marks.{meant, mark_of}

-- what `mark_of` says
pub mark_is : (b : ℕ) (m : Mark) → Some m ≡ mark_of b → byte (meant m) ≡ b
mark_is b m e = go (ℕ_discrete b 123) (ℕ_discrete b 124) (ℕ_discrete b 125) (ℕ_discrete b 44)
  where
    told : (n : ℕ) (k : Mark) → b ≡ n → mark_of n ≡ Some k → byte (meant k) ≡ n → byte (meant m) ≡ b
    told n k p q r = let s : Some m ≡ Some k = e ∙ (ap mark_of p ∙ q) in let u : m ≡ k = cc in ap (λ x. byte (meant x)) u ∙ (r ∙ sym p)

    go : Dec (b ≡ 123) → Dec (b ≡ 124) → Dec (b ≡ 125) → Dec (b ≡ 44) → byte (meant m) ≡ b
    go (yes p) q r s = told 123 Open p refl refl
    go (no p) (yes q) r s = told 124 Bar q refl refl
    go (no p) (no q) (yes r) s = told 125 Close r refl refl
    go (no p) (no q) (no r) (yes s) = told 44 Comma s refl refl
    go (no p) (no q) (no r) (no s) =
        let f = ne_eqb b 123 p in
        let g = ne_eqb b 124 q in
        let h = ne_eqb b 125 r in
        let k = ne_eqb b 44 s in
        let l : mark_of b ≡ None = simp (f, g, h, k) in
        let z : ◌≡◌ {A = ℕ} 0 1 = cc in absurd (omega arith)

pub no_mark_is : (b : ℕ) → None ≡ mark_of b → (m : Text.Mark) → ¬ (byte m ≡ b)
no_mark_is b e open_mark h = let f = subst (λ x. None ≡ mark_of x) (sym h) e in let z : ◌≡◌ {A = ℕ} 0 1 = cc in omega arith
no_mark_is b e bar h = let f = subst (λ x. None ≡ mark_of x) (sym h) e in let z : ◌≡◌ {A = ℕ} 0 1 = cc in omega arith
no_mark_is b e close_mark h = let f = subst (λ x. None ≡ mark_of x) (sym h) e in let z : ◌≡◌ {A = ℕ} 0 1 = cc in omega arith
no_mark_is b e comma h = let f = subst (λ x. None ≡ mark_of x) (sym h) e in let z : ◌≡◌ {A = ℕ} 0 1 = cc in omega arith
