-- The numbers told so far are those of a set, into which each goes as it is told.
-- Assumes nothing.
use Rattle.std.proofs.Common.{◌≡◌, ℕ, ◌<◌, Bool, true, false, ◌&&◌, ◌||◌, eqb, ltb, ◌⊎◌, List, [], ◌∷◌, ◌++◌, sym, refl, ◌∙◌, subst, inl, inr, arith, lt-ltb, eq-eqb, eqb-true}
use Rattle.calls.specs.Rows.{◌among◌, first, later}
use Rattle.valuing.specs.Sides.{Are}
use Rattle.calls.proofs.Entering.{among_back, among_either, among_front}

pub are_none : (p : ℕ → Bool) → ((k : ℕ) → p k ≡ false) → Are [] p
are_none p e k = (λ i. elim i [ ], λ h. let f = e k in let z : ◌≡◌ {A = ℕ} 0 1 = cc in absurd (omega arith))

or_either : (a b : Bool) → (a || b) ≡ true → (a ≡ true) ⊎ (b ≡ true)
or_either true b e = inl refl
or_either false b e = inr e

or_second : (a b : Bool) → b ≡ true → (a || b) ≡ true
or_second true b e = refl
or_second false b e = e

and_first : (a b : Bool) → (a && b) ≡ true → a ≡ true
and_first true b e = refl
and_first false b e = e

module _ (ns : List ℕ) (p q : ℕ → Bool) (n : ℕ) (small : n < 384) (put : (k : ℕ) → q k ≡ ((eqb k n && ltb k 384) || p k)) (are : Are ns p) where
  itself : (k : ℕ) → k ≡ n → q k ≡ true
  itself k e =
      let a : eqb k n ≡ true = eq-eqb k n e in
      let b : ltb k 384 ≡ true = lt-ltb k 384 (omega arith) in
      put k ∙ simp (a, b)

  in_set : (k : ℕ) → (k among ns) ⊎ (k among (n ∷ [])) → q k ≡ true
  in_set k (inl i) = put k ∙ or_second (eqb k n && ltb k 384) (p k) ((are k).0 i)
  in_set k (inr first) = itself k refl
  in_set k (inr (later i)) = elim i [ ]

  in_list : (k : ℕ) → ((eqb k n && ltb k 384) ≡ true) ⊎ (p k ≡ true) → k among (ns ++ n ∷ [])
  in_list k (inl e) = subst (λ x. k among (ns ++ x ∷ [])) (eqb-true k n (and_first (eqb k n) (ltb k 384) e)) (among_back ns (k ∷ []) first)
  in_list k (inr e) = among_front ns (n ∷ []) ((are k).1 e)

  pub are_more : Are (ns ++ n ∷ []) q
  are_more k = (λ i. in_set k (among_either ns (n ∷ []) i), λ e. in_list k (or_either (eqb k n && ltb k 384) (p k) (sym (put k) ∙ e)))
