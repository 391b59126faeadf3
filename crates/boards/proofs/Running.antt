-- Bytes taken one by one: a list in two parts, and the steps of a loop.
-- Assumes nothing.
use Rattle.std.proofs.Common.{◌≡◌, ℕ, List, [], ◌∷◌, ◌++◌, Some, None, Option, ControlFlow, Bor, Iter, sym, refl, ap, ◌∙◌, subst}
use Rattle.std.specs.ControlFlow.{continue_value}
use Rattle.std.specs.Fn.{Mut, Called}
use Rattle.std.specs.Iterator.{AlwaysYields, Yields, TryFoldTurn, TryFoldsItems}
use Rattle.std.specs.List.{FoldsTo}
use Rattle.std.specs.Option.{MatchOption}
use Rattle.std.proofs.lemmas.Fn.{fronts, slice_gives}
use Rattle.boards.specs.Stepping.{step_from, run}

module _ {S : Type 0} (step : S → ℕ → Option S) where
  pub run_none : (t : List ℕ) → run step None t ≡ None
  run_none [] = refl
  run_none (b ∷ t) = run_none t

  pub run_append : (q : Option S) (t u : List ℕ) → run step q (t ++ u) ≡ run step (run step q t) u
  run_append q [] u = refl
  run_append q (b ∷ t) u = run_append (step_from step q b) t u

  -- `try_fold` over what yields the bytes, by calls that take a step each
  module _ {F A I : Type 0} (E : Type 0) (steps : I → Option A → I → Type 0) (byte : A → ℕ) (g : Mut F (S × (A × Unit {0})) (Option S)) (f : F)
      (calls : (s : S) (x : A) (r : Option S) (h : F) → Called g f (s, (x, tt)) r h → (h ≡ f) × (r ≡ step s (byte x))) where
    abbrev branches : Option S → ControlFlow E S → Type 0
    branches r c = r ≡ continue_value c

    -- the bytes that some turns leave lead on from the state that they led to
    turns : (xs : List A) (i j : I) (t : List ℕ) (s : S) (q : F × S) → AlwaysYields steps byte i t → Yields steps i xs j → FoldsTo {P = F × S} (TryFoldTurn g branches) (f, s) xs q
        → (u : List ℕ) × AlwaysYields steps byte j u × (run step (Some s) t ≡ run step (Some q.1) u) × (q.0 ≡ f)
    turns [] i j t s q a y c = (t, subst (λ k. AlwaysYields steps byte k t) y a, ap (λ (p : F × S). run step (Some p.1) t) c, sym (ap (λ (p : F × S). p.0) c))
    turns (x ∷ xs) i j [] s q a y c = absurd (a x y.0 y.1)
    turns (x ∷ xs) i j (b ∷ t) s q a y c =
        let here = a.1 x y.0 y.1 in
        let m = calls s x c.1.0 c.0.0 c.1.1 in
        let k = turns xs y.0 j t c.0.1 q here.1 y.2 (subst (λ (v : F × S). FoldsTo {P = F × S} (TryFoldTurn g branches) v xs q) {x = c.0} {y = (f, c.0.1)} (λ i. (m.0 i, c.0.1)) c.2) in
        (k.0, k.1, ap (λ o. run step o t) (ap (step s) (sym here.0) ∙ sym m.1 ∙ c.1.2) ∙ k.2, k.3)

    -- the call after them
    ends : (o : Option A) (j u : I) (t : List ℕ) (s : S) (r : Option S) → AlwaysYields steps byte j t → steps j o u
        → MatchOption o (r ≡ Some s) (λ x. (v : Option S) × (h : F) × (e : E) × Called g f (s, (x, tt)) v h × (v ≡ None) × (r ≡ None)) → r ≡ run step (Some s) t
    ends None j u [] s r a p m = m
    ends None j u (b ∷ t) s r a p m = absurd (a.0 u p)
    ends (Some x) j u [] s r a p m = absurd (a x u p)
    ends (Some x) j u (b ∷ t) s r a p m =
        let stops : step s b ≡ None = ap (step s) (sym (a.1 x u p).0) ∙ sym (calls s x m.0 m.1 m.3).1 ∙ m.4 in
        m.5 ∙ sym (run_none t) ∙ ap (λ o. run step o t) (sym stops)

    folded : (i u : I) (t : List ℕ) (s : S) (r : Option S) → AlwaysYields steps byte i t → TryFoldsItems steps g branches (λ e o. o ≡ None) i f s r u → r ≡ run step (Some s) t
    folded i u t s r a d =
        let k = turns d.0 i d.4.0 t s (d.2, d.3) a d.4.1 d.5 in
        ends d.1 d.4.0 u k.0 d.3 r k.1 d.4.2 (subst (λ h. MatchOption d.1 (r ≡ Some d.3) (λ x. (v : Option S) × (h' : F) × (e : E) × Called g h (d.3, (x, tt)) v h' × (v ≡ None) × (r ≡ None))) k.3 d.6) ∙ sym k.2

  -- `try_fold` over a slice of the bytes
  pub run_folded : {F E : Type 0} (g : Mut F (S × (Bor ℕ × Unit {0})) (Option S)) (f : F) (i u : Iter ℕ) (t : List ℕ) (s : S) (r : Option S)
      → i.rest.now ≡ t → TryFoldsItems fronts {E = E} g (λ r c. r ≡ continue_value c) (λ e o. o ≡ None) i f s r u
      → ((s : S) (x : Bor ℕ) (r : Option S) (h : F) → Called g f (s, (x, tt)) r h → (h ≡ f) × (r ≡ step s x.now)) → r ≡ run step (Some s) t
  run_folded {E = E} g f i u t s r e d calls = folded E fronts (λ x. x.now) g f calls i u t s r (subst (AlwaysYields fronts (λ x. x.now) i) e (slice_gives i)) d
