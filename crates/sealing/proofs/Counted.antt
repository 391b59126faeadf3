-- The listed nodes of a set, counted as they are taken.
-- Assumes nothing.
use Rattle.std.proofs.Common.{◌≡◌, ℕ, ◌+◌, ◌<◌, ◌≤◌, Bool, true, false, cond, List, [], ◌∷◌, ◌++◌, length, get_or, take, filter, ap, ◌∙◌, append-nil, length-append, arith}
use Rattle.std.proofs.lemmas.List.Elements.{filter_more, filter-append}
use Rattle.std.proofs.lemmas.List.{length_push, take-append-drop}

-- one more number of the list, which is in the set or not
module _ (p : ℕ → Bool) (ks : List ℕ) (i : ℕ) (h : i < length ks) where
  pub kept_with : p (get_or ks i 0) ≡ true → filter p (take (i + 1) ks) ≡ filter p (take i ks) ++ (get_or ks i 0 ∷ [])
  kept_with t = filter_more p ks i 0 h ∙ ap (λ b. filter p (take i ks) ++ cond b (get_or ks i 0 ∷ []) []) t

  pub kept_without : p (get_or ks i 0) ≡ false → filter p (take (i + 1) ks) ≡ filter p (take i ks)
  kept_without t = filter_more p ks i 0 h ∙ ap (λ b. filter p (take i ks) ++ cond b (get_or ks i 0 ∷ []) []) t ∙ append-nil (filter p (take i ks))

  pub count_with : p (get_or ks i 0) ≡ true → length (filter p (take (i + 1) ks)) ≡ length (filter p (take i ks)) + 1
  count_with t = ap length (kept_with t) ∙ length_push (filter p (take i ks)) (get_or ks i 0)

-- the first of a list have no more nodes of the set than all have
pub count_first : (p : ℕ → Bool) (ks : List ℕ) (i : ℕ) → length (filter p (take i ks)) ≤ length (filter p ks)
count_first p ks i = let e = ap (λ ls. length (filter p ls)) (take-append-drop i ks) in let h = simp (filter-append, length-append) at e in omega arith
