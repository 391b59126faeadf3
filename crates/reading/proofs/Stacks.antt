-- A stack in a list, its top last.
-- Assumes nothing.
use Rattle.std.proofs.Common.{◌≡◌, ℕ, ◌+◌, ◌<◌, ◌≤◌, List, [], ◌∷◌, ◌++◌, reverse, length, get_or, take, set, sym, ap, ◌∙◌, subst, arith, length-set}
use Rattle.std.proofs.lemmas.List.{reverse-append, take_all, take_more, take_more_set}
use Rattle.games.specs.declared.side.Side.TheVariants.{Right}
use Rattle.reading.specs.declared.frames.Frame.{Frame}
use Rattle.reading.specs.Held.{Turned}

-- a push
pub pushed : {A : Type 0} (xs ys : List A) (x : A) → ys ≡ xs ++ x ∷ [] → reverse ys ≡ x ∷ reverse xs
pushed xs ys x e = ap reverse e ∙ reverse-append xs (x ∷ [])

-- the last item is the top, and another one may take its place
module _ {A : Type 0} (xs : List A) (n : ℕ) (inside : n < length xs) (last : length xs ≤ n + 1) where
  pub top_is : (x : A) → x ≡ get_or xs n x → reverse xs ≡ x ∷ reverse (take n xs)
  top_is x e = pushed (take n xs) xs x (sym (take_all (n + 1) xs last) ∙ (take_more xs n x inside ∙ ap (λ y. take n xs ++ y ∷ []) (sym e)))

  pub top_set : (y : A) → reverse (set xs n y) ≡ y ∷ reverse (take n xs)
  top_set y = let l = length-set xs n y in pushed (take n xs) (set xs n y) y (sym (take_all (n + 1) (set xs n y) (omega arith)) ∙ take_more_set xs n y inside)

pub turned : {A : Type 0} (xs : List (Frame A)) (n : ℕ) → n < length xs → length xs ≤ n + 1 → (f : Frame A) → f ≡ get_or xs n f → Turned (reverse xs) (reverse (set xs n (record { side = Right; options = f.options })))
turned xs n inside last f e = subst (λ us. Turned us (reverse (set xs n (record { side = Right; options = f.options })))) (sym (top_is xs n inside last f e)) (top_set xs n inside last (record { side = Right; options = f.options }))
