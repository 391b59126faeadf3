-- Numbers written down, of which no more than 17 are kept: a row that has them is found all the same.
-- Assumes nothing.
use Rattle.std.proofs.Common.{◌≡◌, ℕ, ◌+◌, ◌<◌, ◌≤◌, List, [], ◌∷◌, ◌++◌, length, take, set, None, sym, ap, ◌∙◌, subst, ap₂, arith}
use native.Mathlib.Decide.{dec_le}
use Rattle.std.proofs.lemmas.List.{length-take, length-append, take_all, take-take, take-append-le, take_more_set}
use Rattle.games.specs.declared.side.Side.{Side}
use Rattle.games.specs.declared.side.Side.TheVariants.{Left, Right}
use Rattle.games.specs.Numbered.{Lists, list_of}
use Rattle.stores.specs.Rows.{Rows, Lawful, lowest}
use Rattle.stores.proofs.Lowest.{lowest_is}

take_push : {A : Type 0} (k : ℕ) (xs ys : List A) → take k (take k xs ++ ys) ≡ take k (xs ++ ys)
take_push k xs ys = elim (dec_le k (length xs)) [
  | yes p ↦ let l = length-take k xs in take-append-le k (take k xs) ys (omega arith) ∙ (take-take k k xs (omega arith) ∙ sym (take-append-le k xs ys p))
  | no p ↦ ap (λ u. take k (u ++ ys)) (take_all k xs (omega arith))
]

-- a number is written behind fewer than 17, or it is not
pub push_kept : (items : List ℕ) (n x : ℕ) → length items ≡ 17 → n < 17 → take (n + 1) (set items n x) ≡ take 17 (take n items ++ x ∷ [])
push_kept items n x room h =
    let l = length-take n items in
    let k = length-append (take n items) (x ∷ []) in
    take_more_set items n x (omega arith) ∙ sym (take_all 17 (take n items ++ x ∷ []) (omega arith))

pub push_not : (items : List ℕ) (n x : ℕ) → length items ≡ 17 → n ≡ 17 → take n items ≡ take 17 (take n items ++ x ∷ [])
push_not items n x room e =
    let l = length-take n items in
    sym (take-append-le 17 (take n items) (x ∷ []) (omega arith) ∙ take_all 17 (take n items) (omega arith))

-- the first 17 of a list and one more
pub put_kept : (kept later ns : List ℕ) (x : ℕ) → later ≡ take 17 (kept ++ x ∷ []) → kept ≡ take 17 ns → later ≡ take 17 (ns ++ x ∷ [])
put_kept kept later ns x e h = e ∙ (ap (λ u. take 17 (u ++ x ∷ [])) h ∙ take_push 17 ns (x ∷ []))

abbrev pub cut : Lists → Lists
cut l = record { left = take 17 l.left; right = take 17 l.right }

abbrev pub lists : List ℕ → List ℕ → Lists
lists x y = record { left = x; right = y }

module _ (rows : Rows) (room : ℕ) (law : Lawful rows room) where
  long : (l : Lists) (s : Side) → 16 < length (list_of s l) → None ≡ lowest rows l
  long l s h = lowest_is rows l None (λ k a b e. let few = subst (λ r. length (list_of s r) ≤ 16) e (law.few s k) in omega arith)

  pub cut_found : (l : Lists) → lowest rows (cut l) ≡ lowest rows l
  cut_found l = go (dec_le (length l.left) 16) (dec_le (length l.right) 16)
    where
      longer : (s : Side) → 16 < length (list_of s l) → 16 < length (list_of s (cut l))
      longer Left h = let k = length-take 17 l.left in omega arith
      longer Right h = let k = length-take 17 l.right in omega arith

      both : (s : Side) → 16 < length (list_of s l) → lowest rows (cut l) ≡ lowest rows l
      both s h = sym (long (cut l) s (longer s h)) ∙ long l s h

      go : Dec (length l.left ≤ 16) → Dec (length l.right ≤ 16) → lowest rows (cut l) ≡ lowest rows l
      go (yes p) (yes q) = ap₂ (λ x y. lowest rows (lists x y)) (take_all 17 l.left (omega arith)) (take_all 17 l.right (omega arith))
      go (no p) q = both Left (omega arith)
      go (yes p) (no q) = both Right (omega arith)
