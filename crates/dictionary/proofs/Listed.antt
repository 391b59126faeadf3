-- The row of two sets has just the numbers of the sets.
-- Assumes nothing.
use Rattle.std.proofs.Common.{◌≡◌, ℕ, ◌<◌, Bool, true, false, cond, ◌||◌, eqb, List, [], ◌∷◌, vec_items, filter, sym, refl, subst, arith, eqb-true}
use Rattle.std.specs.List.{AllByRecursion}
use Rattle.games.specs.declared.side.Side.TheVariants.{Left, Right}
use Rattle.games.specs.Numbered.{Lists}
use Rattle.nodesets.specs.Pairs.{Sets, Within}
use Rattle.sealing.specs.declared.tables.Tables.{Tables}
use Rattle.sealing.specs.Seals.{count, row_of}
use Rattle.sealing.specs.Walks.{any_of}
use Rattle.sealing.proofs.Sealing.{count_links}
use Rattle.calls.specs.Rows.{Below, ◌among◌, first, later}
use Rattle.dictionary.specs.Kept.{ListsOf}

kept_case : (p : ℕ → Bool) (x k : ℕ) (xs : List ℕ) (b : Bool) → p x ≡ b → (k among xs → p k ≡ true) → k among cond b (x ∷ xs) xs → p k ≡ true
kept_case p x k xs false e h i = h i
kept_case p x k xs true e h first = e
kept_case p x k xs true e h (later i) = h i

among_kept : (p : ℕ → Bool) (ks : List ℕ) (k : ℕ) → k among filter p ks → p k ≡ true
among_kept p [] k i = elim i [ ]
among_kept p (x ∷ ks) k i = kept_case p x k (filter p ks) (p x) refl (among_kept p ks k) i

more : (b : Bool) (x k : ℕ) (xs : List ℕ) → k among xs → k among cond b (x ∷ xs) xs
more true x k xs i = later i
more false x k xs i = i

kept_among : (p : ℕ → Bool) (ks : List ℕ) (k : ℕ) → p k ≡ true → k among ks → k among filter p ks
kept_among p [] k e i = elim i [ ]
kept_among p (x ∷ ks) k e first = subst (λ b. k among cond b (k ∷ filter p ks) (filter p ks)) (sym e) first
kept_among p (x ∷ ks) k e (later i) = more (p x) x k (filter p ks) (kept_among p ks k e i)

any_case : (b r : Bool) (x k : ℕ) (xs : List ℕ) → eqb x k ≡ b → (r ≡ true → k among xs) → (b || r) ≡ true → k among (x ∷ xs)
any_case true r x k xs e h u = subst (λ z. k among (z ∷ xs)) (sym (eqb-true x k e)) first
any_case false r x k xs e h u = later (h u)

any_among : (ks : List ℕ) (k : ℕ) → any_of (λ j. eqb j k) ks ≡ true → k among ks
any_among [] k u = let z : ◌≡◌ {A = ℕ} 0 1 = cc in absurd (omega arith)
any_among (x ∷ ks) k u = any_case (eqb x k) (any_of (λ j. eqb j k) ks) x k ks refl (any_among ks k) u

pub row_lists : (t : Tables) (o : Sets) → Within (count t) o → ListsOf o (row_of t o)
row_lists t o within Left k = (among_kept (o Left) (vec_items t.listing) k, λ e. kept_among (o Left) (vec_items t.listing) k e (any_among (vec_items t.listing) k (t.complete k (let h = within Left k e in let c = count_links t in omega arith))))
row_lists t o within Right k = (among_kept (o Right) (vec_items t.listing) k, λ e. kept_among (o Right) (vec_items t.listing) k e (any_among (vec_items t.listing) k (t.complete k (let h = within Right k e in let c = count_links t in omega arith))))

all_among : (n : ℕ) (ks : List ℕ) → AllByRecursion (λ m. m < n) ks → (k : ℕ) → k among ks → k < n
all_among n [] a k i = elim i [ ]
all_among n (m ∷ ks) a k first = a.0
all_among n (m ∷ ks) a k (later i) = all_among n ks a.1 k i

-- where the lists name nodes, so do the sets
pub lists_within : (n : ℕ) (o : Sets) (l : Lists) → ListsOf o l → Below n l → Within n o
lists_within n o l lists b Left k e = all_among n l.left b.on_left k ((lists Left k).1 e)
lists_within n o l lists b Right k e = all_among n l.right b.on_right k ((lists Right k).1 e)
