-- The listing of the nodes, and the rows in its order.
-- Assumes nothing.
use Rattle.std.proofs.Common.{◌≡◌, ℕ, zero, suc, ◌+◌, ◌<◌, Bool, true, false, cond, List, [], ◌∷◌, ◌++◌, map, length, get_or, take, drop, filter, sym, refl, ap, ◌∙◌, subst, ap₂, inl, inr, arith}
use Rattle.std.specs.List.{AllByRecursion}
use Rattle.std.proofs.lemmas.List.{length_push, map-append}
use Rattle.std.proofs.lemmas.Bool.{cases_Bool}
use Rattle.games.specs.declared.side.Side.{Side}
use Rattle.games.specs.declared.side.Side.TheVariants.{Left, Right}
use Rattle.games.specs.Sides.{options}
use Rattle.games.specs.Numbered.{Lists, each, form_by}
use Rattle.games.proofs.Sides.{same_options}
use Rattle.nodesets.specs.Pairs.{Sets, Within}
use Rattle.sealing.specs.Forms.{node, game, none}
use Rattle.sealing.specs.Invariants.{Lower}
use Rattle.sealing.specs.Walks.{all_below, Complete, Rises, Placed}
use Rattle.sealing.specs.Seals.{in_order}
use Rattle.sealing.proofs.Placing.{below_any, below_wider, below_insert, rises_from, rises_old, rises_new, complete_new}
use Rattle.sealing.proofs.Listed.{walked_each, game_walk}

-- ks lists the nodes, each once, in rising listing order
pub record Listing (os : List Sets) (ks : List ℕ) : Type 0 where
  pub below : all_below (length os) ks ≡ true
  pub complete : Complete (length os) ks
  pub rises : Rises os ks

pub rises_then : (os new : List Sets) (q : Sets) (ks : List ℕ) → new ≡ os ++ (q ∷ []) → Listing os ks → Rises new ks
rises_then os new q ks e l = subst (λ x. Rises x ks) (sym e) (rises_old os q ks l.below l.rises)

pub listing_new : (os new : List Sets) (q : Sets) (ks : List ℕ) (r : ℕ) → new ≡ os ++ (q ∷ []) → Listing os ks → Placed new ks (length os) r → Listing new (take r ks ++ (length os ∷ drop r ks))
listing_new os new q ks r e l p =
    let n : length new ≡ length os + 1 = ap length e ∙ length_push os q in
    record {
      below = subst (λ m. all_below m (take r ks ++ (length os ∷ drop r ks)) ≡ true) (sym n) (below_insert (length os + 1) ks r (length os) (omega arith) (below_wider (length os) (length os + 1) ks (omega arith) l.below));
      complete = subst (λ m. Complete m (take r ks ++ (length os ∷ drop r ks))) (sym n) (complete_new (length os) ks r l.complete);
      rises = rises_new new ks r (length os) (rises_then os new q ks e l) p;
    }

pub listing_none : (os : List Sets) (ks : List ℕ) → os ≡ [] → ks ≡ [] → Listing os ks
listing_none os ks e f = subst (λ x. Listing x ks) (sym e) (subst (λ x. Listing [] x) (sym f) (record { below = refl; complete = λ k h. absurd (omega arith); rises = refl }))

-- the form of two sets of nodes, by their lists in listing order
pub game_form : (os : List Sets) (ks : List ℕ) → Listing os ks → (o : Sets) → Within (length os) o → game os o ≡ form_by (node os) (in_order ks o)
game_form os ks l o within = same_options (game os o) (form_by (node os) (in_order ks o)) (λ s. side s)
  where
    walk : (s : Side) → options s (game os o) ≡ each (node os) (filter (o s) ks)
    walk s = game_walk os (length os) ks (omega arith) l.complete (below_any (length os) ks l.below) (rises_from os ks l.rises) o s (within s) ∙ walked_each (node os) (o s) ks

    side : (s : Side) → options s (game os o) ≡ options s (form_by (node os) (in_order ks o))
    side Left = walk Left
    side Right = walk Right

-- a number that is not in the set changes nothing where it is put
pub kept_insert : (p : ℕ → Bool) (ks : List ℕ) (r k : ℕ) → p k ≡ false → filter p (take r ks ++ (k ∷ drop r ks)) ≡ filter p ks
kept_insert p ks zero k f = rw f
kept_insert p [] (suc r) k f = rw f
kept_insert p (j ∷ ks) (suc r) k f = go (p j) (kept_insert p ks r k f)
  where
    go : (b : Bool) → filter p (take r ks ++ (k ∷ drop r ks)) ≡ filter p ks → cond b (j ∷ filter p (take r ks ++ (k ∷ drop r ks))) (filter p (take r ks ++ (k ∷ drop r ks))) ≡ cond b (j ∷ filter p ks) (filter p ks)
    go true e = ap (λ xs. j ∷ xs) e
    go false e = e

in_order_insert : (o : Sets) (ks : List ℕ) (r k : ℕ) → ((s : Side) → o s k ≡ false) → in_order (take r ks ++ (k ∷ drop r ks)) o ≡ in_order ks o
in_order_insert o ks r k f = ap₂ (λ (x y : List ℕ). let z : Lists = record { left = x; right = y } in z) (kept_insert (o Left) ks r k (f Left)) (kept_insert (o Right) ks r k (f Right))

-- a set of lower numbers lacks n
pub lacks : (n : ℕ) (o : Sets) → Within n o → (s : Side) → o s n ≡ false
lacks n o within s = elim (cases_Bool (o s n)) [ inl t ↦ (let l = within s n t in absurd (omega arith)) | inr f ↦ f ]

-- the rows are as they were once the number n is listed
rows_insert : (os : List Sets) (ks : List ℕ) (r n : ℕ) → ((i : ℕ) → i < length os → (s : Side) → get_or os i none s n ≡ false) → map (in_order (take r ks ++ (n ∷ drop r ks))) os ≡ map (in_order ks) os
rows_insert [] ks r n f = refl
rows_insert (o ∷ os) ks r n f = ap₂ ◌∷◌ (in_order_insert o ks r n (f 0 (omega arith))) (rows_insert os ks r n (λ i h. f (suc i) (omega arith)))

pub rows_more : (os new : List Sets) (q : Sets) (ks : List ℕ) (r : ℕ) → new ≡ os ++ (q ∷ []) → Lower os → Within (length os) q
    → map (in_order (take r ks ++ (length os ∷ drop r ks))) new ≡ map (in_order ks) os ++ (in_order ks q ∷ [])
rows_more os new q ks r e lower within =
    ap (map (in_order (take r ks ++ (length os ∷ drop r ks)))) e ∙ map-append (in_order (take r ks ++ (length os ∷ drop r ks))) os (q ∷ [])
    ∙ ap₂ ◌++◌ (rows_insert os ks r (length os) (λ i h s. old i h s)) (ap (λ l. l ∷ []) (in_order_insert q ks r (length os) (lacks (length os) q within)))
  where
    old : (i : ℕ) → i < length os → (s : Side) → get_or os i none s (length os) ≡ false
    old i h s = lacks (length os) (get_or os i none) (λ z k t. let l = lower i z k t in omega arith) s

-- what a row of sets names
pub kept_below : (n : ℕ) (p : ℕ → Bool) (ks : List ℕ) → ((k : ℕ) → p k ≡ true → k < n) → AllByRecursion (λ k. k < n) (filter p ks)
kept_below n p [] f = tt
kept_below n p (k ∷ ks) f = go (p k) refl (kept_below n p ks f)
  where
    go : (b : Bool) → p k ≡ b → AllByRecursion (λ k. k < n) (filter p ks) → AllByRecursion (λ k. k < n) (cond b (k ∷ filter p ks) (filter p ks))
    go true e rest = (f k e, rest)
    go false e rest = rest
