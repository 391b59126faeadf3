-- The tables with one more node.
-- Assumes nothing.
use Rattle.std.proofs.Common.{◌≡◌, ℕ, ◌+◌, ◌<◌, Bool, true, false, ◌&&◌, ◌||◌, eqb, ltb, List, [], ◌∷◌, ◌++◌, length, get_or, sym, refl, ap, ◌∙◌, subst, inl, inr, arith}
use Rattle.std.proofs.lemmas.Bool.{cases_order, cases_lt, lt-ltb, le-ltb, eq-eqb, ne_eqb, false≢true}
use Rattle.std.proofs.lemmas.List.{length_push, get_or_append_left, get_or_push, get_or_past}
use Rattle.games.specs.declared.side.Side.{Side}
use Rattle.games.specs.declared.side.Side.TheVariants.{Left, Right}
use Rattle.games.specs.Form.{Form}
use Rattle.games.specs.Sides.{other}
use Rattle.games.specs.Order.{◌≈◌}
use Rattle.games.specs.Canon.{Canonical}
use Rattle.games.specs.Tests.{as_good}
use Rattle.games.proofs.Order.{≈_sym}
use Rattle.games.proofs.Sides.{good_refl}
use Rattle.games.proofs.Tests.{is_canonical_lem}
use Rattle.nodesets.specs.Pairs.{Sets, Within}
use Rattle.sealing.specs.Forms.{none, node, game}
use Rattle.sealing.specs.Invariants.{Lower, Ranked, AllCanonical, Apart}
use Rattle.sealing.specs.Steps.{Compared}
use Rattle.sealing.proofs.Forming.{node_old, node_new}
use Rattle.sealing.proofs.Standing.{true_T, from_good}

module _ (os : List Sets) (o : Sets) where
  more : length (os ++ (o ∷ [])) ≡ length os + 1
  more = length_push os o

  -- what stands at a place of the longer list
  at_old : (i : ℕ) → i < length os → get_or (os ++ (o ∷ [])) i none ≡ get_or os i none
  at_old i h = get_or_append_left os (o ∷ []) none i h

  at_new : get_or (os ++ (o ∷ [])) (length os) none ≡ o
  at_new = get_or_push os o none (length os) refl

  at_past : (i : ℕ) → length os < i → get_or (os ++ (o ∷ [])) i none ≡ none
  at_past i h = get_or_past (os ++ (o ∷ [])) i none (rw more (omega arith))

  pub lower_more : Lower os → Within (length os) o → Lower (os ++ (o ∷ []))
  lower_more lower within i s k t = elim (cases_order i (length os)) [
    | inl e ↦ rw e (within s k (sym (ap (λ (x : Sets). x s k) (ap (λ j. get_or (os ++ (o ∷ [])) j none) e ∙ at_new)) ∙ t))
    | inr (inl h) ↦ lower i s k (sym (ap (λ (x : Sets). x s k) (at_old i h)) ∙ t)
    | inr (inr h) ↦ absurd (false≢true (sym (ap (λ (x : Sets). x s k) (at_past i h)) ∙ t))
  ]

  pub canonical_more : AllCanonical os → Canonical (game os o) → AllCanonical (os ++ (o ∷ []))
  canonical_more all g i h = elim (cases_lt i (length os)) [
    | inl l ↦ rw (node_old os o i l) (all i l)
    | inr l ↦
        let e : i ≡ length os = let m = more in omega arith in
        rw (e, node_new os o) (true_T _ (is_canonical_lem (game os o) g))
  ]

  pub apart_more : Apart os → ((k : ℕ) → k < length os → ¬ (game os o ≈ node os k)) → Apart (os ++ (o ∷ []))
  apart_more apart fresh i j (h, l, e) = elim (cases_lt i (length os)) [
    | inl p ↦ elim (cases_lt j (length os)) [
      | inl q ↦ apart i j (p, q, both i j (node os i) (node os j) (node_old os o i p) (node_old os o j q) e)
      | inr q ↦ let d : j ≡ length os = let m = more in omega arith in absurd (fresh i p (≈_sym (both i j (node os i) (game os o) (node_old os o i p) (ap (node (os ++ (o ∷ []))) d ∙ node_new os o) e)))
    ]
    | inr p ↦ let c : i ≡ length os = let m = more in omega arith in elim (cases_lt j (length os)) [
      | inl q ↦ absurd (fresh j q (both i j (game os o) (node os j) (ap (node (os ++ (o ∷ []))) c ∙ node_new os o) (node_old os o j q) e))
      | inr q ↦ let m = more in omega arith
    ]
  ]
    where
      both : (i j : ℕ) (x y : _) → node (os ++ (o ∷ [])) i ≡ x → node (os ++ (o ∷ [])) j ≡ y → node (os ++ (o ∷ [])) i ≈ node (os ++ (o ∷ [])) j → x ≈ y
      both i j x y p q e = subst (λ z. z ≈ y) p (subst (λ z. node (os ++ (o ∷ [])) i ≈ z) q e)

turned : (s : Side) (x y : Form) → as_good (other s) y x ≡ as_good s x y
turned Left x y = refl
turned Right x y = refl

or_none : (a : Bool) → (a || false) ≡ a
or_none true = refl
or_none false = refl

and_none : (a b : Bool) → ((a && false) && b) ≡ false
and_none true b = refl
and_none false b = refl

-- The order with one more node: w has the nodes that it is as good as, v its own row, and us the rows of the others.
module _ (os ws us : List Sets) (o w v : Sets) (same : length us ≡ length os) (ranked : Ranked os ws) (known : Compared os o (length os) w)
    (old : (i : ℕ) (s : Side) (k : ℕ) → i < length os → get_or us i none s k ≡ ((eqb k (length os) && w (other s) i) || get_or ws i none s k)) (own : (s : Side) (k : ℕ) → v s k ≡ (eqb k (length os) || w s k)) where
  abbrev after : List Sets
  after = os ++ (o ∷ [])

  longer : length after ≡ length os + 1
  longer = more os o

  inside : (k : ℕ) → k < length os → ltb k (length after) ≡ true
  inside k h = lt-ltb k (length after) (let m = longer in omega arith)

  last : ltb (length os) (length after) ≡ true
  last = lt-ltb (length os) (length after) (let m = longer in omega arith)

  outside : (k : ℕ) → length os < k → ltb k (length after) ≡ false
  outside k h = le-ltb k (length after) (let m = longer in omega arith)

  abbrev wanted : ℕ → Side → ℕ → Bool
  wanted i s k = (ltb i (length after) && ltb k (length after)) && as_good s (node after i) (node after k)

  at_old_row : (i : ℕ) → i < length os → (s : Side) (k : ℕ) → ((eqb k (length os) && w (other s) i) || get_or ws i none s k) ≡ wanted i s k
  at_old_row i h s k = elim (cases_order k (length os)) [
    | inl e ↦ subst (λ k. ((eqb k (length os) && w (other s) i) || get_or ws i none s k) ≡ wanted i s k) (sym e)
        (rw (eq-eqb (length os) (length os) refl, ranked i s (length os), le-ltb (length os) (length os) (omega arith), known (other s) i, lt-ltb i (length os) h, inside i h, last, node_old os o i h, node_new os o)
        (or_none (as_good (other s) (game os o) (node os i)) ∙ turned s (node os i) (game os o)))
    | inr (inl l) ↦ rw (ne_eqb k (length os) (λ e. omega arith), ranked i s k, lt-ltb i (length os) h, lt-ltb k (length os) l, inside i h, inside k l, node_old os o i h, node_old os o k l)
    | inr (inr l) ↦ rw (ne_eqb k (length os) (λ e. omega arith), ranked i s k, le-ltb k (length os) (omega arith), outside k l)
        (and_none (ltb i (length os)) _ ∙ sym (and_none (ltb i (length after)) _))
  ]

  at_new_row : (s : Side) (k : ℕ) → (eqb k (length os) || w s k) ≡ wanted (length os) s k
  at_new_row s k = elim (cases_order k (length os)) [
    | inl e ↦ subst (λ k. (eqb k (length os) || w s k) ≡ wanted (length os) s k) (sym e) (rw (eq-eqb (length os) (length os) refl, last, node_new os o, from_good s (good_refl s (game os o))))
    | inr (inl l) ↦ rw (ne_eqb k (length os) (λ e. omega arith), known s k, lt-ltb k (length os) l, last, inside k l, node_new os o, node_old os o k l)
    | inr (inr l) ↦ rw (ne_eqb k (length os) (λ e. omega arith), known s k, le-ltb k (length os) (omega arith), outside k l) (sym (and_none (ltb (length os) (length after)) _))
  ]

  pub ranked_more : Ranked after (us ++ (v ∷ []))
  ranked_more i s k = elim (cases_order i (length os)) [
    | inl e ↦ subst (λ i. get_or (us ++ (v ∷ [])) i none s k ≡ wanted i s k) (sym e) (ap (λ (x : Sets). x s k) (get_or_push us v none (length os) same) ∙ own s k ∙ at_new_row s k)
    | inr (inl h) ↦ ap (λ (x : Sets). x s k) (at_old us v i (omega arith)) ∙ old i s k h ∙ at_old_row i h s k
    | inr (inr h) ↦ ap (λ (x : Sets). x s k) (at_past us v i (omega arith)) ∙ rw (outside i h)
  ]
