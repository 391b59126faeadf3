-- A node's place among the listed nodes below it, and the listing with it.
-- Assumes nothing.
use Rattle.std.proofs.Common.{◌≡◌, ℕ, zero, suc, ◌+◌, ◌<◌, ◌≤◌, Bool, true, false, ◌&&◌, ◌||◌, eqb, ltb, List, [], ◌∷◌, ◌++◌, length, get_or, take, drop, vec_items, vec_len, Ordering, Less, Equal, Greater, sym, refl, ap, ◌∙◌, subst, ap₂, inl, inr, arith}
use Rattle.std.proofs.lemmas.Bool.{and_parts, and_from, ltb-true, lt-ltb, or_left, or_right, or_cases, eqb-true, eq-eqb, cases_eq, cases_lt, false≢true}
use Rattle.std.specs.Ordering.{is_lt}
use Rattle.std.specs.List.Sorted.{IsPartitionedBy, IsPartitionPoint}
use Rattle.std.proofs.lemmas.List.Folds.{list_any_at}
use Rattle.std.proofs.lemmas.List.{get_or-map, get_or_default}
use Rattle.games.specs.Form.{Form, ◌&◌, ◌∈◌}
use Rattle.games.specs.Order.{◌≈◌}
use Rattle.games.specs.Listing.{listing, ◌≺◌, Rising}
use Rattle.games.specs.Tests.{rising}
use Rattle.games.proofs.Order.{≈_refl}
use Rattle.games.proofs.Sort.{rising_cons}
use Rattle.games.proofs.Listing.{≺_trans, listing_equal, listing_turn, turn, rising_tail, rising_first}
use Rattle.games.proofs.Tests.{rising_is, is_rising}
use Rattle.sealing.specs.declared.row.Row.{Row}
use Rattle.sealing.specs.declared.nodes.Nodes.{Nodes}
use Rattle.nodesets.specs.Pairs.{Sets, by}
use Rattle.sealing.specs.Forms.{none, node}
use Rattle.sealing.specs.Rows.{options_of}
use Rattle.sealing.specs.Walks.{any_of, pair_order, all_below, Complete, Rises}
use Rattle.sealing.specs.Views.{links}
use Rattle.sealing.specs.Walks.{Placed}
use Rattle.sealing.proofs.Forming.{node_old}
use Rattle.sealing.proofs.Standing.{T_true, true_T}
use Rattle.sealing.proofs.Walking.{below_at}
use Rattle.sealing.proofs.Whole.{there_links, in_rows}
use Rattle.sealing.proofs.Listed.{everyone, walked, walked_all, order_is, game_node, walked_back, walked_into}

pub below_any : (n : ℕ) (ks : List ℕ) → all_below n ks ≡ true → (k : ℕ) → any_of (λ j. eqb j k) ks ≡ true → k < n
below_any n [] t k u = absurd (false≢true u)
below_any n (j ∷ ks) t k u =
    let (a, b) = and_parts (ltb j n) (all_below n ks) t in
    elim (or_cases (eqb j k) (any_of (λ i. eqb i k) ks) u) [ inl e ↦ (let l = ltb-true j n a in let f = eqb-true j k e in omega arith) | inr e ↦ below_any n ks b k e ]

pub below_wider : (n m : ℕ) (ks : List ℕ) → n ≤ m → all_below n ks ≡ true → all_below m ks ≡ true
below_wider n m [] h t = refl
below_wider n m (k ∷ ks) h t =
    let (a, b) = and_parts (ltb k n) (all_below n ks) t in
    and_from _ _ (lt-ltb k m (let l = ltb-true k n a in omega arith)) (below_wider n m ks h b)

pub rises_from : (os : List Sets) (ks : List ℕ) → Rises os ks → Rising (walked (node os) everyone ks)
rises_from os ks e = rising_is (walked (node os) everyone ks) (T_true _ (ap rising (walked_all (node os) ks) ∙ e))

options_eq : (rows : List Row) (i : ℕ) (r : Row) → i < length rows → r ≡ get_or rows i r → get_or (options_of rows) i none ≡ by r.options
options_eq rows i r h e = get_or-map (λ r. by r.options) rows i r none h ∙ ap (λ (x : Row). by x.options) (sym e)

pub less_from : (o : Ordering) → is_lt o ≡ true → o ≡ Less
less_from Less e = refl
less_from Equal e = absurd (false≢true e)
less_from Greater e = absurd (false≢true e)

-- each form of a rising listing comes before those behind it
rises_far : (f : ℕ → Form) (ks : List ℕ) → Rising (walked f everyone ks) → (i j : ℕ) → i < j → j < length ks → f (get_or ks i 0) ≺ f (get_or ks j 0)
rises_far f [] r i j h l = absurd (omega arith)
rises_far f (k ∷ ks) r i zero h l = absurd (omega arith)
rises_far f (k ∷ ks) r zero (suc j) h l =
    rising_first (walked f everyone ks) r (walked_into f everyone ks (get_or ks j 0) (list_any_at (λ i. eqb i (get_or ks j 0)) ks j 0 (omega arith) (eq-eqb (get_or ks j 0) (get_or ks j 0) refl)) refl)
rises_far f (k ∷ ks) r (suc i) (suc j) h l = rises_far f ks (rising_tail (f k) (walked f everyone ks) r) i j (omega arith) (omega arith)

-- whether the node j comes before the options of a row in the listing ks
abbrev pub is_earlier : List Sets → List ℕ → Sets → ℕ → Bool
is_earlier os ks o j = ltb j (length os) && is_lt (pair_order (get_or os j none) o ks)

pub earlier_row : (t : Nodes) (ks : List ℕ) (o : Sets) (j : ℕ) → j < vec_len t.rows → (r : Row) → r ≡ get_or (vec_items t.rows) j r → is_lt (pair_order (by r.options) o ks) ≡ is_earlier (links t) ks o j
earlier_row t ks o j h r e = sym (rw (lt-ltb j (length (links t)) (there_links t j h)) (ap (λ x. is_lt (pair_order x o ks)) (options_eq (vec_items t.rows) j r (in_rows t j h) e)))

module _ (t : Nodes) (ks : List ℕ) (k : ℕ) (there : k < vec_len t.rows) (below : all_below k ks ≡ true) (complete : Complete k ks) (rises : Rises (links t) ks) (a : Row) (a_is : a ≡ get_or (vec_items t.rows) k a) where
  abbrev Before : ℕ → Type 0
  Before i = node (links t) (get_or ks i 0) ≺ node (links t) k

  module _ (i : ℕ) (at : i < length ks) where
    lower_one : get_or ks i 0 < k
    lower_one = below_at k ks i below at

    there_one : get_or ks i 0 < vec_len t.rows
    there_one = let l = lower_one in omega arith

    compared : pair_order (get_or (links t) (get_or ks i 0) none) (by a.options) ks ≡ listing (node (links t) (get_or ks i 0)) (node (links t) k)
    compared =
        let l = lower_one in
        let h = there_links t k there in
        ap (λ x. pair_order (get_or (links t) (get_or ks i 0) none) x ks) (sym (options_eq (vec_items t.rows) k a (in_rows t k there) a_is))
        ∙ sym (order_is (links t) k ks (omega arith) complete (below_any k ks below) (rises_from (links t) ks rises) (get_or (links t) (get_or ks i 0) none) (get_or (links t) k none)
        (λ s j u. let m = t.lower (get_or ks i 0) s j u in omega arith) (λ s j u. t.lower k s j u))
        ∙ ap₂ listing (game_node (links t) t.lower (get_or ks i 0) (there_links t (get_or ks i 0) there_one)) (game_node (links t) t.lower k h)

    tested : is_earlier (links t) ks (by a.options) (get_or ks i 0) ≡ is_lt (listing (node (links t) (get_or ks i 0)) (node (links t) k))
    tested = rw (lt-ltb _ _ (there_links t (get_or ks i 0) there_one)) (ap is_lt compared)

    earlier : is_earlier (links t) ks (by a.options) (get_or ks i 0) ≡ true → Before i
    earlier e = record { less = less_from (listing (node (links t) (get_or ks i 0)) (node (links t) k)) (sym tested ∙ e) }

    is_before : Before i → is_earlier (links t) ks (by a.options) (get_or ks i 0) ≡ true
    is_before b = tested ∙ ap is_lt b.less

    -- no two nodes are alike, so what does not come before comes behind
    later : is_earlier (links t) ks (by a.options) (get_or ks i 0) ≡ false → node (links t) k ≺ node (links t) (get_or ks i 0)
    later e = record { less = listing_turn (node (links t) (get_or ks i 0)) (node (links t) k) ∙ turned (listing (node (links t) (get_or ks i 0)) (node (links t) k)) refl }
      where
        turned : (o : Ordering) → listing (node (links t) (get_or ks i 0)) (node (links t) k) ≡ o → turn (listing (node (links t) (get_or ks i 0)) (node (links t) k)) ≡ Less
        turned Less f = absurd (false≢true (sym e ∙ is_before (record { less = f })))
        turned Greater f = rw f
        turned Equal f =
            let l = lower_one in
            let same = listing_equal (node (links t) (get_or ks i 0)) (node (links t) k) f in
            let alike : node (links t) (get_or ks i 0) ≈ node (links t) k = subst (λ x. node (links t) (get_or ks i 0) ≈ x) same (≈_refl (node (links t) (get_or ks i 0))) in
            let g = t.apart (get_or ks i 0) k (there_links t (get_or ks i 0) there_one, there_links t k there, alike) in
            absurd (omega arith)

  -- those before one that comes before the node come before it too
  pub parted : IsPartitionedBy (is_earlier (links t) ks (by a.options)) ks
  parted i j d h l e =
      let at : i < length ks = omega arith in
      let later_one : Before j = earlier j l (subst (λ m. is_earlier (links t) ks (by a.options) m ≡ true) (get_or_default ks j d 0 l) e) in
      subst (λ m. is_earlier (links t) ks (by a.options) m ≡ true) (get_or_default ks i 0 d at)
      (is_before i at (elim (cases_eq i j) [ inl f ↦ subst Before (sym f) later_one | inr f ↦ ≺_trans (rises_far (node (links t)) ks (rises_from (links t) ks rises) i j (omega arith) l) later_one ]))

  pub placed : (r : ℕ) → r ≤ length ks → IsPartitionPoint (λ j. is_earlier (links t) ks (by a.options) j ≡ true) (λ j. is_earlier (links t) ks (by a.options) j ≡ false) ks r → Placed (links t) ks k r
  placed r h p = record {
    within = h;
    before = λ j l. earlier j (omega arith) (p.0 j 0 (omega arith) l);
    after = λ l. later r l (p.1 r 0 (omega arith) l);
  }

-- the listing with one more node, at its place
pub any_insert : (p : ℕ → Bool) (ks : List ℕ) (r k : ℕ) → any_of p (take r ks ++ (k ∷ drop r ks)) ≡ (p k || any_of p ks)
any_insert p ks zero k = refl
any_insert p [] (suc r) k = refl
any_insert p (j ∷ ks) (suc r) k = ap (λ b. p j || b) (any_insert p ks r k) ∙ swap (p j) (p k) (any_of p ks)
  where
    swap : (a b c : Bool) → (a || (b || c)) ≡ (b || (a || c))
    swap true true c = refl
    swap true false c = refl
    swap false true c = refl
    swap false false c = refl

pub below_insert : (n : ℕ) (ks : List ℕ) (r k : ℕ) → k < n → all_below n ks ≡ true → all_below n (take r ks ++ (k ∷ drop r ks)) ≡ true
below_insert n ks zero k h t = and_from _ _ (lt-ltb k n h) t
below_insert n [] (suc r) k h t = and_from _ _ (lt-ltb k n h) refl
below_insert n (j ∷ ks) (suc r) k h t = let (a, b) = and_parts (ltb j n) (all_below n ks) t in and_from _ _ a (below_insert n ks r k h b)

pub rises_insert : (f : ℕ → Form) (ks : List ℕ) (r k : ℕ) → r ≤ length ks → Rising (walked f everyone ks) → ((j : ℕ) → j < r → f (get_or ks j 0) ≺ f k) → (r < length ks → f k ≺ f (get_or ks r 0))
    → Rising (walked f everyone (take r ks ++ (k ∷ drop r ks)))
rises_insert f [] zero k h r before after = tt
rises_insert f (j ∷ ks) zero k h r before after = (after (omega arith), r)
rises_insert f [] (suc i) k h r before after = absurd (omega arith)
rises_insert f (j ∷ ks) (suc i) k h r before after =
    rising_cons (walked f everyone (take i ks ++ (k ∷ drop i ks))) first
    (rises_insert f ks i k (omega arith) (rising_tail (f j) (walked f everyone ks) r) (λ m l. before (suc m) (omega arith)) (λ l. after (omega arith)))
  where
    first : (z : Form) → z ∈ walked f everyone (take i ks ++ (k ∷ drop i ks)) → f j ≺ z
    first z m =
        let (x, t, e, a) = walked_back f everyone (take i ks ++ (k ∷ drop i ks)) z m in
        elim (or_cases (eqb k x) (any_of (λ y. eqb y x) ks) (sym (any_insert (λ y. eqb y x) ks i k) ∙ a)) [
          | inl g ↦ subst (λ w. f j ≺ w) (ap f (eqb-true k x g) ∙ sym e) (before 0 (omega arith))
          | inr g ↦ subst (λ w. f j ≺ w) (sym e) (rising_first (walked f everyone ks) r (walked_into f everyone ks x g refl))
        ]

-- the forms of old nodes are as they were
walked_same : (f g : ℕ → Form) (n : ℕ) (ks : List ℕ) → ((k : ℕ) → k < n → f k ≡ g k) → all_below n ks ≡ true → walked f everyone ks ≡ walked g everyone ks
walked_same f g n [] e t = refl
walked_same f g n (k ∷ ks) e t = let (a, b) = and_parts (ltb k n) (all_below n ks) t in ap₂ ◌&◌ (e k (ltb-true k n a)) (walked_same f g n ks e b)

pub rises_old : (os : List Sets) (o : Sets) (ks : List ℕ) → all_below (length os) ks ≡ true → Rises os ks → Rises (os ++ (o ∷ [])) ks
rises_old os o ks t r = ap rising (sym (walked_all (node (os ++ (o ∷ []))) ks) ∙ walked_same (node (os ++ (o ∷ []))) (node os) (length os) ks (λ k h. node_old os o k h) t ∙ walked_all (node os) ks) ∙ r

pub rises_new : (os : List Sets) (ks : List ℕ) (r k : ℕ) → Rises os ks → Placed os ks k r → Rises os (take r ks ++ (k ∷ drop r ks))
rises_new os ks r k e p = ap rising (sym (walked_all (node os) (take r ks ++ (k ∷ drop r ks)))) ∙ true_T _ (is_rising (walked (node os) everyone (take r ks ++ (k ∷ drop r ks))) (rises_insert (node os) ks r k p.within (rises_from os ks e) p.before p.after))

pub complete_new : (n : ℕ) (ks : List ℕ) (r : ℕ) → Complete n ks → Complete (n + 1) (take r ks ++ (n ∷ drop r ks))
complete_new n ks r c k h = any_insert (λ j. eqb j k) ks r n ∙ elim (cases_lt k n) [
  | inl l ↦ or_right (eqb n k) _ (c k l)
  | inr l ↦ or_left (eqb n k) _ (eq-eqb n k (omega arith))
]
