-- What the tables say of the nodes, and what sealing answers.
-- Assumes nothing.
use Rattle.std.proofs.Common.{◌≡◌, ℕ, ◌+◌, ◌<◌, Bool, true, cond, List, [], ◌∷◌, ◌++◌, map, length, get_or, take, drop, vec_items, vec_len, vec_capacity, filter, sym, refl, ap, ◌∙◌, subst, arith, Result, Ok, Err}
use Rattle.std.specs.List.{AllByRecursion}
use Rattle.std.proofs.lemmas.List.{length-map, length_push, get_or-map}
use Rattle.std.proofs.lemmas.Bool.{cond-true}
use Rattle.games.specs.declared.side.Side.{Side}
use Rattle.games.specs.declared.side.Side.TheVariants.{Left, Right}
use Rattle.games.specs.Form.{lefts, rights}
use Rattle.games.specs.Order.{◌≈◌}
use Rattle.games.specs.Canon.{Canonical}
use Rattle.games.specs.Numbered.{Lists, list_of, each, form_by}
use Rattle.games.specs.Tests.{is_canonical}
use Rattle.games.proofs.Order.{≈_refl, ≈_trans, ≈_sym}
use Rattle.games.proofs.Tests.{canonical_is}
use Rattle.games.proofs.Unique.{unique}
use Rattle.nodesets.specs.Pairs.{Sets, Within}
use Rattle.nodesets.specs.declared.pair.Pair.{Pair}
use Rattle.sealing.specs.Forms.{node, game, none}
use Rattle.sealing.specs.Steps.{Settled}
use Rattle.sealing.specs.Views.{links}
use Rattle.sealing.specs.Seals.{in_order, row_of, rows_of, count, row_at, node_of, form_of, Sound, Fresh, CanonicalRow, Narrow, NewRow, SealsTo}
use Rattle.sealing.specs.declared.seal.Sealed.{Sealed}
use Rattle.sealing.specs.declared.seal.SealFault.{SealFault}
use Rattle.sealing.specs.declared.seal.Sealed.TheVariants.{Node, New}
use Rattle.sealing.specs.declared.seal.SealFault.TheVariants.{Unknown, Wide}
use Rattle.sealing.specs.Walks.{Placed}
use Rattle.sealing.specs.declared.nodes.Nodes.{Nodes}
use Rattle.sealing.specs.declared.tables.Tables.{Tables}
use Rattle.sealing.proofs.Standing.{T_true}
use Rattle.sealing.proofs.Whole.{count_rows}
use Rattle.sealing.proofs.Listed.{game_node}
use Rattle.sealing.proofs.Kept.{Listing, listing_new, rows_more, game_form, kept_below}

pub listing_of : (t : Tables) → Listing (links t.nodes) (vec_items t.listing)
listing_of t = record { below = t.below; complete = t.complete; rises = t.rises }

pub count_links : (t : Tables) → count t ≡ length (links t.nodes)
count_links t = length-map (links t.nodes) (in_order (vec_items t.listing))

pub count_is : (t : Tables) → vec_len t.nodes.rows ≡ count t
count_is t = count_rows t.nodes ∙ sym (count_links t)

row_side : (ks : List ℕ) (o : Sets) (s : Side) → list_of s (in_order ks o) ≡ filter (o s) ks
row_side ks o Left = refl
row_side ks o Right = refl

pub row_below : (n : ℕ) (ks : List ℕ) (o : Sets) → Within n o → (s : Side) → AllByRecursion (λ j. j < n) (list_of s (in_order ks o))
row_below n ks o within s = rw (row_side ks o s) (kept_below n (o s) ks (within s))

module _ (t : Tables) where
  at_links : (k : ℕ) → k < count t → k < length (links t.nodes)
  at_links k h = let e = count_links t in omega arith

  pub form_is : (o : Sets) → Within (count t) o → game (links t.nodes) o ≡ form_of t o
  form_is o within = game_form (links t.nodes) (vec_items t.listing) (listing_of t) o (subst (λ n. Within n o) (count_links t) within)

  row_is : (k : ℕ) → k < count t → row_at t k ≡ row_of t (get_or (links t.nodes) k none)
  row_is k h = get_or-map (in_order (vec_items t.listing)) (links t.nodes) k none _ (at_links k h)

  inside : (k : ℕ) → k < count t → Within k (get_or (links t.nodes) k none)
  inside k h s j u = t.nodes.lower k s j u

  pub sound : Sound t
  sound = record {
    reads = λ k h. sym (game_node (links t.nodes) t.nodes.lower k (at_links k h)) ∙ form_is (get_or (links t.nodes) k none) (λ s j u. let l = inside k h s j u in omega arith) ∙ ap (form_by (node_of t)) (sym (row_is k h));
    lower = λ k h s. subst (λ l. AllByRecursion (λ j. j < k) (list_of s l)) (sym (row_is k h)) (row_below k (vec_items t.listing) (get_or (links t.nodes) k none) (inside k h) s);
    canonical = λ k h. canonical_is (node_of t k) (T_true (is_canonical (node_of t k)) (t.nodes.canonical k (at_links k h)));
    apart = λ j k h l e. t.nodes.apart j k (at_links j h, at_links k l, e);
  }

  -- two lists of nodes with the same forms are one
  each_same : (xs ys : List ℕ) → AllByRecursion (λ j. j < count t) xs → AllByRecursion (λ j. j < count t) ys → each (node_of t) xs ≡ each (node_of t) ys → xs ≡ ys
  each_same [] [] a b e = refl
  each_same [] (y ∷ ys) a b e = let z : ◌≡◌ {A = ℕ} 0 1 = cc in absurd (omega arith)
  each_same (x ∷ xs) [] a b e = let z : ◌≡◌ {A = ℕ} 0 1 = cc in absurd (omega arith)
  each_same (x ∷ xs) (y ∷ ys) (h, a) (l, b) e =
      let f : node_of t x ≡ node_of t y = cc in
      let g : each (node_of t) xs ≡ each (node_of t) ys = cc in
      let p : x ≡ y = sound.apart x y h l (subst (λ z. node_of t x ≈ z) f (≈_refl (node_of t x))) in
      let q : xs ≡ ys = each_same xs ys a b g in
      cc

  pub row_one : (o : Sets) (l m : Lists) → CanonicalRow t o l → CanonicalRow t o m → l ≡ m
  row_one o l m a b =
      let e : form_by (node_of t) l ≡ form_by (node_of t) m = unique a.canonical b.canonical (≈_trans (≈_sym a.value) b.value) in
      let f : l.left ≡ m.left = each_same l.left m.left (a.names Left) (b.names Left) (ap lefts e) in
      let g : l.right ≡ m.right = each_same l.right m.right (a.names Right) (b.names Right) (ap rights e) in
      rows f g
    where
      rows : {l m : Lists} → l.left ≡ m.left → l.right ≡ m.right → l ≡ m
      rows {l} {m} p q = ap (λ (x : List ℕ). let z : Lists = record { left = x; right = l.right } in z) p ∙ ap (λ (x : List ℕ). let z : Lists = record { left = m.left; right = x } in z) q

  -- what sealing answers; n is the count of nodes as the code has it
  module _ (o : Sets) (within : Within (vec_len t.nodes.rows) o) where
    pub all_within : Within (count t) o
    all_within = subst (λ n. Within n o) (count_is t) within

    here : game (links t.nodes) o ≡ form_of t o
    here = form_is o all_within

    pub seals_node : (k : ℕ) → k < vec_len t.nodes.rows → game (links t.nodes) o ≈ node (links t.nodes) k → SealsTo (Ok (Node k)) t o
    seals_node k h e = (all_within, subst (λ n. k < n) (count_is t) h, subst (λ g. g ≈ node_of t k) here e)

    module _ (none_equal : (k : ℕ) → k < vec_len t.nodes.rows → ¬ (game (links t.nodes) o ≈ node (links t.nodes) k)) (q : Sets) (settled : Settled (links t.nodes) o q) where
      pub fresh : Fresh t o
      fresh k h e = none_equal k (subst (λ n. k < n) (sym (count_is t)) h) (subst (λ g. g ≈ node_of t k) (sym here) e)

      pub q_within : Within (count t) q
      q_within = subst (λ n. Within n q) (sym (count_links t)) settled.within

      pub row : CanonicalRow t o (row_of t q)
      row = record {
        names = row_below (count t) (vec_items t.listing) q q_within;
        value = subst (λ g. g ≈ form_of t q) here (subst (λ g. game (links t.nodes) o ≈ g) (form_is q q_within) settled.value);
        canonical = subst (λ g. Canonical g) (form_is q q_within) settled.canonical;
      }

      pub seals_wide : (Narrow (row_of t q) → ⊥) → SealsTo (Err Wide) t o
      seals_wide f = (all_within, fresh, (row_of t q, row, f))

      pub new_row : Narrow (row_of t q) → NewRow t o (row_of t q)
      new_row n = record { within = all_within; fresh = fresh; row = row; narrow = n }

  -- where no new row was answered, none is wanted
  pub no_row : (o : Sets) (r : Result Sealed SealFault) → SealsTo r t o → ((p : Pair) → r ≡ Ok (New p) → ⊥) → (l : Lists) → NewRow t o l → ⊥
  no_row o (Err Unknown) a d l n = a n.within
  no_row o (Ok (Node k)) (w, h, e) d l n = n.fresh k h e
  no_row o (Err Wide) (w, f, (m, row, wide)) d l n = wide (subst (λ x. Narrow x) (row_one o l m n.row row) n.narrow)
  no_row o (Ok (New p)) a d l n = d p refl

  -- a canonical row equals no node where the sets do not
  pub fresh_row : (o : Sets) (l : Lists) → NewRow t o l → (k : ℕ) → k < count t → ¬ (form_by (node_of t) l ≈ node_of t k)
  fresh_row o l n k h e = n.fresh k h (≈_trans n.row.value e)

-- one more node: o is its options, and the listing ks has its number at the place r
module _ (t : Tables) (after : Nodes) (o : Sets) (grew : links after ≡ links t.nodes ++ (o ∷ [])) where
  pub one_more : vec_len after.rows ≡ vec_len t.listing + 1
  one_more =
      let a = count_rows after in
      let b = ap length grew ∙ length_push (links t.nodes) o in
      let d = count_rows t.nodes in
      let e = t.whole in
      omega arith

  -- there is room for the number
  pub room : vec_len t.listing < vec_capacity t.listing
  room =
      let a = one_more in
      let f = after.few in
      let g = t.reserved in
      omega arith

  module _ (ks : List ℕ) (ok : Bool) (r k : ℕ) (k_is : k ≡ vec_len t.nodes.rows) (went_in : ok ≡ true) (put : ks ≡ cond ok (take r (vec_items t.listing) ++ (k ∷ drop r (vec_items t.listing))) (vec_items t.listing)) where
    ks_is : ks ≡ take r (vec_items t.listing) ++ (length (links t.nodes) ∷ drop r (vec_items t.listing))
    ks_is = put ∙ cond-true ok _ _ went_in ∙ ap (λ n. take r (vec_items t.listing) ++ (n ∷ drop r (vec_items t.listing))) (k_is ∙ count_rows t.nodes)

    pub listing_after : Placed (links after) (vec_items t.listing) k r → Listing (links after) ks
    listing_after p =
        subst (λ x. Listing (links after) x) (sym ks_is)
        (listing_new (links t.nodes) (links after) o (vec_items t.listing) r grew (listing_of t) (subst (λ n. Placed (links after) (vec_items t.listing) n r) (k_is ∙ count_rows t.nodes) p))

    pub rows_after : Within (count t) o → map (in_order ks) (links after) ≡ rows_of t ++ (row_of t o ∷ [])
    rows_after within =
        ap (λ x. map (in_order x) (links after)) ks_is
        ∙ rows_more (links t.nodes) (links after) o (vec_items t.listing) r grew t.nodes.lower (subst (λ n. Within n o) (count_links t) within)
