-- What the tables find is what sealing answers.
-- Assumes nothing.
use Rattle.std.proofs.Common.{◌≡◌, ℕ, suc, ◌<◌, ◌≤◌, List, [], ◌∷◌, ◌++◌, length, Some, None, vec_items, Option, sym, refl, ap, ◌∙◌, subst, inl, inr, arith, Ok, Err}
use Rattle.games.specs.declared.side.Side.TheVariants.{Left, Right}
use Rattle.games.specs.Form.{Form}
use Rattle.games.specs.Numbered.{Lists, each, form_by}
use Rattle.games.specs.Order.{◌≈◌}
use Rattle.games.proofs.Order.{≈_sym}
use Rattle.nodesets.specs.Pairs.{Sets, Within}
use Rattle.sealing.specs.declared.tables.Tables.{Tables}
use Rattle.sealing.specs.declared.seal.SealFault.{SealFault}
use Rattle.sealing.specs.declared.seal.SealFault.TheVariants.{Unknown, Wide}
use Rattle.sealing.specs.declared.seal.Sealed.TheVariants.{Node}
use Rattle.dictionary.specs.Faults.{number_of, seal_fault}
use Rattle.sealing.specs.Seals.{CanonicalRow, Extended, Fresh, NewRow, SealsTo, count, form_of, row_of, rows_of}
use Rattle.sealing.specs.Seals.{Narrow as NarrowRow}
use Rattle.sealing.proofs.Sealing.{row_below, row_one}
use Rattle.calls.specs.Answers.{Answer, told, refused}
use Rattle.calls.specs.Rows.{Below, Rows, node}
use Rattle.calls.specs.Sealing.{CanonicalFormOf, Narrow, New, Seals, SealsNumbers, found, added, too_wide, no_place}
use Rattle.calls.specs.Sealing.{count as how_many}
use Rattle.calls.proofs.Members.{sealing_goes_by_members}
use Rattle.dictionary.specs.Kept.{Kept, ListsOf}
use Rattle.dictionary.proofs.Listed.{lists_within, row_lists}
use Rattle.dictionary.proofs.Tied.{agree, agree_form}

each_count : (f : ℕ → Form) (xs : List ℕ) → how_many (each f xs) ≡ length xs
each_count f [] = refl
each_count f (x ∷ xs) = ap suc (each_count f xs)

pub narrow_form : (f : ℕ → Form) (l : Lists) → NarrowRow l → Narrow (form_by f l)
narrow_form f l n = record { on_left = rw (each_count f l.left) (n Left); on_right = rw (each_count f l.right) (n Right) }

narrow_row : (f : ℕ → Form) (l : Lists) → Narrow (form_by f l) → NarrowRow l
narrow_row f l n Left = subst (λ k. k ≤ 16) (each_count f l.left) n.on_left
narrow_row f l n Right = subst (λ k. k ≤ 16) (each_count f l.right) n.on_right

module _ (t : Tables) (o : Sets) where
  fresh_new : Fresh t o → New (rows_of t) (form_of t o)
  fresh_new f n h e = f n h (≈_sym (subst (λ g. g ≈ form_of t o) (sym (agree t n h)) e))

  below : (l : Lists) → CanonicalRow t o l → Below (count t) l
  below l row = record { on_left = row.names Left; on_right = row.names Right }

  canonical_form : (l : Lists) → CanonicalRow t o l → CanonicalFormOf (form_of t o) (form_by (node (rows_of t)) l)
  canonical_form l row = subst (λ h. CanonicalFormOf (form_of t o) h) (agree_form t l (below l row)) (record { is_canonical = row.canonical; same_value = ≈_sym row.value })

  -- a canonical row names nodes
  pub row_names : (l : Lists) → NewRow t o l → Below (count t) l
  row_names l n = below l n.row

  -- the tables have one more row, where there was one to add
  pub extended : (r : Option ℕ) (after : Tables) (l : Lists) → Extended r t after o → NewRow t o l → count t < 384 → rows_of after ≡ rows_of t ++ l ∷ []
  extended None after l (e, inl f) n h = absurd (f l n)
  extended None after l (e, inr f) n h = absurd (omega arith)
  extended (Some k) after l (e, (m, new, f)) n h = f ∙ ap (λ x. rows_of t ++ x ∷ []) (row_one t o m l new.row n.row)

module _ (rows : Rows) (t : Tables) (kept : Kept rows t) (room : ℕ) (o : Sets) (l : Lists) (lists : ListsOf o l) where
  row_in : Within (count t) o → Below (count t) (row_of t o)
  row_in w = record { on_left = row_below (count t) (vec_items t.listing) o w Left; on_right = row_below (count t) (vec_items t.listing) o w Right }

  sealed : Within (count t) o → (a : Answer ℕ) (more : Rows) → Seals room (rows_of t) (form_of t o) a (rows_of t ++ more) → SealsNumbers room rows l a (rows ++ more)
  sealed w a more s =
      subst (λ r. SealsNumbers room r l a (r ++ more)) (sym kept)
      (sealing_goes_by_members room (rows_of t) (rows_of t ++ more) a (row_of t o) l
      (λ k. let p = row_lists t o w Left k in let q = lists Left k in (λ i. q.1 (p.0 i), λ i. p.1 (q.0 i)))
      (λ k. let p = row_lists t o w Right k in let q = lists Right k in (λ i. q.1 (p.0 i), λ i. p.1 (q.0 i)))
      (SealsNumbers.known (row_in w) (subst (λ g. Seals room (rows_of t) g a (rows_of t ++ more)) (agree_form t (row_of t o) (row_in w)) s)))

  same_rows : Within (count t) o → (a : Answer ℕ) → Seals room (rows_of t) (form_of t o) a (rows_of t) → SealsNumbers room rows l a rows
  same_rows w a s =
      subst (λ r. SealsNumbers room r l a r) (sym kept)
      (sealing_goes_by_members room (rows_of t) (rows_of t) a (row_of t o) l
      (λ k. let p = row_lists t o w Left k in let q = lists Left k in (λ i. q.1 (p.0 i), λ i. p.1 (q.0 i)))
      (λ k. let p = row_lists t o w Right k in let q = lists Right k in (λ i. q.1 (p.0 i), λ i. p.1 (q.0 i)))
      (SealsNumbers.known (row_in w) (subst (λ g. Seals room (rows_of t) g a (rows_of t)) (agree_form t (row_of t o) (row_in w)) s)))

  pub seals_unknown : (Within (count t) o → ⊥) → SealsNumbers room rows l (refused 1) rows
  seals_unknown f = SealsNumbers.unknown (λ b. f (lists_within (count t) o l lists (subst (λ r. Below (length r) l) kept b)))

  pub seals_node : (k : ℕ) → SealsTo (Ok (Node k)) t o → SealsNumbers room rows l (told k) rows
  seals_node k (w, h, e) = same_rows w (told k) (found k h (subst (λ g. g ≈ form_of t o) (agree t k h) (≈_sym e)))

  pub seals_wide : SealsTo (Err Wide) t o → SealsNumbers room rows l (refused 2) rows
  seals_wide (w, f, (m, row, wide)) = same_rows w (refused 2) (too_wide (fresh_new t o f) (form_by (node (rows_of t)) m) (canonical_form t o m row) (λ n. wide (narrow_row (node (rows_of t)) m n)))

  pub seals_refused : (f : SealFault) → SealsTo (Err f) t o → SealsNumbers room rows l (refused (number_of (seal_fault f))) rows
  seals_refused Unknown x = seals_unknown x
  seals_refused Wide x = seals_wide x

  pub seals_full : (r : Lists) → NewRow t o r → room ≤ count t → SealsNumbers room rows l (refused 3) rows
  seals_full r n h = same_rows n.within (refused 3) (no_place (fresh_new t o n.fresh) (form_by (node (rows_of t)) r) (canonical_form t o r n.row) (narrow_form (node (rows_of t)) r n.narrow) h)

  pub seals_new : (r : Lists) → NewRow t o r → count t < room → SealsNumbers room rows l (told (count t)) (rows ++ r ∷ [])
  seals_new r n h = sealed n.within (told (count t)) (r ∷ []) (added (fresh_new t o n.fresh) r (row_names t o r n) (canonical_form t o r n.row) (narrow_form (node (rows_of t)) r n.narrow) h)
