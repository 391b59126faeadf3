-- A pair that is the one asked for, word by word, is what was noted.
-- Assumes nothing.
use Rattle.std.proofs.Common.{◌≡◌, ℕ, ◌<◌, Bool, true, false, ◌&&◌, eqb, List, Some, None, Option, IfSome, length, length-set, vec_items, get_or, set, get_or-set_other, get_or-set_same, sym, refl, ◌∙◌, ap, inl, inr, arith, ◌⊎◌}
use Rattle.std.specs.Cmp.Lexicographic.{pointwise}
use Rattle.std.specs.Bool.{then_some}
use Rattle.std.proofs.lemmas.Bool.{and_parts}
use Rattle.std.proofs.lemmas.Bool.Decides.{Decides-eqb, eqb_tells}
use Rattle.std.proofs.lemmas.List.{get_or_default}
use Rattle.std.proofs.lemmas.Slice.Eq.{slice_eq-Decides}
use Rattle.games.specs.declared.side.Side.TheVariants.{Left, Right}
use Rattle.nodesets.specs.Pairs.{Sets, by}
use Rattle.nodesets.specs.declared.pair.Pair.{Pair}
use Rattle.sealing.specs.declared.recent.Recent.{Recent}
use Rattle.sealing.specs.declared.recent.Entry.{Entry}
use Rattle.sealing.specs.Remembering.{Remembers, Same}

same_words : (xs ys : List ℕ) → pointwise eqb xs ys ≡ true → xs ≡ ys
same_words xs ys e = (slice_eq-Decides Decides-eqb xs ys (pointwise eqb xs ys) refl).0 e

same_sets : (p q : Pair) → (pointwise eqb p.left.words q.left.words && pointwise eqb p.right.words q.right.words) ≡ true → Same (by p) (by q)
same_sets p q e Left k = let a = and_parts (pointwise eqb p.left.words q.left.words) _ e in rw (same_words p.left.words q.left.words a.0)
same_sets p q e Right k = let a = and_parts (pointwise eqb p.left.words q.left.words) _ e in rw (same_words p.right.words q.right.words a.1)

pub recalled : (r : Recent) (p : Pair) (place : ℕ) (entry : Entry) (item : Option Entry) (same : Bool) → place < length (vec_items r.entries) → item ≡ get_or (vec_items r.entries) place item → item ≡ Some entry
    → same ≡ (pointwise eqb entry.moves.left.words p.left.words && pointwise eqb entry.moves.right.words p.right.words) → IfSome (then_some same entry.node) (λ n. Remembers r (by p) n)
recalled r p place entry item false h i e s = tt
recalled r p place entry item true h i e s = record {
  entry = entry;
  place = place;
  inside = omega (arith, h, r.entries.ok.0);
  stands = get_or_default (vec_items r.entries) place None item h ∙ sym i ∙ e;
  sets = same_sets entry.moves p (sym s);
  number = refl;
}

entry_is : {x y : Entry} → ◌≡◌ {A = Option Entry} (Some x) (Some y) → x ≡ y
entry_is e = cc

-- what is remembered after a pair was noted is that pair, or was remembered before
pub noted : (r after : Recent) (p : Pair) (node i : ℕ) → i < length (vec_items r.entries) → vec_items after.entries ≡ set (vec_items r.entries) i (Some (record { moves = p; node = node }))
    → (o : Sets) (n : ℕ) → Remembers after o n → (Same (by p) o × (n ≡ node)) ⊎ Remembers r o n
noted r after p node i h is o n m = elim (eqb_tells m.place i) [
  | inl same ↦
      let there : get_or (vec_items after.entries) m.place None ≡ Some (record { moves = p; node = node }) = ap (λ j. get_or (vec_items after.entries) j None) same.1 ∙ ap (λ es. get_or es i None) is ∙ get_or-set_same (vec_items r.entries) i _ None h in
      let e : m.entry ≡ record { moves = p; node = node } = entry_is (sym m.stands ∙ there) in
      inl (λ s k. sym (ap (λ x. by x.moves s k) e) ∙ m.sets s k, sym m.number ∙ ap (λ x. x.node) e)
  | inr other ↦
      let long : length (vec_items after.entries) ≡ length (vec_items r.entries) = ap length is ∙ length-set (vec_items r.entries) i _ in
      inr (record {
        entry = m.entry;
        place = m.place;
        inside = omega (arith, m.inside, long, r.entries.ok.0, after.entries.ok.0);
        stands = sym (get_or-set_other (vec_items r.entries) i m.place _ None other.1) ∙ sym (ap (λ es. get_or es m.place None) is) ∙ m.stands;
        sets = m.sets;
        number = m.number;
      })
]

-- and that pair is remembered
pub stands_noted : (r after : Recent) (p : Pair) (node i : ℕ) → i < length (vec_items r.entries) → vec_items after.entries ≡ set (vec_items r.entries) i (Some (record { moves = p; node = node }))
    → Remembers after (by p) node
stands_noted r after p node i h is =
    let long : length (vec_items after.entries) ≡ length (vec_items r.entries) = ap length is ∙ length-set (vec_items r.entries) i _ in
    record {
      entry = record { moves = p; node = node };
      place = i;
      inside = omega (arith, h, long, after.entries.ok.0);
      stands = ap (λ es. get_or es i None) is ∙ get_or-set_same (vec_items r.entries) i _ None h;
      sets = λ s k. refl;
      number = refl;
    }
