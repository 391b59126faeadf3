-- The invariants hold with one more node.
use Rattle.std.proofs.Common.{◌≡◌, ℕ, ◌<◌, Bool, ◌&&◌, ◌||◌, eqb, ltb, List, [], ◌∷◌, ◌++◌, length, get_or, vec_items, vec_len, sym, ap, ◌∙◌, subst, ap₂, arith, rules}
use Rattle.std.proofs.lemmas.List.{map_push, length-map}
use Rattle.games.specs.declared.side.Side.{Side}
use Rattle.games.specs.declared.side.Side.TheVariants.{Left, Right}
use Rattle.games.specs.Sides.{other}
use Rattle.nodesets.specs.Pairs.{Sets, by}
use Rattle.sealing.specs.declared.row.Row.{Row}
use Rattle.sealing.specs.Forms.{none}
use Rattle.sealing.specs.Invariants.{AllCanonical, Apart, Lower, Ranked}
use Rattle.sealing.specs.Rows.{options_of, worse_of}
use Rattle.sealing.specs.Steps.{Compared}
use Rattle.sealing.specs.Views.{links, ranks}
use Rattle.sealing.proofs.Turns.{small_same}
use Rattle.sealing.proofs.Whole.{along, count_rows, within_links, compared_links}
use Rattle.sealing.proofs.Growing.{lower_more, ranked_more, canonical_more, apart_more}
use Rattle.sealing.proofs.nodes.Nodes.push.Goals as goal

module _ (c : goal.After-push_reserved) where
  options_are : options_of (vec_items c.push_reserved.new.self) ≡ links c.args.self.now ++ (by c.args.form.now ∷ [])
  options_are =
      ap options_of c.push_reserved.ensures.items ∙ map_push (λ (r : Row). by r.options) (vec_items c.rank_under.new.rows) _
      ∙ ap (λ (os : List Sets). os ++ (by c.args.form.now ∷ [])) c.rank_under.ensures.ranks.options

  worse_are : worse_of (vec_items c.push_reserved.new.self) ≡ worse_of (vec_items c.rank_under.new.rows) ++ (by c.insert-2.new.self ∷ [])
  worse_are = ap worse_of c.push_reserved.ensures.items ∙ map_push (λ (r : Row). by r.worse) (vec_items c.rank_under.new.rows) _

  small : length (links c.args.self.now) < 384
  small = let e = count_rows c.args.self.now in let h = c.requires.room in omega arith

  number_is : c.len-number.result ≡ length (links c.args.self.now)
  number_is = c.len-number.ensures ∙ count_rows c.args.self.now

  same : length (worse_of (vec_items c.rank_under.new.rows)) ≡ length (links c.args.self.now)
  same = length-map (vec_items c.rank_under.new.rows) (λ (r : Row). by r.worse) ∙ c.rank_under.ensures.ranks.len ∙ sym (length-map (vec_items c.args.self.now.rows) (λ (r : Row). by r.options))

  old : (i : ℕ) (s : Side) (k : ℕ) → i < length (links c.args.self.now)
      → get_or (worse_of (vec_items c.rank_under.new.rows)) i none s k ≡ ((eqb k (length (links c.args.self.now)) && by c.compare.result.worse (other s) i) || get_or (ranks c.args.self.now) i none s k)
  old i s k h =
      c.rank_under.ensures.ranks.new i s k (subst (λ n. i < n) (sym (count_rows c.args.self.now)) h)
      ∙ ap (λ (n : ℕ). ((eqb k n && ltb k 384) && by c.compare.result.worse (other s) i) || get_or (ranks c.args.self.now) i none s k) (count_rows c.args.self.now)
      ∙ ap (λ (b : Bool). (b && by c.compare.result.worse (other s) i) || get_or (ranks c.args.self.now) i none s k) (small_same k (length (links c.args.self.now)) small)

  own : (s : Side) (k : ℕ) → by c.insert-2.new.self s k ≡ (eqb k (length (links c.args.self.now)) || by c.compare.result.worse s k)
  own Left k = c.insert-2.ensures.theirs k ∙ c.insert.ensures.own k ∙ ap (λ (n : ℕ). (eqb k n && ltb k 384) || by c.compare.result.worse Left k) number_is ∙ ap (λ (b : Bool). b || by c.compare.result.worse Left k) (small_same k (length (links c.args.self.now)) small)
  own Right k =
      c.insert-2.ensures.own k ∙ ap₂ (λ (n : ℕ) (b : Bool). (eqb k n && ltb k 384) || b) number_is (c.insert.ensures.theirs k)
      ∙ ap (λ (b : Bool). b || by c.compare.result.worse Right k) (small_same k (length (links c.args.self.now)) small)

pub invariant_of-self : goal.invariant_of-self
invariant_of-self c =
    let t = c.args.self.now in
    let o = by c.args.form.now in
    let w = by c.compare.result.worse in
    let known =
    along (λ n m. Compared (links n) (by m) (vec_len n.rows) w) c.compare.result.nodes.now t c.compare.result.moves c.args.form.now c.compare.ensures.nodes c.compare.ensures.moves c.compare.result.known in
    let ranked = ranked_more (links t) (ranks t) (worse_of (vec_items c.rank_under.new.rows)) o w (by c.insert-2.new.self) (same c) t.ranked (compared_links t o w known) (old c) (own c) in
    let kept : vec_len c.rank_under.new.rows ≡ vec_len t.rows = (let e = c.rank_under.ensures.ranks.len in search rules) in
    record {
      few = (let a = c.push_reserved.ensures.len in let h = c.requires.room in omega arith);
      reserved = (let a = c.push_reserved.ensures.capacity in let b = c.rank_under.ensures.capacity in let r = t.reserved in omega arith);
      lower = subst (λ os. Lower os) (sym (options_are c)) (lower_more (links t) o t.lower (within_links t o c.requires.within));
      ranked = subst (λ os. Ranked os (worse_of (vec_items c.push_reserved.new.self))) (sym (options_are c)) (subst (λ ws. Ranked (links t ++ (o ∷ [])) ws) (sym (worse_are c)) ranked);
      canonical = subst (λ os. AllCanonical os) (sym (options_are c)) (canonical_more (links t) o t.canonical c.requires.canonical);
      apart = subst (λ os. Apart os) (sym (options_are c)) (apart_more (links t) o t.apart (λ k h. c.requires.fresh k (subst (λ n. k < n) (sym (count_rows t)) h)));
    }

pub returns : goal.returns
returns c =
    ap options_of c.push_reserved.ensures.items ∙ map_push (λ (r : Row). by r.options) (vec_items c.rank_under.new.rows) _
    ∙ ap (λ (os : List Sets). os ++ (by c.args.form.now ∷ [])) c.rank_under.ensures.ranks.options
