-- The rows of the nodes, one after the other, learn of a new node.
-- Assumes nothing.
use Rattle.std.proofs.Common.{◌≡◌, ℕ, ◌+◌, ◌<◌, ◌&&◌, ◌||◌, eqb, ltb, List, length, get_or, set, sym, refl, ap, ◌∙◌, inl, inr, arith}
use Rattle.std.proofs.lemmas.List.{length-set, length-map, map-set, set-get_or, get_or-map, get_or-set_same, get_or-set_other}
use Rattle.std.proofs.lemmas.Bool.{cases_eq}
use Rattle.games.specs.declared.side.Side.{Side}
use Rattle.games.specs.declared.side.Side.TheVariants.{Left, Right}
use Rattle.games.specs.Sides.{other}
use Rattle.nodesets.specs.declared.pair.Pair.{Pair}
use Rattle.nodesets.specs.Pairs.{Sets, by}
use Rattle.sealing.specs.Forms.{none}
use Rattle.sealing.specs.Ranking.{Ranking}
use Rattle.sealing.specs.Rows.{options_of, worse_of}
use Rattle.sealing.specs.declared.row.Row.{Row}

pub ranking_none : (rows : List Row) (w : Sets) (n : ℕ) → Ranking rows rows w n 0
ranking_none rows w n = record { len = refl; options = refl; new = λ j s k l. absurd (omega arith); old = λ j l. refl }

pub both_worse : (x r : Pair) (w : Sets) (n i : ℕ) → ((k : ℕ) → by x Left k ≡ (((eqb k n && ltb k 384) && w Right i) || by r Left k)) → ((k : ℕ) → by x Right k ≡ (((eqb k n && ltb k 384) && w Left i) || by r Right k))
    → (s : Side) (k : ℕ) → by x s k ≡ (((eqb k n && ltb k 384) && w (other s) i) || by r s k)
both_worse x r w n i f g Left = f
both_worse x r w n i f g Right = g

module _ (rows cur : List Row) (w : Sets) (n i : ℕ) (was : Ranking rows cur w n i) (there : i < length cur) (r row : Row) (read : r ≡ get_or cur i r) (same : by row.options ≡ by r.options)
    (worse : (s : Side) (k : ℕ) → by row.worse s k ≡ (((eqb k n && ltb k 384) && w (other s) i) || by r.worse s k)) where
  options_at : by row.options ≡ get_or (options_of cur) i none
  options_at = same ∙ ap (λ (x : Row). by x.options) read ∙ sym (get_or-map (λ (x : Row). by x.options) cur i r none there)

  worse_at : by r.worse ≡ get_or (worse_of rows) i none
  worse_at = ap (λ (x : Row). by x.worse) read ∙ sym (get_or-map (λ (x : Row). by x.worse) cur i r none there) ∙ was.old i (omega arith)

  at_set : worse_of (set cur i row) ≡ set (worse_of cur) i (by row.worse)
  at_set = map-set (λ (x : Row). by x.worse) cur i row

  elsewhere : (j : ℕ) → ¬ (j ≡ i) → get_or (worse_of (set cur i row)) j none ≡ get_or (worse_of cur) j none
  elsewhere j d = ap (λ (x : List Sets). get_or x j none) at_set ∙ get_or-set_other (worse_of cur) i j (by row.worse) none d

  here : get_or (worse_of (set cur i row)) i none ≡ by row.worse
  here = ap (λ (x : List Sets). get_or x i none) at_set ∙ get_or-set_same (worse_of cur) i (by row.worse) none (let e = length-map cur (λ (x : Row). by x.worse) in omega arith)

  at : (s : Side) (k : ℕ) → get_or (worse_of (set cur i row)) i none s k ≡ (((eqb k n && ltb k 384) && w (other s) i) || get_or (worse_of rows) i none s k)
  at s k = ap (λ (x : Sets). x s k) here ∙ worse s k ∙ ap (λ (x : Sets). ((eqb k n && ltb k 384) && w (other s) i) || x s k) worse_at

  pub ranking_more : Ranking rows (set cur i row) w n (i + 1)
  ranking_more = record {
    len = length-set cur i row ∙ was.len;
    options = map-set (λ (x : Row). by x.options) cur i row ∙ ap (λ (x : Sets). set (options_of cur) i x) options_at ∙ set-get_or (options_of cur) i none ∙ was.options;
    new = λ j s k l. elim (cases_eq j i) [
      | inl e ↦ rw e (at s k)
      | inr d ↦ ap (λ (x : Sets). x s k) (elsewhere j d) ∙ was.new j s k (omega arith)
    ];
    old = λ j l. elsewhere j (λ e. omega arith) ∙ was.old j (omega arith);
  }
