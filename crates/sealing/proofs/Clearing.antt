-- A step of the removal of dominated options.
-- Assumes nothing.
use Rattle.std.proofs.Common.{◌≡◌, ℕ, ◌+◌, ◌<◌, Bool, true, false, not, ◌&&◌, ◌||◌, eqb, ltb, ◌⊎◌, List, length, get_or, sym, refl, ap, ◌∙◌, inl, inr, arith}
use Rattle.std.proofs.lemmas.Bool.{and_parts, and_from, or_cases, or_left, or_right, cases_eq, cases_Bool, both_ways, eq-eqb, eqb-true, lt-ltb, not-true, not_from_false}
use Rattle.games.specs.declared.side.Side.{Side}
use Rattle.games.specs.declared.side.Side.TheVariants.{Left, Right}
use Rattle.games.specs.Sides.{other}
use Rattle.games.specs.Canon.{AsGood}
use Rattle.nodesets.specs.Pairs.{Sets, Within}
use Rattle.sealing.specs.Forms.{none, node}
use Rattle.sealing.specs.Invariants.{Lower, Ranked}
use Rattle.sealing.specs.Steps.{Clear, Cleared}
use Rattle.sealing.proofs.Standing.{bit_back, bit_into}
use Rattle.sealing.proofs.Reducing.{dominated_value, reduced_self}

pub both_sides : (n : ℕ) (x : Sets) (s : Side) → ((k : ℕ) → x s k ≡ true → k < n) → ((k : ℕ) → x (other s) k ≡ true → k < n) → Within n x
both_sides n x Left f g Left = f
both_sides n x Left f g Right = g
both_sides n x Right f g Left = g
both_sides n x Right f g Right = f

-- up to a, where none but a is new
clear_more : (os : List Sets) (s : Side) (a : ℕ) (p : ℕ → Bool) → Clear os s a p → ((k : ℕ) → k < length os → p a ≡ true → p k ≡ true → AsGood s (node os a) (node os k) → a ≡ k) → Clear os s (a + 1) p
clear_more os s a p was over j k (jl, kl) (jt, kt) g = elim (cases_eq j a) [ inl e ↦ e ∙ over k kl (ap p (sym e) ∙ jt) kt (rw e at g) | inr e ↦ was j k (omega arith, kl) (jt, kt) g ]

clear_less : (os : List Sets) (s : Side) (a : ℕ) (p q : ℕ → Bool) → ((k : ℕ) → q k ≡ true → p k ≡ true) → Clear os s a p → Clear os s a q
clear_less os s a p q fewer was j k l (jt, kt) g = was j k l (fewer j jt, fewer k kt) g

pub cleared_absent : (os : List Sets) (s : Side) (a : ℕ) (o : Sets) → Within (length os) o → o s a ≡ false → Cleared os s a o o
cleared_absent os s a o within f = record {
  reduced = reduced_self os s o within;
  fewer = λ k t. t;
  clear = λ was. clear_more os s a (o s) was (λ k l t u g. absurd (both_ways _ f t));
}

-- those go that a is as good as, but a itself
module _ (os ws : List Sets) (lower : Lower os) (ranked : Ranked os ws) (same : length ws ≡ length os) (s : Side) (a : ℕ) (there : a < length os) (small : a < 384) (o x : Sets)
    (within : Within (length os) o) (member : o s a ≡ true) (theirs : (k : ℕ) → x (other s) k ≡ o (other s) k) (is : (k : ℕ) → x s k ≡ ((eqb k a && ltb k 384) || (o s k && not (get_or ws a none s k)))) where
  fewer : (k : ℕ) → x s k ≡ true → o s k ≡ true
  fewer k v = elim (or_cases (eqb k a && ltb k 384) (o s k && not (get_or ws a none s k)) (sym (is k) ∙ v)) [
    | inl e ↦ ap (o s) (eqb-true k a (and_parts (eqb k a) (ltb k 384) e).0) ∙ member
    | inr e ↦ (and_parts (o s k) (not (get_or ws a none s k)) e).0
  ]

  stays : x s a ≡ true
  stays = is a ∙ or_left _ _ (and_from _ _ (eq-eqb a a refl) (lt-ltb a 384 small))

  better : (k : ℕ) → k < length os → o s k ≡ true → (x s k ≡ true) ⊎ ((j : ℕ) × (j < length os) × (x s j ≡ true) × AsGood s (node os j) (node os k))
  better k l v = elim (cases_Bool (get_or ws a none s k)) [
    | inl t ↦ inr (a, there, stays, (bit_back os ws lower ranked same a s k t).2)
    | inr f ↦ inl (is k ∙ or_right (eqb k a && ltb k 384) _ (and_from _ _ v (not_from_false _ f)))
  ]

  over : (k : ℕ) → k < length os → x s a ≡ true → x s k ≡ true → AsGood s (node os a) (node os k) → a ≡ k
  over k l v y g = elim (or_cases (eqb k a && ltb k 384) (o s k && not (get_or ws a none s k)) (sym (is k) ∙ y)) [
    | inl e ↦ sym (eqb-true k a (and_parts (eqb k a) (ltb k 384) e).0)
    | inr e ↦ absurd (both_ways _ (not-true _ (and_parts (o s k) (not (get_or ws a none s k)) e).1) (bit_into os ws lower ranked same a s k there l g))
  ]

  pub cleared_prune : Cleared os s a o x
  cleared_prune = record {
    reduced = record {
      value = dominated_value os s o x theirs fewer better;
      within = both_sides (length os) x s (λ k t. within s k (fewer k t)) (λ k t. within (other s) k (sym (theirs k) ∙ t));
      theirs = theirs;
    };
    fewer = fewer;
    clear = λ was. clear_more os s a (x s) (clear_less os s a (o s) (x s) fewer was) over;
  }
