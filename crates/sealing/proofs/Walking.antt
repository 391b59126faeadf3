-- Walks through a list of nodes.
-- Assumes nothing.
use Rattle.std.proofs.Common.{◌≡◌, ℕ, zero, suc, ◌<◌, Bool, true, false, not, ltb, List, [], ◌∷◌, length, get_or, Ordering, Equal, sym, refl, ap, ◌∙◌, arith}
use mathlib.Core.Bool.{beq}
use Rattle.std.proofs.lemmas.Bool.{and_parts, ltb-true, both_ways, false≢true}
use Rattle.sealing.specs.Walks.{any_of, walk_step, walk_order, all_below}

pub below_at : (n : ℕ) (ks : List ℕ) (i : ℕ) → all_below n ks ≡ true → i < length ks → get_or ks i 0 < n
below_at n [] i t h = absurd (omega arith)
below_at n (k ∷ ks) zero t h = ltb-true k n (and_parts (ltb k n) (all_below n ks) t).0
below_at n (k ∷ ks) (suc i) t h = below_at n ks i (and_parts (ltb k n) (all_below n ks) t).1 (omega arith)

-- the tests as the code makes them
pub step_same : (a b pl ql : Bool) (rest : Ordering) → not (beq a b) ≡ false → walk_step a b pl ql rest ≡ rest
step_same true true pl ql rest e = refl
step_same true false pl ql rest e = absurd (both_ways _ e refl)
step_same false true pl ql rest e = absurd (both_ways _ e refl)
step_same false false pl ql rest e = refl

pub step_apart : (a b pl ql : Bool) (x y : Ordering) → not (beq a b) ≡ true → walk_step a (not a) pl ql x ≡ walk_step a b pl ql y
step_apart true true pl ql x y e = absurd (false≢true e)
step_apart true false pl ql x y e = refl
step_apart false true pl ql x y e = refl
step_apart false false pl ql x y e = absurd (false≢true e)

-- rest is k and then later, and compares as the whole does
module _ (p q : ℕ → Bool) (rest later : List ℕ) (k : ℕ) (whole : Ordering) (is : rest ≡ k ∷ later) (inv : walk_order p q rest ≡ whole) (a b : Bool) (a_is : a ≡ p k) (b_is : b ≡ q k) where
  pub walk_on : not (beq a b) ≡ false → walk_order p q later ≡ whole
  walk_on e = sym (ap (walk_order p q) is ∙ rw (← a_is, ← b_is) (step_same a b _ _ (walk_order p q later) e)) ∙ inv

  pub walk_ends : not (beq a b) ≡ true → (pl ql : Bool) → pl ≡ any_of p later → ql ≡ any_of q later → walk_step a (not a) pl ql Equal ≡ whole
  walk_ends e pl ql f g = step_apart a b pl ql Equal (walk_order p q later) e ∙ sym (ap (walk_order p q) is ∙ rw (← a_is, ← b_is, ← f, ← g)) ∙ inv
