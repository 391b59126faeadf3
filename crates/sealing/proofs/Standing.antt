-- When a game is as good as a node, by the sets of the tables.
-- Assumes nothing.
use Rattle.std.proofs.Common.{◌≡◌, ℕ, ◌<◌, Bool, true, false, ◌&&◌, T, ltb, List, length, get_or, sym, refl, ◌∙◌, inl, inr, arith}
use Rattle.std.proofs.lemmas.Bool.{and_parts, and_from, cases_Bool, both_ways, ltb-true, lt-ltb}
use Rattle.games.specs.declared.side.Side.{Side}
use Rattle.games.specs.declared.side.Side.TheVariants.{Left, Right}
use Rattle.games.specs.Form.{Form, ◌∈◌}
use Rattle.games.specs.Order.{ge}
use Rattle.games.specs.Sides.{other, options}
use Rattle.games.specs.Canon.{AsGood, for_left, for_right}
use Rattle.games.specs.Tests.{as_good}
use Rattle.games.proofs.Sides.{good_make, good_reply, good_option}
use Rattle.nodesets.specs.Pairs.{Sets, Within}
use Rattle.nodesets.specs.Sets.{Meet}
use Rattle.sealing.specs.Forms.{none, node, game}
use Rattle.sealing.specs.Invariants.{Lower, Ranked}
use Rattle.sealing.specs.Steps.{bested_by}
use Rattle.sealing.proofs.Somes.{some_back, some_into}
use Rattle.sealing.proofs.Forming.{game_back, game_into, node_back, node_into}

-- the test and the statement
pub T_true : (b : Bool) → b ≡ true → T b
T_true true e = tt
T_true false e = both_ways false refl e

pub true_T : (b : Bool) → T b → b ≡ true
true_T true t = refl
true_T false t = absurd t

pub good_from : (s : Side) (x y : Form) → as_good s x y ≡ true → AsGood s x y
good_from Left x y e = for_left (record { holds = T_true (ge x y) e })
good_from Right x y e = for_right (record { holds = T_true (ge y x) e })

pub from_good : (s : Side) {x y : Form} → AsGood s x y → as_good s x y ≡ true
from_good Left {x} {y} (for_left p) = true_T (ge x y) p.holds
from_good Right {x} {y} (for_right p) = true_T (ge y x) p.holds

pub not_good : (s : Side) (x y : Form) → ¬ AsGood s x y → as_good s x y ≡ false
not_good s x y f = elim (cases_Bool (as_good s x y)) [ inl e ↦ absurd (f (good_from s x y e)) | inr e ↦ e ]

-- what is as good for one side is as bad for the other
pub good_turn : (s : Side) {x y : Form} → AsGood (other s) x y → AsGood s y x
good_turn Left (for_right p) = for_left p
good_turn Right (for_left p) = for_right p

pub turn_good : (s : Side) {x y : Form} → AsGood s x y → AsGood (other s) y x
turn_good Left (for_left p) = for_right p
turn_good Right (for_right p) = for_left p

module _ (os ws : List Sets) (lower : Lower os) (ranked : Ranked os ws) (same : length ws ≡ length os) where
  -- a bit of the order
  pub bit_back : (i : ℕ) (s : Side) (k : ℕ) → get_or ws i none s k ≡ true → (i < length os) × (k < length os) × AsGood s (node os i) (node os k)
  bit_back i s k t =
      let (a, b) = and_parts (ltb i (length os) && ltb k (length os)) (as_good s (node os i) (node os k)) (sym (ranked i s k) ∙ t) in
      let (p, q) = and_parts (ltb i (length os)) (ltb k (length os)) a in
      (ltb-true i (length os) p, ltb-true k (length os) q, good_from s (node os i) (node os k) b)

  pub bit_into : (i : ℕ) (s : Side) (k : ℕ) → i < length os → k < length os → AsGood s (node os i) (node os k) → get_or ws i none s k ≡ true
  bit_into i s k h l g = ranked i s k ∙ and_from _ _ (and_from _ _ (lt-ltb i (length os) h) (lt-ltb k (length os) l)) (from_good s g)

  module _ (s : Side) (o : Sets) (h : ℕ) (there : h < length os) (within : Within (length os) o) where
    -- the game has an option of the other side that is as good as h for that side
    pub bested_blocks : bested_by ws (other s) (o (other s)) h ≡ true → as_good s (game os o) (node os h) ≡ false
    bested_blocks t = not_good s (game os o) (node os h) (λ g.
        let (q, l, c) = some_back (length ws) (λ q. o (other s) q && get_or ws q none (other s) h) t in
        let (d, e) = and_parts (o (other s) q) (get_or ws q none (other s) h) c in
        good_reply s g (game_into os o (other s) q (omega arith) d) (good_turn s (bit_back q (other s) h e).2))

    module _ (worse : ℕ → Bool) (known : (k : ℕ) → k < h → worse k ≡ as_good (other s) (game os o) (node os k)) where
      pub option_blocks : Meet (get_or os h none s) worse → as_good s (game os o) (node os h) ≡ false
      option_blocks (k, a, b) = not_good s (game os o) (node os h) (λ g.
          let l = lower h s k a in
          good_option s g (node_into os h there s k l a) (good_turn s (good_from (other s) (game os o) (node os k) (sym (known k l) ∙ b))))

      pub none_blocks : bested_by ws (other s) (o (other s)) h ≡ false → ¬ Meet (get_or os h none s) worse → as_good s (game os o) (node os h) ≡ true
      none_blocks f m = from_good s (good_make s (game os o) (node os h) reply own)
        where
          reply : (x : Form) → x ∈ options (other s) (game os o) → ¬ AsGood s (node os h) x
          reply x i p =
              let (k, l, t, e) = game_back os o (other s) x i in
              let q : AsGood s (node os h) (node os k) = rw e at p in
              both_ways _ f (some_into (length ws) (λ q. o (other s) q && get_or ws q none (other s) h) k (omega arith) (and_from _ _ t (bit_into k (other s) h l there (turn_good s q))))

          own : (x : Form) → x ∈ options s (node os h) → ¬ AsGood s x (game os o)
          own x i p =
              let (k, l, t, e) = node_back os h there s x i in
              let q : AsGood s (node os k) (game os o) = rw e at p in
              m (k, t, known k l ∙ from_good (other s) (turn_good s q))
