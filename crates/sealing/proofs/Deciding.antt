-- One node decided for a side, and with it those that are as good as it, or that it is as good as.
-- Assumes nothing.
use Rattle.std.proofs.Common.{◌≡◌, ℕ, ◌+◌, ◌<◌, Bool, true, false, ◌&&◌, ◌||◌, ltb, List, length, get_or, sym, refl, ap, ◌∙◌, inl, inr, arith}
use Rattle.std.proofs.lemmas.Bool.{or_cases, or_left, or_right, and_parts, cases_eq, cases_lt, cases_Bool, both_ways, lt-ltb, le-ltb}
use Rattle.games.specs.declared.side.Side.{Side}
use Rattle.games.specs.Sides.{other}
use Rattle.games.specs.Tests.{as_good}
use Rattle.games.proofs.Sides.{good_refl, good_trans}
use Rattle.nodesets.specs.Pairs.{Sets, Within}
use Rattle.nodesets.specs.Sets.{Meet}
use Rattle.sealing.specs.Forms.{game, node, none}
use Rattle.sealing.specs.Invariants.{Lower, Ranked}
use Rattle.sealing.specs.Steps.{bested_by, Partly, Upto, Further}
use Rattle.sealing.proofs.Somes.{some_back}
use Rattle.sealing.proofs.Standing.{good_from, from_good, not_good, good_turn, bit_back, bit_into, bested_blocks, option_blocks, none_blocks}

module _ (os ws : List Sets) (lower : Lower os) (ranked : Ranked os ws) (same : length ws ≡ length os) (s : Side) (o : Sets) (within : Within (length os) o) where
  -- what an option of the other side bests is decided to begin with
  pub partly_none : (decided worse : ℕ → Bool) → ((k : ℕ) → decided k ≡ bested_by ws (other s) (o (other s)) k) → ((k : ℕ) → worse k ≡ false) → Partly os ws s o decided worse
  partly_none decided worse is empty = record {
    right = λ k t. let l = inside k (sym (is k) ∙ t) in (l, empty k ∙ sym (bested_blocks os ws lower ranked same s o k l within (sym (is k) ∙ t)));
    only = λ k t. absurd (both_ways _ (empty k) t);
    bested = λ k l t. is k ∙ t;
  }
    where
      inside : (k : ℕ) → bested_by ws (other s) (o (other s)) k ≡ true → k < length os
      inside k t =
          let (q, l, c) = some_back (length ws) (λ q. o (other s) q && get_or ws q none (other s) k) t in
          (bit_back os ws lower ranked same q (other s) k (and_parts (o (other s) q) (get_or ws q none (other s) k) c).1).1

  module _ (h : ℕ) (there : h < length os) (decided worse theirs : ℕ → Bool) (was : Partly os ws s o decided worse) (known : (k : ℕ) → k < h → theirs k ≡ as_good (other s) (game os o) (node os k)) where
    pub further_decided : decided h ≡ true → Further os ws s o h decided decided worse
    further_decided t = record { known = was; here = t; still = λ k u. u }

    module _ (undecided : decided h ≡ false) where
      not_bested : bested_by ws (other s) (o (other s)) h ≡ false
      not_bested = elim (cases_Bool (bested_by ws (other s) (o (other s)) h)) [ inl t ↦ absurd (both_ways _ undecided (was.bested h there t)) | inr f ↦ f ]

      -- the game is not as good as h, and so as none that is as good as h
      pub further_blocked : (after : ℕ → Bool) → Meet (get_or os h none s) theirs → ((k : ℕ) → after k ≡ (decided k || get_or ws h none (other s) k)) → Further os ws s o h decided after worse
      further_blocked after meet is = record {
        known = record {
          right = λ k t. elim (or_cases (decided k) (get_or ws h none (other s) k) (sym (is k) ∙ t)) [
            | inl u ↦ was.right k u
            | inr u ↦ ((bit_back os ws lower ranked same h (other s) k u).1, unlike k u)
          ];
          only = λ k t. is k ∙ or_left _ _ (was.only k t);
          bested = λ k l t. is k ∙ or_left _ _ (was.bested k l t);
        };
        here = is h ∙ or_right (decided h) _ (bit_into os ws lower ranked same h (other s) h there there (good_refl (other s) (node os h)));
        still = λ k u. is k ∙ or_left _ _ u;
      }
        where
          no : as_good s (game os o) (node os h) ≡ false
          no = option_blocks os ws lower ranked same s o h there within theirs known meet

          against : (k : ℕ) → get_or ws h none (other s) k ≡ true → as_good s (game os o) (node os k) ≡ false
          against k u = not_good s (game os o) (node os k) (λ g. both_ways _ no (from_good s (good_trans g (good_turn s (bit_back os ws lower ranked same h (other s) k u).2))))

          unlike : (k : ℕ) → get_or ws h none (other s) k ≡ true → worse k ≡ as_good s (game os o) (node os k)
          unlike k u = elim (cases_Bool (worse k)) [
            | inl t ↦ (was.right k (was.only k t)).1
            | inr f ↦ f ∙ sym (against k u)
          ]

      -- the game is as good as h, and so as all that h is as good as
      pub further_stands : (after new : ℕ → Bool) → ¬ Meet (get_or os h none s) theirs → ((k : ℕ) → after k ≡ (decided k || get_or ws h none s k)) → ((k : ℕ) → new k ≡ (worse k || get_or ws h none s k)) → Further os ws s o h decided after new
      further_stands after new free is more = record {
        known = record {
          right = λ k t. elim (cases_Bool (get_or ws h none s k)) [
            | inl u ↦ ((bit_back os ws lower ranked same h s k u).1, more k ∙ or_right (worse k) _ u ∙ sym (also k u))
            | inr f ↦ elim (or_cases (decided k) (get_or ws h none s k) (sym (is k) ∙ t)) [
              | inl u ↦ ((was.right k u).0, more k ∙ ap (λ b. worse k || b) f ∙ or_false (worse k) ∙ (was.right k u).1)
              | inr u ↦ absurd (both_ways _ f u)
            ]
          ];
          only = λ k t. elim (or_cases (worse k) (get_or ws h none s k) (sym (more k) ∙ t)) [ inl u ↦ is k ∙ or_left _ _ (was.only k u) | inr u ↦ is k ∙ or_right (decided k) _ u ];
          bested = λ k l t. is k ∙ or_left _ _ (was.bested k l t);
        };
        here = is h ∙ or_right (decided h) _ (bit_into os ws lower ranked same h s h there there (good_refl s (node os h)));
        still = λ k u. is k ∙ or_left _ _ u;
      }
        where
          yes_here : as_good s (game os o) (node os h) ≡ true
          yes_here = none_blocks os ws lower ranked same s o h there within theirs known not_bested free

          also : (k : ℕ) → get_or ws h none s k ≡ true → as_good s (game os o) (node os k) ≡ true
          also k u = from_good s (good_trans (good_from s (game os o) (node os h) yes_here) (bit_back os ws lower ranked same h s k u).2)

          or_false : (b : Bool) → (b || false) ≡ b
          or_false true = refl
          or_false false = refl

-- what the other side is told
pub partly_known : (os ws : List Sets) (s : Side) (o : Sets) (h : ℕ) (decided worse : ℕ → Bool) → Partly os ws s o decided worse → Upto h decided → (k : ℕ) → k < h → worse k ≡ as_good s (game os o) (node os k)
partly_known os ws s o h decided worse p u k l = (p.right k (u k l)).1

pub upto_more : (os ws : List Sets) (s : Side) (o : Sets) (h : ℕ) (decided after worse : ℕ → Bool) → Further os ws s o h decided after worse → Upto h decided → Upto (h + 1) after
upto_more os ws s o h decided after worse f u k l = elim (cases_eq k h) [ inl e ↦ ap after e ∙ f.here | inr d ↦ f.still k (u k (omega arith)) ]

-- all nodes are decided
pub partly_all : (os ws : List Sets) (s : Side) (o : Sets) (decided worse : ℕ → Bool) → Partly os ws s o decided worse → Upto (length os) decided → (k : ℕ) → worse k ≡ (ltb k (length os) && as_good s (game os o) (node os k))
partly_all os ws s o decided worse p u k = elim (cases_lt k (length os)) [
  | inl l ↦ (p.right k (u k l)).1 ∙ rw (lt-ltb k (length os) l)
  | inr l ↦ elim (cases_Bool (worse k)) [
    | inl t ↦ (let m = (p.right k (p.only k t)).0 in absurd (omega arith))
    | inr f ↦ f ∙ rw (le-ltb k (length os) l)
  ]
]
