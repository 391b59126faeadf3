-- The sum of two lawful rulesets is lawful, and so is the minus of one.
-- Assumes nothing.
use Rattle.std.specs.Prelude.{◌≡◌, ℕ, ◌+◌, ◌*◌, ◌^◌, ◌<◌, ◌≤◌, true, cond, [], length}
use Rattle.std.proofs.Common.{◌∙◌, div-add-mod', arith, leb-true}
use Rattle.std.proofs.Math.Path.{ap}
use Rattle.std.proofs.Math.Nat.{mul-pos}
use Rattle.std.proofs.Math.Arith.{digits_lt, digits_div, digits_mod}
use Rattle.std.proofs.lemmas.Bool.{and_parts, and_from, cond_both}
use Rattle.std.specs.List.{AllByRecursion}
use Rattle.std.proofs.lemmas.List.{length-map, length-append}
use Rattle.std.proofs.ByRecursion.{All-append, All-map, All-weaker}
use Rattle.games.specs.declared.side.Side.{Side}
use Rattle.games.specs.Sides.{other}
use Rattle.rulesets.specs.Rules.{Rules, Lawful}
use Rattle.sums.specs.Sums.{minus, fits, first_code, second_code, code_of, legal_both, moves_in, plus}

pub minus_lawful : (R : Rules) → Lawful R → Lawful (minus R)
minus_lawful R l = record {
  limit_low = l.limit_low;
  limit_high = l.limit_high;
  width_high = l.width_high;
  depth_high = l.depth_high;
  below = l.below;
  shallow = l.shallow;
  no_rank = l.no_rank;
  narrow = λ s n. l.narrow (other s) n;
  falls = λ s n. l.falls (other s) n;
  no_moves = λ s n. l.no_moves (other s) n;
}

module _ (A B : Rules) where
  -- what a sum that fits keeps to
  pub record Fit : Type 0 where
    pub limits : A.limit * B.limit ≤ 2 ^ 60
    pub widths : A.width + B.width ≤ 256
    pub depths : A.depth + B.depth ≤ 96

  pub fit : fits A B ≡ true → Fit
  fit e =
      let (l, r) = and_parts _ _ e in
      let (w, d) = and_parts _ _ r in
      record { limits = leb-true _ _ l; widths = leb-true _ _ w; depths = leb-true _ _ d }

  -- what a legal code of a sum tells
  pub record Both (n : ℕ) : Type 0 where
    pub fitting : fits A B ≡ true
    pub first : A.legal (first_code B n) ≡ true
    pub second : B.legal (second_code B n) ≡ true

  pub both : (n : ℕ) → legal_both A B n ≡ true → Both n
  both n e =
      let (f, r) = and_parts _ _ e in
      let (p, q) = and_parts _ _ r in
      record { fitting = f; first = p; second = q }

  pub legal_code : Lawful B → fits A B ≡ true → (a b : ℕ) → A.legal a ≡ true → B.legal b ≡ true → legal_both A B (code_of B a b) ≡ true
  legal_code l f a b p q =
      let low = l.below b q in
      and_from _ _ f (and_from _ _ (ap A.legal (digits_div a low) ∙ p) (ap B.legal (digits_mod a low) ∙ q))

  pub rank_code : Lawful B → fits A B ≡ true → (a b : ℕ) → A.legal a ≡ true → B.legal b ≡ true → (plus A B).rank (code_of B a b) ≡ A.rank a + B.rank b
  rank_code l f a b p q =
      let low = l.below b q in
      let e = ap A.rank (digits_div a low) in
      let g = ap B.rank (digits_mod a low) in
      let h = legal_code l f a b p q in
      rw h (cc)

  pub count_both : (s : Side) (a b : ℕ) → length (moves_in A B s a b) ≡ length (A.moves s a) + length (B.moves s b)
  count_both s a b = simp (length-append, length-map)

  rank_at : (n : ℕ) → legal_both A B n ≡ true → (plus A B).rank n ≡ A.rank (first_code B n) + B.rank (second_code B n)
  rank_at n e = ap (λ b. cond b (A.rank (first_code B n) + B.rank (second_code B n)) 0) e

  pub moves_at : (s : Side) (n : ℕ) → legal_both A B n ≡ true → (plus A B).moves s n ≡ moves_in A B s (first_code B n) (second_code B n)
  moves_at s n e = ap (λ b. cond b (moves_in A B s (first_code B n) (second_code B n)) []) e

  module _ (la : Lawful A) (lb : Lawful B) where
    -- a move in either part is legal and lowers the rank
    pub first_falls : (n m : ℕ) → legal_both A B n ≡ true → A.legal m ≡ true → A.rank m < A.rank (first_code B n) →
        (legal_both A B (code_of B m (second_code B n)) ≡ true) × ((plus A B).rank (code_of B m (second_code B n)) < (plus A B).rank n)
    first_falls n m e p q =
        let k = both n e in
        let r = rank_code lb k.fitting m (second_code B n) p k.second in
        let w = rank_at n e in
        (legal_code lb k.fitting m (second_code B n) p k.second, rw (r, w) (omega arith))

    pub second_falls : (n m : ℕ) → legal_both A B n ≡ true → B.legal m ≡ true → B.rank m < B.rank (second_code B n) →
        (legal_both A B (code_of B (first_code B n) m) ≡ true) × ((plus A B).rank (code_of B (first_code B n) m) < (plus A B).rank n)
    second_falls n m e p q =
        let k = both n e in
        let r = rank_code lb k.fitting (first_code B n) m k.first p in
        let w = rank_at n e in
        (legal_code lb k.fitting (first_code B n) m k.first p, rw (r, w) (omega arith))

    Falls : ℕ → ℕ → Type 0
    Falls n m = (legal_both A B m ≡ true) × ((plus A B).rank m < (plus A B).rank n)

    falls_both : (s : Side) (n : ℕ) → legal_both A B n ≡ true → AllByRecursion (Falls n) (moves_in A B s (first_code B n) (second_code B n))
    unfolding Falls
    falls_both s n e = All-append (Falls n) _ _
        (All-map (Falls n) (λ m. code_of B m (second_code B n)) _ (All-weaker _ _ (λ m h. first_falls n m e h.0 h.1) _ (la.falls s (first_code B n))))
        (All-map (Falls n) (λ m. code_of B (first_code B n) m) _ (All-weaker _ _ (λ m h. second_falls n m e h.0 h.1) _ (lb.falls s (second_code B n))))

    sum_below : (n : ℕ) → legal_both A B n ≡ true → n < (plus A B).limit
    sum_below n e =
        let k = both n e in
        let l = digits_lt (la.below _ k.first) (lb.below _ k.second) in
        let d = div-add-mod' n B.limit in
        rw k.fitting (omega arith)

    sum_narrow : (s : Side) (n : ℕ) → legal_both A B n ≡ true → length (moves_in A B s (first_code B n) (second_code B n)) ≤ (plus A B).width
    sum_narrow s n e =
        let k = both n e in
        let c = count_both s (first_code B n) (second_code B n) in
        let l = la.narrow s (first_code B n) in
        let r = lb.narrow s (second_code B n) in
        rw k.fitting (omega arith)

    sum_shallow : (n : ℕ) → legal_both A B n ≡ true → A.rank (first_code B n) + B.rank (second_code B n) ≤ (plus A B).depth
    sum_shallow n e =
        let k = both n e in
        let l = la.shallow (first_code B n) in
        let r = lb.shallow (second_code B n) in
        rw k.fitting (omega arith)

    pub plus_lawful : Lawful (plus A B)
    unfolding Falls
    plus_lawful = record {
      limit_low = cond_both (fits A B) _ 1 (λ l. 1 ≤ l) (λ _. mul-pos la.limit_low lb.limit_low) (λ _. omega arith);
      limit_high = cond_both (fits A B) _ 1 (λ l. l ≤ 2 ^ 60) (λ e. (fit e).limits) (λ _. omega arith);
      width_high = cond_both (fits A B) _ 0 (λ l. l ≤ 256) (λ e. (fit e).widths) (λ _. omega arith);
      depth_high = cond_both (fits A B) _ 0 (λ l. l ≤ 96) (λ e. (fit e).depths) (λ _. omega arith);
      below = sum_below;
      narrow = λ s n. cond_both (legal_both A B n) _ [] (λ ms. length ms ≤ (plus A B).width) (sum_narrow s n) (λ _. omega arith);
      shallow = λ n. cond_both (legal_both A B n) _ 0 (λ r. r ≤ (plus A B).depth) (sum_shallow n) (λ _. omega arith);
      falls = λ s n. cond_both (legal_both A B n) _ [] (AllByRecursion (Falls n)) (falls_both s n) (λ _. tt);
      no_moves = λ s n e. ap (λ b. cond b (moves_in A B s (first_code B n) (second_code B n)) []) e;
      no_rank = λ n e. ap (λ b. cond b (A.rank (first_code B n) + B.rank (second_code B n)) 0) e;
    }
