-- Games with other sets of options: equal nodes, bypassed options, dominated options.
-- Assumes nothing.
use Rattle.std.proofs.Common.{◌≡◌, ℕ, suc, ◌<◌, ◌≤◌, Bool, true, false, not, ◌&&◌, ◌||◌, eqb, ltb, ◌⊎◌, List, [], ◌∷◌, length, get_or, Some, None, Option, sym, refl, ap, ◌∙◌, subst, inl, inr, arith, MatchOption}
use Rattle.std.proofs.lemmas.Bool.{or_cases, or_left, or_right, and_parts, and_from, cases_eq, cases_Bool, ltb-true, lt-ltb, ne_eqb, eq-eqb, not_from_false}
use Rattle.games.specs.declared.side.Side.{Side}
use Rattle.games.specs.declared.side.Side.TheVariants.{Left, Right}
use Rattle.games.specs.Form.{Form, ◌∈◌}
use Rattle.games.specs.Order.{◌≈◌}
use Rattle.games.specs.Sides.{other, options}
use Rattle.games.specs.Canon.{AsGood}
use Rattle.games.specs.Tests.{as_good}
use Rattle.games.proofs.Order.{≈_refl, ≈_sym, ≈_trans}
use Rattle.games.proofs.Sides.{good_trans, good_refl, ≈_good, good_≈, same_options}
use Rattle.games.proofs.Value.{dominated_≈, bypassed_≈}
use Rattle.sealing.specs.Arranged.{arranged}
use Rattle.nodesets.specs.Pairs.{Sets, Within}
use Rattle.nodesets.specs.Sets.{Meet, Lowest}
use Rattle.sealing.specs.Forms.{none, picked, forms, node, game}
use Rattle.sealing.specs.Invariants.{Lower}
use Rattle.sealing.specs.Steps.{Compared, EqualAt, Reduced}
use Rattle.sealing.proofs.Forming.{made_options, game_back, game_into, node_back, node_into}
use Rattle.sealing.proofs.Standing.{good_from, from_good, good_turn}

pub equal_at : (os : List Sets) (o : Sets) (n : ℕ) (p : Sets) → Compared os o n p → (r : Option ℕ) → MatchOption r (Meet (p Left) (p Right) → ⊥) (λ k. Lowest (p Left) (p Right) k) → EqualAt r os n o
equal_at os o n p is None f = λ k l e. f (k, is Left k ∙ and_from _ _ (lt-ltb k n l) (from_good Left (≈_good Left e)), is Right k ∙ and_from _ _ (lt-ltb k n l) (from_good Right (≈_good Right e)))
equal_at os o n p is (Some k) (a, b, _) =
    let (l, g) = and_parts (ltb k n) (as_good Left (game os o) (node os k)) (sym (is Left k) ∙ a) in
    let (m, h) = and_parts (ltb k n) (as_good Right (game os o) (node os k)) (sym (is Right k) ∙ b) in
    (ltb-true k n l, good_≈ (good_from Left (game os o) (node os k) g) (good_turn Left (good_from Right (game os o) (node os k) h)))

-- the comparison depends on the value alone
iff_same : (a b : Bool) → (a ≡ true → b ≡ true) → (b ≡ true → a ≡ true) → a ≡ b
iff_same true b f g = sym (f refl)
iff_same false true f g = g refl
iff_same false false f g = refl

pub as_good_same : (s : Side) (x y z : Form) → x ≈ y → as_good s x z ≡ as_good s y z
as_good_same s x y z e = iff_same _ _ (λ a. from_good s (good_trans (≈_good s (≈_sym e)) (good_from s x z a))) (λ a. from_good s (good_trans (≈_good s e) (good_from s y z a)))

pub compared_same : (os : List Sets) (o q : Sets) (n : ℕ) (p : Sets) → game os o ≈ game os q → Compared os o n p → Compared os q n p
compared_same os o q n p e is s k = is s k ∙ ap (λ b. ltb k n && b) (as_good_same s (game os o) (game os q) (node os k) e)

-- the same sets make the same options
picked_same : (p q : ℕ → Bool) → ((k : ℕ) → p k ≡ q k) → (i : ℕ) (fs : List Form) → picked p i fs ≡ picked q i fs
picked_same p q e i [] = refl
picked_same p q e i (f ∷ fs) = rw (e i, picked_same p q e (suc i) fs)

pub game_side : (os : List Sets) (o q : Sets) (s : Side) → ((k : ℕ) → o s k ≡ q s k) → options s (game os o) ≡ options s (game os q)
unfolding game
game_side os o q s e = made_options o (forms os) s ∙ ap arranged (picked_same (o s) (q s) e 0 (forms os)) ∙ sym (made_options q (forms os) s)

pub game_same : (os : List Sets) (o q : Sets) → ((s : Side) (k : ℕ) → o s k ≡ q s k) → game os o ≡ game os q
game_same os o q e = same_options (game os o) (game os q) (λ s. game_side os o q s (e s))

module _ (os : List Sets) (s : Side) (o q : Sets) (theirs : (k : ℕ) → q (other s) k ≡ o (other s) k) where
  rest : options (other s) (game os o) ≡ options (other s) (game os q)
  rest = game_side os o q (other s) (λ k. sym (theirs k))

  -- a gives way to the options of its reply b
  pub bypass_value : Lower os → (a b : ℕ) → a < length os → get_or os a none (other s) b ≡ true → AsGood s (game os o) (node os b)
      → ((k : ℕ) → q s k ≡ ((o s k && not (eqb k a)) || get_or os b none s k)) → game os o ≈ game os q
  bypass_value lower a b h t good is =
      let l = lower a (other s) b t in
      bypassed_≈ s (game os o) (game os q) rest (node os a) (node os b) (node_into os a h (other s) b l t) good (old) (new l) (into l)
    where
      old : (x : Form) → x ∈ options s (game os o) → (node os a ≡ x) ⊎ (x ∈ options s (game os q))
      old x m =
          let (k, l, u, e) = game_back os o s x m in
          elim (cases_eq k a) [
            | inl d ↦ inl (ap (node os) (sym d) ∙ sym e)
            | inr d ↦ inr (rw e (game_into os q s k l (is k ∙ or_left _ _ (and_from _ _ u (not_from_false (eqb k a) (ne_eqb k a d))))))
          ]

      new : b < a → (x : Form) → x ∈ options s (game os q) → (x ∈ options s (game os o)) ⊎ (x ∈ options s (node os b))
      new l x m =
          let (k, i, u, e) = game_back os q s x m in
          elim (or_cases (o s k && not (eqb k a)) (get_or os b none s k) (sym (is k) ∙ u)) [
            | inl v ↦ inl (rw e (game_into os o s k i (and_parts (o s k) (not (eqb k a)) v).0))
            | inr v ↦ inr (rw e (node_into os b (omega arith) s k (lower b s k v) v))
          ]

      into : b < a → (x : Form) → x ∈ options s (node os b) → x ∈ options s (game os q)
      into l x m =
          let (k, i, u, e) = node_back os b (omega arith) s x m in
          rw e (game_into os q s k (omega arith) (is k ∙ or_right (o s k && not (eqb k a)) _ u))

  -- options go that one which stays is as good as
  pub dominated_value : ((k : ℕ) → q s k ≡ true → o s k ≡ true)
      → ((k : ℕ) → k < length os → o s k ≡ true → (q s k ≡ true) ⊎ ((j : ℕ) × (j < length os) × (q s j ≡ true) × AsGood s (node os j) (node os k))) → game os o ≈ game os q
  dominated_value fewer better = dominated_≈ s (game os o) (game os q) rest own less
    where
      own : (x : Form) → x ∈ options s (game os o) → (y : Form) × (y ∈ options s (game os q)) × AsGood s y x
      own x m =
          let (k, l, u, e) = game_back os o s x m in
          elim (better k l u) [
            | inl v ↦ (node os k, game_into os q s k l v, subst (λ z. AsGood s (node os k) z) (sym e) (good_refl s (node os k)))
            | inr (j, i, v, g) ↦ (node os j, game_into os q s j i v, subst (λ z. AsGood s (node os j) z) (sym e) g)
          ]

      less : (x : Form) → x ∈ options s (game os q) → x ∈ options s (game os o)
      less x m = let (k, l, u, e) = game_back os q s x m in rw e (game_into os o s k l (fewer k u))

pub reduced_self : (os : List Sets) (s : Side) (o : Sets) → Within (length os) o → Reduced os s o o
reduced_self os s o within = record { value = ≈_refl (game os o); within = within; theirs = λ k. refl }

pub reduced_then : (os : List Sets) (s : Side) (o p q : Sets) → Reduced os s o p → Reduced os s p q → Reduced os s o q
reduced_then os s o p q a b = record { value = ≈_trans a.value b.value; within = b.within; theirs = λ k. b.theirs k ∙ a.theirs k }

-- a step of the bypass: a has given way to the side's options of its reply b
module _ (os : List Sets) (lower : Lower os) (s : Side) (a b : ℕ) (there : a < length os) (o w x : Sets) (within : Within (length os) o) (known : Compared os o (length os) w)
    (reply : get_or os a none (other s) b ≡ true) (worse : w s b ≡ true) (own : (k : ℕ) → x s k ≡ ((o s k && not (eqb k a)) || get_or os b none s k)) (theirs : (k : ℕ) → x (other s) k ≡ o (other s) k) where
  below : b < a
  below = lower a (other s) b reply

  inside : (k : ℕ) → x s k ≡ true → k < length os
  inside k t = elim (or_cases (o s k && not (eqb k a)) (get_or os b none s k) (sym (own k) ∙ t)) [
    | inl u ↦ within s k (and_parts (o s k) (not (eqb k a)) u).0
    | inr u ↦ let l = lower b s k u in let m = below in omega arith
  ]

  pub bypass_reduces : Reduced os s o x
  bypass_reduces = record {
    value = bypass_value os s o x theirs lower a b there reply (good_from s (game os o) (node os b) (and_parts (ltb b (length os)) (as_good s (game os o) (node os b)) (sym (known s b) ∙ worse)).1) own;
    within = both s inside (λ k t. within (other s) k (sym (theirs k) ∙ t));
    theirs = theirs;
  }
    where
      both : (s : Side) → ((k : ℕ) → x s k ≡ true → k < length os) → ((k : ℕ) → x (other s) k ≡ true → k < length os) → Within (length os) x
      both Left f g Left = f
      both Left f g Right = g
      both Right f g Left = g
      both Right f g Right = f

  not_option : (k : ℕ) → a ≤ k → get_or os b none s k ≡ false
  not_option k h = elim (cases_Bool (get_or os b none s k)) [ inl t ↦ (let l = lower b s k t in let m = below in absurd (omega arith)) | inr f ↦ f ]

  pub bypass_above : (k : ℕ) → a < k → x s k ≡ o s k
  bypass_above k h = rw (own k, not_option k (omega arith), ne_eqb k a (λ e. omega arith)) (keeps (o s k))
    where
      keeps : (v : Bool) → ((v && true) || false) ≡ v
      keeps true = refl
      keeps false = refl

  pub bypass_gone : x s a ≡ false
  bypass_gone = rw (own a, not_option a (omega arith), eq-eqb a a refl) (gone (o s a))
    where
      gone : (v : Bool) → ((v && false) || false) ≡ false
      gone true = refl
      gone false = refl
