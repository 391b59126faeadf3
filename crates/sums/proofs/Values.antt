-- The game of a minus is the negative, and the game of a sum is the sum.
-- Assumes nothing.
use Rattle.std.proofs.Common.{◌≡◌, ℕ, zero, suc, ◌<◌, true, List, [], ◌∷◌, ◌++◌, map, sym, refl, ap, ◌∙◌, ap₂, arith}
use lib.Arith.{digits_div, digits_mod}
use Rattle.std.specs.List.{AllByRecursion}
use Rattle.games.specs.declared.side.Side.{Side}
use Rattle.games.specs.declared.side.Side.TheVariants.{Left, Right}
use Rattle.games.specs.Form.{Form, form, ◌&◌, ◌⧺◌}
use Rattle.games.specs.Sides.{options}
use Rattle.games.specs.Numbered.{each}
use Rattle.games.specs.Sums.{negative, negatives, changed, ◌⊕◌}
use Rattle.games.proofs.Sums.{sum_law, cancels}
use Rattle.rulesets.specs.Rules.{Rules, Lawful, game_in, game}
use Rattle.rulesets.proofs.Positions.{game_law}
use Rattle.sums.specs.Sums.{minus, first_code, second_code, code_of, legal_both, plus}
use Rattle.sums.specs.Laws.{MinusIsNegative, MinusCancels, SumAdds}
use Rattle.sums.specs.Parts.{minus_lawful, plus_lawful, both, first_falls, second_falls, legal_code, moves_at}

-- the negatives of what the numbers of a list stand for
each_negative : (f h : ℕ → Form) → ((n : ℕ) → f n ≡ negative (h n)) → (ns : List ℕ) → each f ns ≡ negatives (each h ns)
each_negative f h e [] = refl
each_negative f h e (n ∷ ns) = ap₂ ◌&◌ (e n) (each_negative f h e ns)

negative_in : (R : Rules) (k n : ℕ) → game_in (minus R) k n ≡ negative (game_in R k n)
negative_in R zero n = refl
negative_in R (suc k) n =
    let side : (s : Side) → each (game_in (minus R) k) (R.moves s n) ≡ negatives (each (game_in R k) (R.moves s n)) =
    λ s. each_negative (game_in (minus R) k) (game_in R k) (negative_in R k) (R.moves s n) in
    ap₂ form (side Right) (side Left)

pub minus_negative : (R : Rules) → MinusIsNegative R
unfolding game
minus_negative R n = negative_in R (R.rank n) n

each_append : (f : ℕ → Form) (ms ns : List ℕ) → each f (ms ++ ns) ≡ each f ms ⧺ each f ns
each_append f [] ns = refl
each_append f (m ∷ ms) ns = ap (λ t. f m & t) (each_append f ms ns)

each_changed : (P : ℕ → Type 0) (f h : ℕ → Form) (c : Form → Form) (k : ℕ → ℕ) → ((n : ℕ) → P n → f (k n) ≡ c (h n)) → (ns : List ℕ) → AllByRecursion P ns → each f (map k ns) ≡ changed c (each h ns)
each_changed P f h c k e [] a = refl
each_changed P f h c k e (n ∷ ns) a = ap₂ ◌&◌ (e n a.0) (each_changed P f h c k e ns a.1)

same_form : (g h : Form) → ((s : Side) → options s g ≡ options s h) → g ≡ h
same_form (form a b) (form c d) e = ap₂ form (e Left) (e Right)

options_of : (R : Rules) → Lawful R → (s : Side) (n : ℕ) → options s (game R n) ≡ each (game R) (R.moves s n)
options_of R l Left n = ap (options Left) (game_law R l n)
options_of R l Right n = ap (options Right) (game_law R l n)

module _ (A B : Rules) (la : Lawful A) (lb : Lawful B) where
  Adds : ℕ → Type 0
  Adds n = game (plus A B) n ≡ game A (first_code B n) ⊕ game B (second_code B n)

  adds_at : (a b : ℕ) → B.legal b ≡ true → Adds (code_of B a b) → game (plus A B) (code_of B a b) ≡ game A a ⊕ game B b
  unfolding Adds
  adds_at a b q e = let low = lb.below b q in e ∙ ap₂ (λ x y. game A x ⊕ game B y) (digits_div a low) (digits_mod a low)

  module _ (k : ℕ) (smaller : (n : ℕ) → legal_both A B n ≡ true → (plus A B).rank n < k → Adds n) (n : ℕ) (e : legal_both A B n ≡ true) (r : (plus A B).rank n < suc k) where
    in_first : (s : Side) → each (game (plus A B)) (map (λ m. code_of B m (second_code B n)) (A.moves s (first_code B n))) ≡ changed (λ o. o ⊕ game B (second_code B n)) (options s (game A (first_code B n)))
    in_first s =
        each_changed _ (game (plus A B)) (game A) (λ o. o ⊕ game B (second_code B n)) (λ m. code_of B m (second_code B n))
        (λ m h. let (l, f) = first_falls A B la lb n m e h.0 h.1 in adds_at m (second_code B n) (both A B n e).second (smaller _ l (omega arith)))
        (A.moves s (first_code B n)) (la.falls s (first_code B n))
        ∙ sym (ap (changed (λ o. o ⊕ game B (second_code B n))) (options_of A la s (first_code B n)))

    in_second : (s : Side) → each (game (plus A B)) (map (λ m. code_of B (first_code B n) m) (B.moves s (second_code B n))) ≡ changed (λ o. game A (first_code B n) ⊕ o) (options s (game B (second_code B n)))
    in_second s =
        each_changed _ (game (plus A B)) (game B) (λ o. game A (first_code B n) ⊕ o) (λ m. code_of B (first_code B n) m)
        (λ m h. let (l, f) = second_falls A B la lb n m e h.0 h.1 in adds_at (first_code B n) m h.0 (smaller _ l (omega arith)))
        (B.moves s (second_code B n)) (lb.falls s (second_code B n))
        ∙ sym (ap (changed (λ o. game A (first_code B n) ⊕ o)) (options_of B lb s (second_code B n)))

    adds_step : Adds n
    unfolding Adds
    adds_step = same_form _ _ (λ s.
        options_of (plus A B) (plus_lawful A B la lb) s n ∙ ap (each (game (plus A B))) (moves_at A B s n e)
        ∙ each_append (game (plus A B)) (map (λ m. code_of B m (second_code B n)) (A.moves s (first_code B n))) (map (λ m. code_of B (first_code B n) m) (B.moves s (second_code B n))) ∙ ap₂ ◌⧺◌ (in_first s) (in_second s) ∙ sym (sum_law s (game A (first_code B n)) (game B (second_code B n))))

  adds_in : (k n : ℕ) → legal_both A B n ≡ true → (plus A B).rank n < k → Adds n
  adds_in zero n e r = absurd (omega arith)
  adds_in (suc k) n e r = adds_step k (adds_in k) n e r

  pub sum_adds : SumAdds A B
  unfolding Adds
  sum_adds n e = adds_in (suc ((plus A B).rank n)) n e (omega arith)

pub minus_cancels : (R : Rules) → Lawful R → MinusCancels R
minus_cancels R l f n p =
    let e = sum_adds R (minus R) l (minus_lawful R l) (code_of R n n) (legal_code R (minus R) (minus_lawful R l) f n n p p) in
    let low = l.below n p in
    let same : game (plus R (minus R)) (code_of R n n) ≡ game R n ⊕ negative (game R n) =
    e ∙ ap₂ (λ x y. game R x ⊕ game (minus R) y) (digits_div n low) (digits_mod n low) ∙ ap (λ y. game R n ⊕ y) (minus_negative R n) in
    rw same (cancels (game R n))
