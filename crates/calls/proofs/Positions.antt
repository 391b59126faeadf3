-- The positions in the order of sealing have the parts of the game for their games.
-- Assumes nothing.
use Rattle.std.proofs.Common.{◌≡◌, ℕ, zero, suc, ◌<◌, ◌≤◌, true, List, [], ◌∷◌, ◌++◌, map, sym, refl, ap, ◌∙◌, ap₂, arith}
use Rattle.std.specs.List.{flat_map, AllByRecursion}
use Rattle.std.proofs.lemmas.List.{map-append}
use Rattle.games.specs.declared.side.Side.{Side}
use Rattle.games.specs.declared.side.Side.TheVariants.{Left, Right}
use Rattle.games.specs.Numbered.{each}
use Rattle.rulesets.specs.Rules.{Rules, Lawful, game}
use Rattle.rulesets.proofs.Positions.{game_law}
use Rattle.calls.specs.Entering.{parts, parts_of_all}
use Rattle.calls.specs.Positions.{order_in, order}

joined_same : (P : ℕ → Type 0) (f h : ℕ → List ℕ) → ((n : ℕ) → P n → f n ≡ h n) → (ns : List ℕ) → AllByRecursion P ns → flat_map f ns ≡ flat_map h ns
joined_same P f h e [] a = refl
joined_same P f h e (n ∷ ns) a = ap₂ ◌++◌ (e n a.0) (joined_same P f h e ns a.1)

all_orders : (R : Rules) (f : ℕ → List ℕ) (P : ℕ → Type 0) → ((m : ℕ) → P m → map (game R) (f m) ≡ parts (game R m))
    → (ns : List ℕ) → AllByRecursion P ns → map (game R) (flat_map f ns) ≡ parts_of_all (each (game R) ns)
all_orders R f P e [] a = refl
all_orders R f P e (n ∷ ns) a = map-append (game R) (f n) (flat_map f ns) ∙ ap₂ ◌++◌ (e n a.0) (all_orders R f P e ns a.1)

module _ (R : Rules) (l : Lawful R) where
  no_moves : (n : ℕ) (ns : List ℕ) → AllByRecursion (λ m. (R.legal m ≡ true) × (R.rank m < R.rank n)) ns → R.rank n ≤ 0 → ns ≡ []
  no_moves n [] a k = refl
  no_moves n (m ∷ ns) a k = let h = a.0.1 in absurd (omega arith)

  none_joined : (n : ℕ) (s : Side) (f : ℕ → List ℕ) → R.rank n ≤ 0 → flat_map f (R.moves s n) ≡ []
  none_joined n s f k = ap (flat_map f) (no_moves n (R.moves s n) (l.falls s n) k)

  order_enough : (j k n : ℕ) → R.rank n ≤ j → R.rank n ≤ k → order_in R j n ≡ order_in R k n
  order_enough zero zero n p q = refl
  order_enough zero (suc k) n p q = sym (ap₂ (λ x y. x ++ (y ++ n ∷ [])) (none_joined n Left (order_in R k) p) (none_joined n Right (order_in R k) p))
  order_enough (suc j) zero n p q = ap₂ (λ x y. x ++ (y ++ n ∷ [])) (none_joined n Left (order_in R j) q) (none_joined n Right (order_in R j) q)
  order_enough (suc j) (suc k) n p q =
      let side : (s : Side) → flat_map (order_in R j) (R.moves s n) ≡ flat_map (order_in R k) (R.moves s n) =
      λ s. joined_same _ (order_in R j) (order_in R k) (λ m f. let r = f.1 in order_enough j k m (omega arith) (omega arith)) (R.moves s n) (l.falls s n) in
      ap₂ (λ x y. x ++ (y ++ n ∷ [])) (side Left) (side Right)

  pub order_unfolds : (n : ℕ) → order R n ≡ flat_map (order R) (R.moves Left n) ++ (flat_map (order R) (R.moves Right n) ++ n ∷ [])
  unfolding order
  order_unfolds n =
      let side : (s : Side) → flat_map (order_in R (R.rank n)) (R.moves s n) ≡ flat_map (order R) (R.moves s n) =
      λ s. joined_same _ (order_in R (R.rank n)) (order R) (λ m f. let r = f.1 in order_enough (R.rank n) (R.rank m) m (omega arith) (omega arith)) (R.moves s n) (l.falls s n) in
      order_enough (R.rank n) (suc (R.rank n)) n (omega arith) (omega arith) ∙ ap₂ (λ x y. x ++ (y ++ n ∷ [])) (side Left) (side Right)

  order_step : (n : ℕ) → ((m : ℕ) → R.rank m < R.rank n → map (game R) (order R m) ≡ parts (game R m)) → map (game R) (order R n) ≡ parts (game R n)
  order_step n below =
      let side : (s : Side) → map (game R) (flat_map (order R) (R.moves s n)) ≡ parts_of_all (each (game R) (R.moves s n)) =
      λ s. all_orders R (order R) (λ m. (R.legal m ≡ true) × (R.rank m < R.rank n)) (λ m f. below m f.1) (R.moves s n) (l.falls s n) in
      let law = game_law R l n in
      ap (map (game R)) (order_unfolds n)
      ∙ (map-append (game R) (flat_map (order R) (R.moves Left n)) _
      ∙ (ap₂ ◌++◌ (side Left) (map-append (game R) (flat_map (order R) (R.moves Right n)) (n ∷ []) ∙ ap₂ ◌++◌ (side Right) (ap (λ g. g ∷ []) law))
      ∙ ap parts (sym law)))

  order_in_lem : (k n : ℕ) → R.rank n < k → map (game R) (order R n) ≡ parts (game R n)
  order_in_lem zero n p = absurd (omega arith)
  order_in_lem (suc k) n p = order_step n (λ m q. order_in_lem k m (omega arith))

  pub order_law : (n : ℕ) → map (game R) (order R n) ≡ parts (game R n)
  order_law n = order_in_lem (suc (R.rank n)) n (omega arith)
