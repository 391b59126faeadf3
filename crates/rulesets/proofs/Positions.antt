-- The game of a position is the form whose options are the games of its successors; so who wins it is told by the successors.
-- Assumes nothing.
use Rattle.std.proofs.Common.{◌≡◌, ℕ, zero, suc, ◌+◌, ◌<◌, ◌≤◌, Bool, true, false, cond, not, ◌||◌, List, [], ◌∷◌, length, get_or, drop, Some, None, filter, map, sym, refl, ap, ◌∙◌, ap₂, arith}
use Rattle.std.specs.List.{AllByRecursion, enumerate_from, list_any, range_with_len, slice_get}
use Rattle.std.proofs.ByRecursion.{All-get_or}
use Rattle.games.specs.declared.side.Side.{Side}
use Rattle.games.specs.declared.side.Side.TheVariants.{Left, Right}
use Rattle.games.specs.Form.{Form, form, ∅, ◌&◌, 𝟎, any}
use Rattle.games.specs.Sides.{other, options}
use Rattle.games.specs.Numbered.{each, form_by}
use Rattle.games.specs.Play.{wins}
use Rattle.games.proofs.Play.{wins_law}
use Rattle.rulesets.specs.Rules.{Rules, Lawful, successors, game_in, game}
use Rattle.rulesets.specs.Winning.{starter_wins, mover_wins}

each_same : (P : ℕ → Type 0) (f h : ℕ → Form) → ((n : ℕ) → P n → f n ≡ h n) → (ns : List ℕ) → AllByRecursion P ns → each f ns ≡ each h ns
each_same P f h e [] a = refl
each_same P f h e (n ∷ ns) a = ap₂ ◌&◌ (e n a.0) (each_same P f h e ns a.1)

module _ (R : Rules) (l : Lawful R) where
  none_left : (n : ℕ) (f : ℕ → Form) (ns : List ℕ) → AllByRecursion (λ m. (R.legal m ≡ true) × (R.rank m < R.rank n)) ns → R.rank n ≤ 0 → each f ns ≡ ∅
  none_left n f [] a k = refl
  none_left n f (m ∷ ns) a k = let h = a.0.1 in absurd (omega arith)

  game_enough : (j k n : ℕ) → R.rank n ≤ j → R.rank n ≤ k → game_in R j n ≡ game_in R k n
  game_enough zero zero n p q = refl
  game_enough zero (suc k) n p q = sym (ap₂ form (none_left n (game_in R k) _ (l.falls Left n) p) (none_left n (game_in R k) _ (l.falls Right n) p))
  game_enough (suc j) zero n p q = ap₂ form (none_left n (game_in R j) _ (l.falls Left n) q) (none_left n (game_in R j) _ (l.falls Right n) q)
  game_enough (suc j) (suc k) n p q =
      let side : (s : Side) → each (game_in R j) (R.moves s n) ≡ each (game_in R k) (R.moves s n) =
      λ s. each_same _ (game_in R j) (game_in R k) (λ m f. let r = f.1 in game_enough j k m (omega arith) (omega arith)) (R.moves s n) (l.falls s n) in
      ap₂ form (side Left) (side Right)

  pub game_law : (n : ℕ) → game R n ≡ form_by (game R) (successors R n)
  unfolding game
  game_law n =
      let side : (s : Side) → each (game_in R (R.rank n)) (R.moves s n) ≡ each (game R) (R.moves s n) =
      λ s. each_same _ (game_in R (R.rank n)) (game R) (λ m f. let r = f.1 in game_enough (R.rank n) (R.rank m) m (omega arith) (omega arith)) (R.moves s n) (l.falls s n) in
      game_enough (R.rank n) (suc (R.rank n)) n (omega arith) (omega arith) ∙ ap₂ form (side Left) (side Right)

  options_of : (s : Side) (n : ℕ) → options s (game R n) ≡ each (game R) (R.moves s n)
  options_of Left n = ap (options Left) (game_law n)
  options_of Right n = ap (options Right) (game_law n)

any_each : (p : Form → Bool) (f : ℕ → Form) (ns : List ℕ) → any p (each f ns) ≡ list_any (λ n. p (f n)) ns
any_each p f [] = refl
any_each p f (n ∷ ns) = ap (λ b. p (f n) || b) (any_each p f ns)

or_false : (b : Bool) → (b || false) ≡ b
or_false true = refl
or_false false = refl

-- a play on a game and 0 is a play on the game alone
alone : (s : Side) (g : Form) → wins s g 𝟎 ≡ any (λ o. not (wins (other s) o 𝟎)) (options s g)
alone Left g = wins_law Left g 𝟎 ∙ or_false _
alone Right g = wins_law Right g 𝟎 ∙ or_false _

module _ (R : Rules) (l : Lawful R) where
  pub starter_law : (s : Side) (n : ℕ) → starter_wins R s n ≡ list_any (mover_wins R s) (R.moves s n)
  starter_law s n = alone s (game R n) ∙ ap (any (λ o. not (wins (other s) o 𝟎))) (options_of R l s n) ∙ any_each (λ o. not (wins (other s) o 𝟎)) (game R) (R.moves s n)

-- what a successor question that answers tells: the index is below the count, and the answer stands there
pub nth_some : (xs : List ℕ) (i m : ℕ) → Some m ≡ slice_get xs i → (i < length xs) × (get_or xs i 0 ≡ m)
nth_some [] i m e = let z : ◌≡◌ {A = ℕ} 0 1 = cc in absurd (omega arith)
nth_some (x ∷ xs) zero m e = (omega arith, cc)
nth_some (x ∷ xs) (suc i) m e = let (h, k) = nth_some xs i m e in (omega arith, k)

pub nth_none : (xs : List ℕ) (i : ℕ) → i < length xs → None ≡ slice_get xs i → ⊥
nth_none [] i h e = omega arith
nth_none (x ∷ xs) zero h e = let z : ◌≡◌ {A = ℕ} 0 1 = cc in omega arith
nth_none (x ∷ xs) (suc i) h e = nth_none xs i (omega arith) e

-- the first of the numbers left is the one at the index, and where none is left the index is past all
pub left_some : (xs : List ℕ) (i m : ℕ) (ys : List ℕ) → drop i xs ≡ m ∷ ys → (Some m ≡ slice_get xs i) × (ys ≡ drop (i + 1) xs)
left_some [] zero m ys e = let z : ◌≡◌ {A = ℕ} 0 1 = cc in absurd (omega arith)
left_some [] (suc i) m ys e = let z : ◌≡◌ {A = ℕ} 0 1 = cc in absurd (omega arith)
left_some (x ∷ xs) zero m ys e = (cc, cc)
left_some (x ∷ xs) (suc i) m ys e =
    let (first, others) = left_some xs i m ys e in
    let next : suc (i + 1) ≡ suc i + 1 = omega arith in
    (first, others ∙ ap (λ k. drop k (x ∷ xs)) next)

pub left_none : (xs : List ℕ) (i : ℕ) → drop i xs ≡ [] → length xs ≤ i
left_none [] i e = omega arith
left_none (x ∷ xs) zero e = let z : ◌≡◌ {A = ℕ} 0 1 = cc in absurd (omega arith)
left_none (x ∷ xs) (suc i) e = let h = left_none xs i e in omega arith

-- so a successor is legal and has a smaller rank
pub successor_falls : (R : Rules) → Lawful R → (s : Side) (n i m : ℕ) → Some m ≡ slice_get (R.moves s n) i → (R.legal m ≡ true) × (R.rank m < R.rank n)
successor_falls R l s n i m e =
    let (h, k) = nth_some (R.moves s n) i m e in
    rw k at (All-get_or (λ m. (R.legal m ≡ true) × (R.rank m < R.rank n)) (R.moves s n) i 0 h (l.falls s n))

-- the first parts of the pairs
abbrev firsts : List (ℕ × ℕ) → List ℕ
firsts ts = map (λ t. t.0) ts

firsts_kept : (b : Bool) (a n : ℕ) (ts : List (ℕ × ℕ)) (is : List ℕ) → firsts ts ≡ is → firsts (cond b ((a, n) ∷ ts) ts) ≡ cond b (a ∷ is) is
firsts_kept true a n ts is e = ap (λ js. a ∷ js) e
firsts_kept false a n ts is e = e

-- the indices, counted from a, of the numbers that pass the test are those that pass a test which reads the number there
pub indices_filter : (p q : ℕ → Bool) (a : ℕ) (ns : List ℕ) → ((k j : ℕ) → k < length ns → a + k ≡ j → q j ≡ p (get_or ns k 0)) → map (λ t. t.0) (filter (λ t. p t.1) (enumerate_from a ns)) ≡ filter q (range_with_len a (length ns))
indices_filter p q a [] h = refl
indices_filter p q a (n ∷ ns) h =
    let others = indices_filter p q (a + 1) ns (λ k j b e. h (suc k) j (omega arith) (omega arith)) in
    rw (h 0 a (omega arith) (omega arith)) (firsts_kept (p n) a n _ _ others)
