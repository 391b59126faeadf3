-- What the steps of sealing find: the nodes that a game is as good as, a node that equals it, and its canonical form.
-- A game is given by its options, a set o of nodes for each side.
-- Assumes nothing.
use Rattle.std.specs.Prelude.{◌≡◌, ℕ, zero, suc, ◌+◌, ◌<◌, Bool, true, false, ◌&&◌, ◌||◌, List, length, Option, MatchOption, nat_lt, slice_index_or}
use Rattle.games.specs.declared.side.Side.{Side}
use Rattle.games.specs.Order.{◌≈◌}
use Rattle.games.specs.Sides.{other}
use Rattle.games.specs.Canon.{AsGood, Canonical}
use Rattle.games.specs.Tests.{as_good}
use Rattle.nodesets.specs.Pairs.{Sets, Within}
use Rattle.nodesets.specs.Sets.{Meet}
use Rattle.sealing.specs.Forms.{game, node, none}

-- the test holds of some number below n
abbrev pub some : ℕ → (ℕ → Bool) → Bool
some zero p = false
some (suc n) p = some n p || p n

-- some node of the set is as good as h for the side
abbrev pub bested_by : List Sets → Side → (ℕ → Bool) → ℕ → Bool
bested_by ws s p h = some (length ws) (λ q. p q && slice_index_or ws q none s h)

-- What is known of a game for one side: the nodes that are decided, and of those the ones that the game is as good as.
-- A node that an option of the other side bests is decided from the start.
pub record Partly (os ws : List Sets) (s : Side) (o : Sets) (decided worse : ℕ → Bool) : Type 0 where
  pub right : (k : ℕ) → decided k ≡ true → (k < length os) × (worse k ≡ as_good s (game os o) (node os k))
  pub only : (k : ℕ) → worse k ≡ true → decided k ≡ true
  pub bested : (k : ℕ) → k < length os → bested_by ws (other s) (o (other s)) k ≡ true → decided k ≡ true

-- the nodes below h are decided
abbrev pub Upto : ℕ → (ℕ → Bool) → Type 0
Upto h p = (k : ℕ) → k < h → p k ≡ true

-- r is the lowest node below n that is not decided for both sides, or all are
abbrev pub LowestUndecided : ℕ → (ℕ → Bool) → (ℕ → Bool) → Option ℕ → Type 0
LowestUndecided n left right r =
    MatchOption r (Upto n left × Upto n right) (λ h. (h < n) × Upto h left × Upto h right × ((left h && right h) ≡ false))

-- h is decided too, and no less than before
pub record Further (os ws : List Sets) (s : Side) (o : Sets) (h : ℕ) (decided after worse : ℕ → Bool) : Type 0 where
  pub known : Partly os ws s o after worse
  pub here : after h ≡ true
  pub still : (k : ℕ) → decided k ≡ true → after k ≡ true

-- p has the nodes below n that the game is as good as, for each side
abbrev pub Compared : List Sets → Sets → ℕ → Sets → Type 0
Compared os o n p = (s : Side) (k : ℕ) → p s k ≡ (nat_lt k n && as_good s (game os o) (node os k))

-- a node below n that equals g in value, or none where no node does
abbrev pub EqualAt : Option ℕ → List Sets → ℕ → Sets → Type 0
EqualAt r os n o = MatchOption r ((k : ℕ) → k < n → ¬ (game os o ≈ node os k)) (λ k. (k < n) × (game os o ≈ node os k))

-- the side's option a is not reversible: the game is as good as none of a's replies (w has the nodes that it is as good as)
abbrev pub Stays : List Sets → Side → Sets → ℕ → Type 0
Stays os s w a = Meet (slice_index_or os a none (other s)) (w s) → ⊥

-- q is a game of o's value, with the other side's options as they were
pub record Reduced (os : List Sets) (s : Side) (o q : Sets) : Type 0 where
  pub value : game os o ≈ game os q
  pub within : Within (length os) q
  pub theirs : (k : ℕ) → q (other s) k ≡ o (other s) k

-- none of the nodes below i in the set is as good as another of the set, for the side
abbrev pub Clear : List Sets → Side → ℕ → (ℕ → Bool) → Type 0
Clear os s i p = (j k : ℕ) → (j < i) × (k < length os) → (p j ≡ true) × (p k ≡ true) → AsGood s (node os j) (node os k) → j ≡ k

-- q lacks dominated options of o, so that the nodes up to a are clear once those below a were
pub record Cleared (os : List Sets) (s : Side) (a : ℕ) (o q : Sets) : Type 0 where
  pub reduced : Reduced os s o q
  pub fewer : (k : ℕ) → q s k ≡ true → o s k ≡ true
  pub clear : Clear os s a (o s) → Clear os s (a + 1) (q s)

-- q lacks dominated options of o, and has none below i
pub record Undominated (os : List Sets) (s : Side) (i : ℕ) (o q : Sets) : Type 0 where
  pub reduced : Reduced os s o q
  pub fewer : (k : ℕ) → q s k ≡ true → o s k ≡ true
  pub clear : Clear os s i (q s)

-- q is the canonical form of o
pub record Settled (os : List Sets) (o q : Sets) : Type 0 where
  pub value : game os o ≈ game os q
  pub within : Within (length os) q
  pub canonical : Canonical (game os q)
