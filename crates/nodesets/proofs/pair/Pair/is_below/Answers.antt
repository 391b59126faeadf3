-- Both sets are below n, or one is not.
use Rattle.std.proofs.Common.{◌≡◌, ℕ, ◌<◌, true}
use Rattle.std.proofs.lemmas.Bool.{both_ways}
use Rattle.games.specs.declared.side.Side.TheVariants.{Left, Right}
use Rattle.nodesets.specs.Pairs.{by}
use Rattle.nodesets.proofs.Sides.{both}
use Rattle.nodesets.proofs.pair.Pair.is_below.Goals as goal

pub returns-then-is_below : goal.returns-then-is_below
returns-then-is_below c = (
  λ e. both (λ s. (k : ℕ) → by c.args.self.now s k ≡ true → k < c.args.n) (c.is_below.ensures.0 c.if-is_below.true) (c.is_below-then-is_below.ensures.0 e),
  λ h. c.is_below-then-is_below.ensures.1 (h Right),
)

pub returns-else-is_below : goal.returns-else-is_below
returns-else-is_below c = (λ e. absurd (both_ways _ c.if-is_below.false e), λ h. c.is_below.ensures.1 (h Left))
