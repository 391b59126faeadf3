-- The order of games.
-- Assumes nothing.
use Rattle.std.specs.Prelude.{ℕ, zero, suc, ◌+◌, Bool, false, not, ◌&&◌, T}
use Rattle.games.specs.Form.{Form, lefts, rights, any, size}

infix 40 ◌≥◌ ◌≈◌ ◌∥◌
-- G ≥ H when no Right option of G is ≤ H and no Left option of H is ≥ G.
-- The number bounds how deep the recursion goes, and from size G + size H on it does not matter (`OrderReads` in Laws).
abbrev pub ge_in : ℕ → Form → Form → Bool
ge_in zero g h = false
ge_in (suc n) g h = not (any (λ r. ge_in n h r) (rights g)) && not (any (λ l. ge_in n l g) (lefts h))

unfoldable pub ge : Form → Form → Bool
ge g h = ge_in (size g + size h) g h

-- the same as a statement; G ≤ H means H ≥ G (a record, so that g and h are found from a proof of it)
pub record ◌≥◌ (g h : Form) : Type 0 where
  pub holds : T (ge g h)

-- equal in value: each is at least the other
pub record ◌≈◌ (g h : Form) : Type 0 where
  pub above : g ≥ h
  pub below : h ≥ g

-- confused: neither is at least the other
pub record ◌∥◌ (g h : Form) : Type 0 where
  pub not_above : ¬ (g ≥ h)
  pub not_below : ¬ (h ≥ g)
