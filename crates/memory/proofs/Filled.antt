-- A table that held nothing, after what another holds was noted in it.
-- Assumes nothing.
use Rattle.std.proofs.Common.{ℕ, inl, inr}
use Rattle.memory.specs.Holds.{Joined}

pub filled : {other before after : ℕ → ℕ → Type 0} → ((c m : ℕ) → before c m → ⊥) → Joined other before after → (c m : ℕ) → after c m → other c m
filled none joined c m x = elim (joined c m x) [ inl b ↦ absurd (none c m b) | inr b ↦ b ]
