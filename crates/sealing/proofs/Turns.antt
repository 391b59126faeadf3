-- One more number in a set.
-- Assumes nothing.
use Rattle.std.proofs.Common.{◌≡◌, ℕ, ◌<◌, ◌&&◌, eqb, ltb, inl, inr, arith}
use Rattle.std.proofs.lemmas.Bool.{cases_eq, eq-eqb, ne_eqb, lt-ltb}

-- a number that is small enough for a set
pub small_same : (k h : ℕ) → h < 384 → (eqb k h && ltb k 384) ≡ eqb k h
small_same k h l = elim (cases_eq k h) [ inl e ↦ rw (eq-eqb k h e, lt-ltb k 384 (omega arith)) | inr d ↦ rw (ne_eqb k h d) ]
