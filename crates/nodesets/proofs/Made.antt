-- An array made by a closure that changes nothing that it holds: what each call gives holds of each element.
-- Assumes nothing.
use Rattle.std.proofs.Common.{◌≡◌, ℕ, zero, suc, ◌+◌, ◌<◌, ◌≤◌, List, get_or, subst, sym, inl, inr, arith}
use denote.Param.Members.{Mut, Called}
use Rattle.std.specs.Array.{IsFromFnResultFrom}
use Rattle.std.proofs.lemmas.Bool.{cases_eq}

pub each_made : {F B : Type 0} (g : Mut F (ℕ × Unit {0}) B) (P : ℕ → B → Type 0) (n i : ℕ) (f : F) (ys : List B) → ((k : ℕ) (y : B) (q : F) → Called g f (k, tt) y q → (q ≡ f) × P k y)
    → IsFromFnResultFrom g f ys i n → (k : ℕ) → i ≤ k → k < i + n → (d : B) → P k (get_or ys k d)
each_made g P zero i f ys one made k low high d = absurd (omega arith)
each_made {F} {B} g P (suc n) i f ys one made k low high d =
    let (q, y, at, call, rest) = made in
    let here = one i y q call in
    elim (cases_eq k i) [
      | inl e ↦ rw e (subst (λ (x : B). P i x) (sym (at.1 d)) here.1)
      | inr m ↦ each_made g P n (i + 1) f ys one (subst (λ (x : F). IsFromFnResultFrom g x ys (i + 1) n) here.0 rest) k (omega arith) (omega arith) d
    ]
