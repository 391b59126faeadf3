-- What was refused had no value, and what was not refused kept its value.
-- Assumes nothing.
use Rattle.std.proofs.Common.{◌≡◌, ℕ, Some, None, Ok, Err, Option, Result, IsOk, MatchResult, sym, refl, ap, arith}
use Rattle.std.specs.Option.{ok_or}

pub no_value : {T E : Type 0} (o : Option T) {x : E} (e : E) → Err e ≡ ok_or o x → (o ≡ None) × (e ≡ x)
no_value None e h = (refl, cc)
no_value (Some t) e h = let z : ◌≡◌ {A = ℕ} 0 1 = cc in absurd (omega arith)

pub kept_ok : {T E : Type 0} {P : T → Type 0} {Q : E → Type 0} (r : Result T E) (t : T) → MatchResult r P Q → ((x : T) → P x → t ≡ x) → ((e : E) → Q e → ⊥) → r ≡ Ok t
kept_ok (Ok x) t h same none = ap Ok (sym (same x h))
kept_ok (Err e) t h same none = absurd (none e h)

pub unrefused : {T E : Type 0} (P : T → Type 0) {Q : E → Type 0} (r : Result T E) → MatchResult r P Q → ((e : E) → Q e → ⊥) → IsOk r
unrefused P (Ok x) h none = refl
unrefused P (Err e) h none = absurd (none e h)
