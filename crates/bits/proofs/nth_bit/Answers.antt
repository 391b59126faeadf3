-- Each turn drops the first place of the list; the word is 0 when nothing is left of it.
use Rattle.std.proofs.Common.{◌≡◌, ℕ, suc, ◌+◌, ◌-◌, None, Option, sym, ap, ◌∙◌, inl, inr, arith}
use Rattle.std.proofs.lemmas.Bool.{cases_eq, eq-eqb, ne_eqb}
use lib.Bits.{and_le_l}
use Rattle.std.specs.List.{slice_get}
use Rattle.bits.specs.Bits.{bit, places}
use Rattle.bits.proofs.Counts.{nth_zero, nth_lowest, nth_cleared}
use Rattle.bits.proofs.nth_bit.Goals as goal

-- nothing is left
run_out : (rest i : ℕ) (r : Option ℕ) → rest ≡ 0 → slice_get (places 64 (bit rest)) i ≡ r → None ≡ r
run_out rest i r z e = sym (nth_zero 64 i) ∙ ap (λ w. slice_get (places 64 (bit w)) i) (sym z) ∙ e

pub loop-init : goal.loop-init
loop-init c = (omega arith, ap (λ i. slice_get (places 64 (bit c.args.word)) i) (omega arith))

pub loop-preserved : goal.loop-preserved
loop-preserved c =
    let some = c.in_ok-rest.ensures in
    let left : c.args.index - c.loop.counter ≡ suc (c.args.index - (c.loop.counter + 1)) = omega arith in
    rw some.1 (
      omega (arith, and_le_l c.loop.rest (c.loop.rest - 1)),
      sym (nth_cleared 64 c.loop.rest (c.args.index - (c.loop.counter + 1)) c.loop.invariant.0 (λ e. omega (arith, some.0)))
          ∙ ap (λ i. slice_get (places 64 (bit c.loop.rest)) i) (sym left)
          ∙ c.loop.invariant.1,
    )

pub returns-in_err-rest : goal.returns-in_err-rest
returns-in_err-rest c = let none : c.loop.rest ≡ 0 = omega (arith, c.in_err-rest.ensures) in c.from_residual.ensures ∙ run_out c.loop.rest _ _ none c.loop.invariant.1

pub returns : goal.returns
returns c =
    let done : c.args.index - c.loop.counter ≡ 0 = omega arith in
    c.then_some.ensures ∙ elim (cases_eq c.loop.rest 0) [
      | inl e ↦ rw (eq-eqb c.loop.rest 0 e) (run_out c.loop.rest _ _ e c.loop.invariant.1)
      | inr n ↦ rw (ne_eqb c.loop.rest 0 n) (sym (nth_lowest 64 c.loop.rest c.loop.invariant.0 n) ∙ ap (λ i. slice_get (places 64 (bit c.loop.rest)) i) (sym done) ∙ c.loop.invariant.1)
    ]
