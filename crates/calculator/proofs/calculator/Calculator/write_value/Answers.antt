-- The text behind the head, if it fits.
use Rattle.std.proofs.Common.{◌≡◌, ◌+◌, length, Err, refl, ap, ◌∙◌, arith, rules}
use Rattle.calculator.specs.declared.fault.CalculatorFault.TheVariants.{Print}
use Rattle.calculator.proofs.Numbers.{numeral_is}
use Rattle.calculator.proofs.Values.{outcome_known, outcome_told, printed_bound, value_refused, value_written}
use Rattle.calculator.proofs.calculator.Calculator.write_value.Goals as goal

pub returns-in_err-outcome : goal.returns-in_err-outcome
returns-in_err-outcome g c l = absurd (outcome_known (c.in_err-outcome.ensures) l)

pub returns-in_err-length : goal.returns-in_err-length
returns-in_err-length g c l =
    let d = ap length (c.format.ensures.text ∙ numeral_is c.args.node (search rules)) in
    let start = length c.format.result.now + 3 in
    let e : c.from_residual-in_err-length.result ≡ Err (Print c.in_err-length.field-0.0) = search rules in
    value_refused c.args.self.now.dictionary.rows c.args.node l c.args.out.now (search rules) start (omega (arith, c.format.ensures.fits)) c.in_ok-outcome.outcome (outcome_told (c.in_ok-outcome.ensures)) (ap (λ z. z + 3) d)
    (Print c.in_err-length.field-0.0) c.print.new.out c.from_residual-in_err-length.result e refl c.in_err-length.ensures.printed

pub overflow_add-result : goal.overflow_add-result
overflow_add-result g c = let b = printed_bound c.in_ok-length.ensures.printed.prints in search rules

pub returns : goal.returns
returns g c l =
    let d = ap length (c.format.ensures.text ∙ numeral_is c.args.node (search rules)) in
    let start = length c.format.result.now + 3 in
    value_written c.args.self.now.dictionary.rows c.args.node l c.args.out.now (search rules) start (omega (arith, c.format.ensures.fits)) c.in_ok-outcome.outcome (outcome_told (c.in_ok-outcome.ensures)) (ap (λ z. z + 3) d)
    c.in_ok-length.length c.print.new.out c.put_head.new.out c.in_ok-length.ensures.printed c.put_head.ensures.written
