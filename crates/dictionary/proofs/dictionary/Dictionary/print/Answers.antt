-- The budget is the room for the text, so what it pays for fits.
use Rattle.std.proofs.Common.{arith, ◌≡◌, ℕ, List, ◌-◌, ◌≤◌, Some, None, Err, ◌∙◌, subst, rules}
use Rattle.std.specs.Option.{SomeIff}
use Rattle.calls.specs.Asking.{text_length}
use Rattle.dictionary.specs.declared.fault.PrintFault.TheVariants.{Long}
use Rattle.calls.specs.Answers.{told, refused}
use Rattle.dictionary.specs.Printing.{Printed}
use Rattle.dictionary.proofs.Prints.{print_steps, printed_long, printed_told, printed_unknown}
use Rattle.dictionary.proofs.dictionary.Dictionary.print.Goals as goal

pub returns-then-from-count : goal.returns-then-from-count
returns-then-from-count g c =
    let rows = g.S.Store.rows c.self.inside.store in
    let h = c.if-from-count.true in
    let k = c.count.ensures in
    let printed = printed_unknown rows c.args.node c.args.out.now (omega arith) in
    record { printed = rw (← c.self.view_is) printed; step = rw (← c.self.view_is) (print_steps rows c.args.node c.args.out.now (refused 1) c.args.out.now printed) }

pub returns : goal.returns
returns g c =
    let rows = g.S.Store.rows c.self.inside.store in
    let h = c.if-from-count.false in
    let k = c.count.ensures in
    let m = c.min.ensures in
    let is : c.spend.result ≡ Some c.in_ok-ok_or.field-0 = search rules in
    let p = subst (λ r. SomeIff r (text_length rows c.args.node ≤ c.min.result) (c.min.result - text_length rows c.args.node)) is c.spend.ensures in
    let told_size = told c.write.new.writer.place in
    let printed : (after : List ℕ) → after ≡ c.write.new.writer.out.now → Printed rows c.args.node c.args.out.now told_size after =
    λ after e. printed_told rows c.args.node c.args.out.now (omega arith) (omega arith) c.write.new.writer.place after c.write.ensures.behind (e ∙ c.write.ensures.written) in
    record { printed = rw (← c.self.view_is) (printed _ (search rules)); step = rw (← c.self.view_is) (print_steps rows c.args.node c.args.out.now told_size _ (printed _ (search rules))) }

pub returns-in_err-ok_or : goal.returns-in_err-ok_or
returns-in_err-ok_or g c =
    let rows = g.S.Store.rows c.self.inside.store in
    let h = c.if-from-count.false in
    let k = c.count.ensures in
    let m = c.min.ensures in
    let is : c.spend.result ≡ None = search rules in
    let p = subst (λ r. SomeIff r (text_length rows c.args.node ≤ c.min.result) (c.min.result - text_length rows c.args.node)) is c.spend.ensures in
    let e : c.from_residual.result ≡ Err Long = search rules in
    let printed = printed_long rows c.args.node c.args.out.now (omega arith) (λ l. p (omega arith)) in
    record { printed = rw (e, ← c.self.view_is) printed; step = rw (e, ← c.self.view_is) (print_steps rows c.args.node c.args.out.now (refused 5) c.args.out.now printed) }
