-- A move in either part, or in neither.
use Rattle.std.proofs.Common.{◌≡◌, ℕ, ◌/◌, ◌%◌, true, ◌∙◌, arith, rules}
use Rattle.sums.specs.Sums.{fits}
use Rattle.sums.proofs.Moves.{past_end, in_first_fits, in_first_found, in_second_fits, in_second_found, in_neither}
use Rattle.sums.proofs.sum.SumRuleset.successor.Goals as goal

pub overflow_mul-result : goal.overflow_mul-result
overflow_mul-result g c =
    let A = g.A.Ruleset.rules c.args.self.now.first in
    let B = g.B.Ruleset.rules c.args.self.now.second in
    let la = g.met.A.Ruleset.lawful c.args.self.now.first in
    let lb = g.met.B.Ruleset.lawful c.args.self.now.second in
    let n = c.args.code in
    let base = c.limit-base.result in
    let fitting : fits A B ≡ true = search rules in
    let legal : B.legal (n % base) ≡ true = search rules in
    let h = in_first_fits A B la lb c.args.side n base fitting c.limit-base.ensures c.args.index c.in-Some.next c.in-Some.ensures legal in
    search rules

pub overflow_add-result : goal.overflow_add-result
overflow_add-result g c =
    let A = g.A.Ruleset.rules c.args.self.now.first in
    let B = g.B.Ruleset.rules c.args.self.now.second in
    let la = g.met.A.Ruleset.lawful c.args.self.now.first in
    let lb = g.met.B.Ruleset.lawful c.args.self.now.second in
    let n = c.args.code in
    let base = c.limit-base.result in
    let fitting : fits A B ≡ true = search rules in
    let legal : B.legal (n % base) ≡ true = search rules in
    let h = in_first_fits A B la lb c.args.side n base fitting c.limit-base.ensures c.args.index c.in-Some.next c.in-Some.ensures legal in
    search rules

pub returns-in-Some : goal.returns-in-Some
returns-in-Some g c =
    let A = g.A.Ruleset.rules c.args.self.now.first in
    let B = g.B.Ruleset.rules c.args.self.now.second in
    let la = g.met.A.Ruleset.lawful c.args.self.now.first in
    let lb = g.met.B.Ruleset.lawful c.args.self.now.second in
    let n = c.args.code in
    let base = c.limit-base.result in
    let fitting : fits A B ≡ true = search rules in
    let legal : B.legal (n % base) ≡ true = search rules in
    in_first_found A B la lb c.args.side n base fitting c.limit-base.ensures c.args.index c.in-Some.next c.in-Some.ensures legal

pub overflow_sub-past : goal.overflow_sub-past
overflow_sub-past g c =
    omega (arith, past_end _ c.args.index c.in_default.ensures, c.count.ensures)

pub returns-in_err-next : goal.returns-in_err-next
returns-in_err-next g c =
    let A = g.A.Ruleset.rules c.args.self.now.first in
    let B = g.B.Ruleset.rules c.args.self.now.second in
    let la = g.met.A.Ruleset.lawful c.args.self.now.first in
    let lb = g.met.B.Ruleset.lawful c.args.self.now.second in
    let n = c.args.code in
    let base = c.limit-base.result in
    let fitting : fits A B ≡ true = search rules in
    let past = past_end _ c.args.index c.in_default.ensures in
    c.from_residual.ensures ∙ in_neither A B la lb c.args.side n base fitting c.limit-base.ensures c.args.index c.count.result c.count.ensures (omega (arith, past, c.count.ensures)) c.in_err-next.ensures

pub overflow_add-result-2 : goal.overflow_add-result-2
overflow_add-result-2 g c =
    let A = g.A.Ruleset.rules c.args.self.now.first in
    let B = g.B.Ruleset.rules c.args.self.now.second in
    let la = g.met.A.Ruleset.lawful c.args.self.now.first in
    let lb = g.met.B.Ruleset.lawful c.args.self.now.second in
    let n = c.args.code in
    let base = c.limit-base.result in
    let fitting : fits A B ≡ true = search rules in
    let past = past_end _ c.args.index c.in_default.ensures in
    let legal : A.legal (n / base) ≡ true = search rules in
    let h = in_second_fits A B la lb c.args.side n base fitting c.limit-base.ensures c.args.index c.count.result c.count.ensures (omega (arith, past, c.count.ensures)) c.in_ok-next.next c.in_ok-next.ensures legal in
    search rules

pub returns : goal.returns
returns g c =
    let A = g.A.Ruleset.rules c.args.self.now.first in
    let B = g.B.Ruleset.rules c.args.self.now.second in
    let la = g.met.A.Ruleset.lawful c.args.self.now.first in
    let lb = g.met.B.Ruleset.lawful c.args.self.now.second in
    let n = c.args.code in
    let base = c.limit-base.result in
    let fitting : fits A B ≡ true = search rules in
    let past = past_end _ c.args.index c.in_default.ensures in
    let legal : A.legal (n / base) ≡ true = search rules in
    in_second_found A B la lb c.args.side n base fitting c.limit-base.ensures c.args.index c.count.result c.count.ensures (omega (arith, past, c.count.ensures)) c.in_ok-next.next c.in_ok-next.ensures legal
