use Rattle.std.proofs.Common.{◌≡◌, ◌≤◌, sum, rules, arith}
use Rattle.std.proofs.lemmas.List.Elements.{All-from_get_or}
use Rattle.std.proofs.lemmas.List.Sums.{sum_by-le}
use Rattle.hashed_store.proofs.table.chains.total.Goals as goal

pub returns-clause-bound : goal.returns-clause-bound
returns-clause-bound c =
    let e : c.sum.result ≡ sum c.args.numbers.now = search rules in
    let h = sum_by-le (λ x. x) 65535 c.args.numbers.now (All-from_get_or (λ x. x ≤ 65535) c.args.numbers.now 0 (λ i h. omega (arith, c.type_inv.numbers i))) in
    omega arith
