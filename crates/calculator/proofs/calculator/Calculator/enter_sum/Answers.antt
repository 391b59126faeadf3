-- Both boards of the sum.
use Rattle.std.proofs.Common.{◌≡◌, ◌+◌, ◌*◌, ◌^◌, ◌<◌, Err, refl, subst, subst₂, rules}
use Rattle.sums.specs.Sums
use Rattle.boards.specs.AnyBoards.{any_rules}
use Rattle.calculator.specs.Entering.{ValuedAt}
use Rattle.calculator.specs.Faults.{answer_of}
use Rattle.calculator.proofs.Places.{sum_code}
use Rattle.calculator.proofs.Subjects.{left_place, right_place, sum_refused, sum_valued}
use Rattle.calculator.proofs.calculator.Calculator.enter_sum.Goals as goal

pub returns-in_err-left : goal.returns-in_err-left
returns-in_err-left g c =
    let d = c.args.self.now.dictionary in
    let r = d.room in
    let rows = d.rows in
    let i = c.args.place in
    let e : c.from_residual.result ≡ Err c.in_err-left.field-0.0 = search rules in
    record {
      entered = λ a b x y. sum_refused r rows i a b c.in_err-left.field-0.0 c.from_residual.result e (c.in_err-left.ensures.stood (left_place r rows i a b) (right_place r rows i a b) a b x y);
      room = refl;
    }

pub overflow_mul-code : goal.overflow_mul-code
overflow_mul-code g c =
    let l = c.in_ok-left.left in
    let r = c.in_ok-left.right in
    let b : l.code * (any_rules r.board).limit + r.code < 2 ^ 60 = sum_code l.board r.board l.code r.code c.in_ok-left.ensures.both.0 c.in_ok-left.ensures.both.1 in
    let e = c.limit.ensures in
    search rules

pub overflow_add-code : goal.overflow_add-code
overflow_add-code g c =
    let l = c.in_ok-left.left in
    let r = c.in_ok-left.right in
    let b : l.code * (any_rules r.board).limit + r.code < 2 ^ 60 = sum_code l.board r.board l.code r.code c.in_ok-left.ensures.both.0 c.in_ok-left.ensures.both.1 in
    let e = c.limit.ensures in
    search rules

pub returns : goal.returns
returns g c =
    let d = c.args.self.now.dictionary in
    let r = d.room in
    let rows = d.rows in
    let i = c.args.place in
    let left = c.in_ok-left.left in
    let right = c.in_ok-left.right in
    record {
      entered = λ a b x y. sum_valued r rows i a b (c.in_ok-left.left, c.in_ok-left.right) (c.in_ok-left.ensures.stood (left_place r rows i a b) (right_place r rows i a b) a b x y) _ _
          (subst (λ z. ValuedAt (Sums.plus (any_rules left.board) (any_rules right.board)) r rows i (left.code * z + right.code) (answer_of c.enter.result) c.enter.new.self.dictionary.rows) c.limit.ensures
          (subst₂ (λ p q. ValuedAt (Sums.plus (any_rules p) (any_rules q)) r rows i (left.code * c.limit.result + right.code) (answer_of c.enter.result) c.enter.new.self.dictionary.rows) c.add.ensures.parts.0 c.add.ensures.parts.1 (c.enter.ensures.valued)));
      room = c.enter.ensures.room;
    }
