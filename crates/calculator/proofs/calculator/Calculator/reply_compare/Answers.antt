-- Both are entered, one after the other, and compared.
use Rattle.std.proofs.Common.{◌≡◌, ℕ, Err, refl, ◌∙◌, subst, rules}
use Rattle.calls.specs.Answers.{told}
use Rattle.lines.specs.Syntax.{comparison}
use Rattle.calculator.specs.Faults.{answer_of}
use Rattle.calculator.specs.Replies
use Rattle.calculator.specs.Replies.{first_place, second_place}
use Rattle.calculator.specs.Subjects.{EntersSubject}
use Rattle.calculator.proofs.Replies.{compare_replied, comparison_known, passed_on, subject_in, subject_stays}
use Rattle.calculator.proofs.calculator.Calculator.reply_compare.Goals as goal

pub returns-in_err-left : goal.returns-in_err-left
returns-in_err-left g c =
    let d = c.args.self.now.dictionary in
    let z = c.in_err-left.ensures in
    let e : c.from_residual.result ≡ Err c.in_err-left.field-0.0 = search rules in
    record {
      replied = λ s u x y small more. passed_on d.room d.rows c.args.out.now c.args.out.now c.enter_subject.new.self.dictionary.rows (comparison s u) c.in_err-left.field-0.0 c.from_residual.result e refl
          (Replies.Replies.first_refused (z.entered first_place s x small));
      room = z.room;
    }

pub returns-in_err-right : goal.returns-in_err-right
returns-in_err-right g c =
    let d = c.args.self.now.dictionary in
    let z = c.in_ok-left.ensures in
    let v = c.in_err-right.ensures in
    let later = c.enter_subject-2.new.self.dictionary.rows in
    let e : c.from_residual-in_err-right.result ≡ Err c.in_err-right.field-0.0 = search rules in
    record {
      replied = λ s u x y small more. passed_on d.room d.rows c.args.out.now c.args.out.now later (comparison s u) c.in_err-right.field-0.0 c.from_residual-in_err-right.result e refl
          (Replies.Replies.second_refused (z.entered first_place s x small)
          (subst (λ n. EntersSubject n c.enter_subject.new.self.dictionary.rows (second_place s) u (answer_of {A = ℕ} (Err c.in_err-right.field-0.0)) later) z.room (v.entered (second_place s) u y more)));
      room = v.room ∙ z.room;
    }

pub returns-in_err-comparison : goal.returns-in_err-comparison
returns-in_err-comparison g c =
    let z = c.in_ok-left.ensures in
    let v = c.in_ok-right.ensures in
    record {
      replied = λ s u x y small more.
          let a = z.entered first_place s x small in
          let b = v.entered (second_place s) u y more in
          absurd (comparison_known (c.in_err-comparison.ensures) (subject_stays a b) (subject_in b));
      room = v.room ∙ z.room;
    }

pub returns : goal.returns
returns g c =
    let d = c.args.self.now.dictionary in
    let z = c.in_ok-left.ensures in
    let v = c.in_ok-right.ensures in
    let between = c.enter_subject.new.self.dictionary.rows in
    let later = c.enter_subject-2.new.self.dictionary.rows in
    record {
      replied = λ s u x y small more.
          compare_replied d.room d.rows c.args.out.now c.put_comparison.new.out later s u c.in_ok-left.left c.in_ok-right.right between c.in_ok-comparison.comparison c.put_comparison.result
          (z.entered first_place s x small) (subst (λ n. EntersSubject n between (second_place s) u (told c.in_ok-right.right) later) z.room (v.entered (second_place s) u y more))
          (c.in_ok-comparison.ensures) c.put_comparison.ensures.behind c.put_comparison.ensures.written;
      room = v.room ∙ z.room;
    }
