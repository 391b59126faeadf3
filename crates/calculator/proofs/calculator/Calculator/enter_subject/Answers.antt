-- By what the subject is.
use Rattle.std.proofs.Common.{◌+◌, ◌++◌, length, codes, sym, subst, subst₂}
use Rattle.lines.specs.Syntax.{spell_board}
use Rattle.lines.specs.Questions.{DescribesBoard, DescribesContent}
use Rattle.calculator.specs.Faults.{answer_of}
use Rattle.calculator.specs.Subjects.{EntersSubject}
use Rattle.calculator.proofs.Subjects.{form_is, minus_is, plain_is, sum_is, text_read, text_small}
use Rattle.calculator.proofs.calculator.Calculator.enter_subject.Goals as goal

pub returns-in-Plain : goal.returns-in-Plain
returns-in-Plain g c =
    let d = c.args.self.now.dictionary in
    let r = d.room in
    let rows = d.rows in
    record {
      entered = λ i s x small.
          let (b, e, y) = plain_is i s c.in-Plain.board (subst (λ z. DescribesContent i z s) c.in-Plain.is x.content) in
          subst₂ (λ j z. EntersSubject r rows j z (answer_of c.enter_plain.result) c.enter_plain.new.self.dictionary.rows) x.begins (sym e)
          (c.enter_plain.ensures.entered b (subst (λ j. DescribesBoard j c.in-Plain.board b) (sym x.begins) y));
      room = c.enter_plain.ensures.room;
    }

pub returns-in-Minus : goal.returns-in-Minus
returns-in-Minus g c =
    let d = c.args.self.now.dictionary in
    let r = d.room in
    let rows = d.rows in
    record {
      entered = λ i s x small.
          let (b, e, y) = minus_is i s c.in-Minus.board (subst (λ z. DescribesContent i z s) c.in-Minus.is x.content) in
          subst₂ (λ j z. EntersSubject r rows j z (answer_of c.enter_minus.result) c.enter_minus.new.self.dictionary.rows) x.begins (sym e)
          (c.enter_minus.ensures.entered b (subst (λ j. DescribesBoard (j + length (codes "(minus ")) c.in-Minus.board b) (sym x.begins) y));
      room = c.enter_minus.ensures.room;
    }

pub returns-in-Sum : goal.returns-in-Sum
returns-in-Sum g c =
    let d = c.args.self.now.dictionary in
    let r = d.room in
    let rows = d.rows in
    record {
      entered = λ i s x small.
          let (a, b, e, y, z) = sum_is i s c.in-Sum.first c.in-Sum.second (subst (λ z. DescribesContent i z s) c.in-Sum.is x.content) in
          subst₂ (λ j z. EntersSubject r rows j z (answer_of c.enter_sum.result) c.enter_sum.new.self.dictionary.rows) x.begins (sym e)
          (c.enter_sum.ensures.entered a b (subst (λ j. DescribesBoard (j + length (codes "(sum ")) c.in-Sum.first a) (sym x.begins) y) (subst (λ j. DescribesBoard (j + length (codes "(sum " ++ (spell_board a ++ codes " "))) c.in-Sum.second b) (sym x.begins) z));
      room = c.enter_sum.ensures.room;
    }

pub returns-in-Form : goal.returns-in-Form
returns-in-Form g c =
    let d = c.args.self.now.dictionary in
    let r = d.room in
    let rows = d.rows in
    record {
      entered = λ i s x small.
          let (f, e, y) = form_is i s c.in-Form.text (subst (λ z. DescribesContent i z s) c.in-Form.is x.content) in
          text_read r rows i s c.in-Form.text f e y (answer_of c.enter_text.result) c.enter_text.new.self.dictionary.rows
          (c.enter_text.ensures.entered (text_small r rows i s c.in-Form.text f e y small));
      room = c.enter_text.ensures.room;
    }
