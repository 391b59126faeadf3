-- Each of the four tests may refuse.
use Rattle.std.proofs.Common.{◌≡◌, Err, sym, subst, rules}
use Rattle.calculator.specs.Laying.{BothLegal, StoodBoth}
use Rattle.calculator.proofs.Subjects.{both_first, both_second, both_third, both_fourth}
use Rattle.calculator.proofs.laying.stand_both.Goals as goal

pub returns-in_err-left : goal.returns-in_err-left
returns-in_err-left c =
    let f = c.in_err-left.field-0.0 in
    let e : c.from_residual.result ≡ Err f = search rules in
    record {
      stood = λ i j a b x y. subst (StoodBoth i a j b) (sym e) (both_first i j a b f (c.in_err-left.ensures i a x));
      both = subst BothLegal (sym e) tt;
    }

pub returns-in_err-right : goal.returns-in_err-right
returns-in_err-right c =
    let f = c.in_err-right.field-0.0 in
    let e : c.from_residual-in_err-right.result ≡ Err f = search rules in
    record {
      stood = λ i j a b x y. subst (StoodBoth i a j b) (sym e) (both_second i j a b c.in_ok-left.left (c.in_ok-left.ensures i a x) f (c.in_err-right.ensures j b y));
      both = subst BothLegal (sym e) tt;
    }

pub returns-in_err-permit : goal.returns-in_err-permit
returns-in_err-permit c =
    let f = c.in_err-permit.field-0.0 in
    let e : c.from_residual-in_err-permit.result ≡ Err f = search rules in
    record {
      stood = λ i j a b x y. subst (StoodBoth i a j b) (sym e) (both_third i j a b c.in_ok-left.left (c.in_ok-left.ensures i a x) c.in_ok-right.right (c.in_ok-right.ensures j b y) f c.args.first.now.place x.begins c.in_err-permit.ensures);
      both = subst BothLegal (sym e) tt;
    }

pub returns-in_err-permit-2 : goal.returns-in_err-permit-2
returns-in_err-permit-2 c =
    let f = c.in_err-permit-2.field-0.0 in
    let e : c.from_residual-in_err-permit-2.result ≡ Err f = search rules in
    record {
      stood = λ i j a b x y. subst (StoodBoth i a j b) (sym e)
          (both_fourth i j a b c.in_ok-left.left (c.in_ok-left.ensures i a x) c.in_ok-right.right (c.in_ok-right.ensures j b y) f c.args.second.now.place c.args.first.now.place tt y.begins c.in_ok-permit.ensures c.in_err-permit-2.ensures);
      both = subst BothLegal (sym e) tt;
    }

pub returns : goal.returns
returns c = record {
  stood = λ i j a b x y. ((c.in_ok-left.ensures i a x, c.in_ok-permit.ensures), (c.in_ok-right.ensures j b y, c.in_ok-permit-2.ensures));
  both = (c.in_ok-permit.ensures, c.in_ok-permit-2.ensures);
}
