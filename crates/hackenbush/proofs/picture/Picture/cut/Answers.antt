-- The flood without the edge tells what stays up, and with it whether the code is legal.
use Rattle.std.proofs.Common.{◌∙◌, inl, inr, arith}
use Rattle.std.proofs.lemmas.Bool.{cases_Bool}
use Rattle.hackenbush.specs.Hackenbush.{legal}
use Rattle.hackenbush.specs.Pictures.{edges_of}
use Rattle.hackenbush.proofs.Flags.{bit_within}
use Rattle.hackenbush.specs.Reading.{limit_is}
use Rattle.hackenbush.specs.Standing.{legal_found}
use Rattle.hackenbush.proofs.Cutting.{picture_others, picture_place, picture_left, picture_all, cut_told}
use Rattle.hackenbush.proofs.Flooding.{looked_below, looked_on}
use Rattle.hackenbush.proofs.picture.Picture.cut.Goals as goal

pub returns-then-code-self : goal.returns-then-code-self
returns-then-code-self c = let p = c.args.self.now in elim (cases_Bool (legal (edges_of p) c.args.code)) [
  | inl l ↦ absurd (omega (arith, (legal_found (edges_of p) c.args.code l).0, limit_is p))
  | inr l ↦ rw l
]

pub overflow_shl-edge : goal.overflow_shl-edge
overflow_shl-edge c = bit_within c.args.code 64 c.args.place (omega arith) c.requires

pub run-after-requires : goal.run-after-requires
run-after-requires c = picture_others c.args.self.now c.args.code c.args.place c.requires (omega arith) c.if-code-self.false

pub look-along-requires : goal.look-along-requires
look-along-requires c = record {
  within = picture_place c.args.self.now c.args.code c.args.place c.requires (omega arith) c.if-code-self.false;
  left = picture_left c.args.self.now c.args.code c.args.place c.requires (omega arith) c.if-code-self.false c.run-after.result.dry;
}

pub run-whole-requires : goal.run-whole-requires
run-whole-requires c =
    let all = picture_all c.args.self.now c.args.code c.args.place c.requires (omega arith) c.if-code-self.false _ _ c.run-after.ensures in
    omega (arith, looked_below c.look-along.ensures, all)

pub returns : goal.returns
returns c =
    c.then_some.ensures
    ∙ cut_told c.args.self.now c.args.code c.args.place c.requires (omega arith) c.if-code-self.false _ _ c.run-after.ensures _ _ (looked_on c.look-along.ensures c.run-whole.ensures)
