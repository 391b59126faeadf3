-- The edges that are dry in the end fall.
use Rattle.std.proofs.Common.{ℕ, Decides, sym, subst}
use Rattle.bits.specs.Bits.{bit}
use Rattle.hackenbush.specs.Laws.{StaysUp}
use Rattle.hackenbush.specs.Pictures.{edges_of}
use Rattle.hackenbush.specs.Reading.{standing_is, standing_below}
use Rattle.hackenbush.proofs.Flooding.{flooded_fall}
use Rattle.hackenbush.specs.Standing.{fall_keeps_joined}
use Rattle.hackenbush.proofs.picture.Picture.fall.Goals as goal

pub returns : goal.returns
returns c =
    let p = c.args.self.now in
    let code = c.args.code in
    let value = flooded_fall (edges_of p) (bit code) _ _ _ (standing_is p code) (standing_below p code) c.run-end.ensures in
    record {
      value = value;
      joined = λ i. subst (λ (n : ℕ). Decides (bit n i) (StaysUp (edges_of p) (bit code) i)) (sym value) (fall_keeps_joined (edges_of p) (bit code) i);
    }
