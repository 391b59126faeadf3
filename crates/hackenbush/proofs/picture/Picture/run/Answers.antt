-- The last round went along no edge, or left none dry.
use Rattle.std.proofs.Common.{ℕ, ap, ◌∙◌, arith}
use Rattle.std.proofs.lemmas.Bool.{both_ways}
use Rattle.bits.specs.Bits.{bit}
use Rattle.bits.proofs.Words.{bit_none}
use Rattle.hackenbush.proofs.Flooding.{spread_below, spread_closed}
use Rattle.hackenbush.proofs.picture.Picture.run.Goals as goal

pub returns-then-flood-before : goal.returns-then-flood-before
returns-then-flood-before c = record {
  keeps = λ up f. c.round-flood.ensures.keeps up (c.loop-flood.invariant.1 up f);
  below = omega (arith, spread_below c.round-flood.ensures);
  closed = spread_closed c.round-flood.ensures c.if-flood-before.true;
}

pub loop-flood-preserved : goal.loop-flood-preserved
loop-flood-preserved c = (omega (arith, spread_below c.round-flood.ensures), λ up f. c.round-flood.ensures.keeps up (c.loop-flood.invariant.1 up f))

pub returns : goal.returns
returns c = record {
  keeps = c.loop-flood.invariant.1;
  below = c.loop-flood.invariant.0;
  closed = λ i b. absurd (both_ways (bit c.loop-flood.flood.dry i) (ap (λ (n : ℕ). bit n i) c.loop-flood-test.false ∙ bit_none i) b);
}
