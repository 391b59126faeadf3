-- A round looks at every dry edge.
use Rattle.std.proofs.Common.{ℕ, sym, ap, ◌∙◌, subst, arith}
use lib.Bits.{bit_xor}
use Rattle.bits.specs.Bits.{bit}
use Rattle.bits.proofs.Words.{one_shl_64}
use Rattle.hackenbush.specs.Pictures.{edges_of}
use Rattle.hackenbush.proofs.Flags.{lowest, clear_less, bit_within}
use Rattle.hackenbush.proofs.Flooding.{Turning, turning_below, turning_more, turning_all, spread_whole}
use Rattle.hackenbush.proofs.picture.Picture.round.Goals as goal

pub overflow_shl-left : goal.overflow_shl-left
overflow_shl-left c = (lowest c.loop-left.left (omega arith) c.loop-left-test.true).0

pub look-flood-requires : goal.look-flood-requires
look-flood-requires c =
    let set = c.loop-left.invariant.1.within _ (lowest c.loop-left.left (omega arith) c.loop-left-test.true).1 in
    record { within = bit_within _ _ _ (omega (arith, turning_below c.loop-left.invariant.1, c.requires)) set; left = set }

pub loop-left-smaller : goal.loop-left-smaller
loop-left-smaller c =
    let low = lowest c.loop-left.left (omega arith) c.loop-left-test.true in
    rw (one_shl_64 _ low.0) (clear_less c.loop-left.left _ low.1 (omega arith) low.0)

pub loop-left-preserved : goal.loop-left-preserved
loop-left-preserved c =
    let low = lowest c.loop-left.left (omega arith) c.loop-left-test.true in (
      omega (arith, loop-left-smaller c),
      subst
          (λ (flag : ℕ). Turning (edges_of c.args.self.now) c.args.flood.wet c.args.flood.dry (bit_xor c.loop-left.left flag) c.look-flood.result.wet c.look-flood.result.dry)
          (sym (one_shl_64 _ low.0)) (turning_more c.loop-left.invariant.1 _ low.1 c.look-flood.ensures),
    )

pub returns : goal.returns
returns c =
    turning_all (subst
    (λ (todo : ℕ). Turning (edges_of c.args.self.now) c.args.flood.wet c.args.flood.dry todo c.loop-left.flood.wet c.loop-left.flood.dry)
    c.loop-left-test.false c.loop-left.invariant.1)

pub returns-then-flood-self : goal.returns-then-flood-self
returns-then-flood-self c =
    spread_whole c.loop-left.invariant.1 c.look-flood.ensures (omega (arith, c.loop-left.invariant.0, c.loop-left-test.true)) (λ v. ap (λ (n : ℕ). bit n v) c.if-flood-self.true ∙ c.args.self.now.spanned v)
