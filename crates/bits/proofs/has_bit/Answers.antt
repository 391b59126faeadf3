-- The lowest bit of the shifted word is the bit at the place.
use Rattle.std.proofs.Common.{◌/◌, ◌^◌, eqb, sym, ap, ◌∙◌, arith}
use lib.Bits.{and_mask}
use Rattle.std.proofs.lemmas.Bool.{le-ltb}
use Rattle.bits.specs.Bits.{bit}
use Rattle.bits.proofs.Words.{bit_past}
use Rattle.bits.proofs.has_bit.Goals as goal

pub returns-then-place-lt64 : goal.returns-then-place-lt64
unfolding bit
returns-then-place-lt64 c = ap (λ x. eqb x 1) (and_mask (c.args.word / 2 ^ c.args.place) 1)

pub returns-else-place-lt64 : goal.returns-else-place-lt64
returns-else-place-lt64 c = le-ltb c.args.place 64 (omega arith) ∙ sym (bit_past c.args.word 64 c.args.place (omega arith) (omega arith))
