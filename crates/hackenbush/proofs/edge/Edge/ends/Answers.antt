-- The two bits that are set are the ends of the edge.
use Rattle.std.proofs.Common.{◌||◌, ◌∙◌, ap₂, arith}
use Rattle.bits.proofs.Words.{bit_or_lem, bit_one_shl}
use Rattle.hackenbush.specs.Reading.{edge_low}
use Rattle.hackenbush.proofs.edge.Edge.ends.Goals as goal

pub overflow_shl-result : goal.overflow_shl-result
overflow_shl-result c = omega (arith, (edge_low c.args.self.now c.requires).0)

pub overflow_shl-result-2 : goal.overflow_shl-result-2
overflow_shl-result-2 c = omega (arith, (edge_low c.args.self.now c.requires).1)

pub returns : goal.returns
returns c = let n = edge_low c.args.self.now c.requires in
    λ v. bit_or_lem _ _ v ∙ ap₂ ◌||◌ (bit_one_shl _ v (omega arith)) (bit_one_shl _ v (omega arith))
