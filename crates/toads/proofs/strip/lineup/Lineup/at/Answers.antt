-- The two bits of a cell are a digit, and no digit of a legal code is 3.
use Rattle.std.proofs.Common.{◌∙◌}
use Rattle.toads.specs.Ranks.{two_bits}
use Rattle.toads.proofs.Holding.{no_three, digit_held}
use Rattle.toads.proofs.strip.lineup.Lineup.at.Goals as goal

pub unwrap-requires : goal.unwrap-requires
unwrap-requires c =
    let l = c.args.self.now in
    digit_held _ c.try_from.result c.try_from.ensures (rw (two_bits l.code c.args.cell) (no_three l.cells l.code l.legal c.args.cell c.requires))

pub returns : goal.returns
returns c = let k = rw c.unwrap.ensures at c.try_from.ensures in k ∙ two_bits c.args.self.now.code c.args.cell
