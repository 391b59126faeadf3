-- The set bits of the mask are the edges to cut.
use Rattle.std.proofs.Common.{sym, ◌∙◌}
use Rattle.hackenbush.specs.Pictures.{edges_of}
use Rattle.hackenbush.specs.Reading.{few}
use Rattle.hackenbush.proofs.Moves.{count_moves}
use Rattle.hackenbush.proofs.picture.rules.PictureRuleset.count.Goals as goal

pub returns-then-is_legal : goal.returns-then-is_legal
returns-then-is_legal c = c.count_bits.ensures ∙ count_moves (edges_of c.args.self.now) (few c.args.self.now) c.args.code c.args.side _ c.coloured.ensures (sym c.if-is_legal.ensures)
