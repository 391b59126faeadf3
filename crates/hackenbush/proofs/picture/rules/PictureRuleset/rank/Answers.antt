-- The set bits of a legal code are its standing edges.
use Rattle.std.proofs.Common.{sym, ◌∙◌}
use Rattle.hackenbush.specs.Pictures.{edges_of}
use Rattle.hackenbush.specs.Reading.{few}
use Rattle.hackenbush.proofs.Moves.{rank_is}
use Rattle.hackenbush.proofs.picture.rules.PictureRuleset.rank.Goals as goal

pub returns-then-is_legal : goal.returns-then-is_legal
returns-then-is_legal c = c.count_bits.ensures ∙ rank_is (edges_of c.args.self.now) (few c.args.self.now) c.args.code (sym c.if-is_legal.ensures)
