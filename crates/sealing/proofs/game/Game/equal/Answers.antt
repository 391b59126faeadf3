-- A node that the game is as good as for both sides equals it.
use Rattle.std.proofs.Common.{vec_len}
use Rattle.nodesets.specs.Pairs.{by}
use Rattle.sealing.specs.Views.{links}
use Rattle.sealing.proofs.Reducing.{equal_at}
use Rattle.sealing.proofs.game.Game.equal.Goals as goal

pub returns : goal.returns
returns c = equal_at (links c.args.self.now.nodes.now) (by c.args.self.now.moves) (vec_len c.args.self.now.nodes.now.rows) (by c.args.self.now.worse) c.args.self.now.known c.common.result c.common.ensures
