-- The nodes are as many as their rows.
use Rattle.std.proofs.Common.{◌&&◌, ltb, sym, ap, ◌∙◌}
use Rattle.games.specs.Tests.{as_good}
use Rattle.sealing.specs.Seals.{node_of}
use Rattle.sealing.proofs.Sealing.{count_links}
use Rattle.sealing.proofs.tables.Tables.is_as_good.Goals as goal

pub returns : goal.returns
returns c =
    c.is_as_good.ensures
    ∙ ap (λ n. (ltb c.args.a n && ltb c.args.b n) && as_good c.args.side (node_of c.args.self.now c.args.a) (node_of c.args.self.now c.args.b)) (sym (count_links c.args.self.now))
