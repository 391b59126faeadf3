-- The row of a tells.
use Rattle.std.proofs.Common.{◌∙◌, arith}
use Rattle.std.proofs.lemmas.Bool.{le-ltb}
use Rattle.sealing.proofs.Asking.{asked_past, asked_row}
use Rattle.sealing.proofs.nodes.Nodes.is_as_good.Goals as goal

pub returns-then-a-len : goal.returns-then-a-len
returns-then-a-len c =
    c.contains.ensures ∙ c.of.ensures c.args.b ∙ asked_row c.args.self.now c.args.side c.args.a c.args.b (omega (arith, c.len.ensures, c.if-a-len.true)) c.index.result.now c.index.ensures

pub returns-else-a-len : goal.returns-else-a-len
returns-else-a-len c = le-ltb c.args.a c.len.result c.if-a-len.false ∙ asked_past c.args.self.now c.args.side c.args.a c.args.b (omega (arith, c.len.ensures, c.if-a-len.false))
