-- What is kept of a line and a part.
use Rattle.std.proofs.Common.{rules}
use Rattle.console.proofs.Lines.{keeps_more}
use Rattle.console.proofs.line.Line.keep.Goals as goal

pub returns : goal.returns
returns c = keeps_more c.extend_from_slice.result _ _ _ c.len.result c.min.result c.args.self.now.few (search rules) c.min.ensures c.extend_from_slice.ensures.items
