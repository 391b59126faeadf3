use Rattle.std.proofs.Common.{arith}
use Rattle.toads.specs.LawsLemmas.{word_leaves, word_moves, word_fits}
use Rattle.toads.proofs.strip.lineup.Lineup.moved.Goals as goal

pub overflow_sub-result : goal.overflow_sub-result
overflow_sub-result c = let l = c.args.self.now in
    rw (c.from-digit.ensures, c.piece.ensures) (word_leaves l.cells l.code c.args.side c.args.cell l.few l.legal c.requires)

pub overflow_add-result : goal.overflow_add-result
overflow_add-result c = let l = c.args.self.now in
    rw (c.target-to.ensures, c.from-digit.ensures, c.piece.ensures) (let k = word_fits l.cells l.code c.args.side c.args.cell l.few l.legal c.requires in omega arith)

pub returns : goal.returns
returns c = let l = c.args.self.now in
    rw (c.target-to.ensures, c.from-digit.ensures, c.piece.ensures) (word_moves l.cells l.code c.args.side c.args.cell l.few l.legal c.requires)
