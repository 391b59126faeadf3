use Rattle.std.proofs.lemmas.Nat.{xor_lt}
use Rattle.toads.proofs.Holding.{toads_marked, frogs_marked, empty_marked, part_small}
use Rattle.toads.proofs.strip.lineup.Lineup.holding.Goals as goal

pub returns-in-Toad : goal.returns-in-Toad
returns-in-Toad c = let l = c.args.self.now in record {
  marks = rw c.in-Toad.is (toads_marked l.cells l.code c.all-all.result l.legal c.all-all.ensures.marks);
  small = part_small _ c.all-all.result c.all-all.ensures.small;
}

pub returns-in-Frog : goal.returns-in-Frog
returns-in-Frog c = let l = c.args.self.now in record {
  marks = rw c.in-Frog.is (frogs_marked l.cells l.code c.all-all.result l.legal c.all-all.ensures.marks);
  small = part_small _ c.all-all.result c.all-all.ensures.small;
}

pub returns-in-Empty : goal.returns-in-Empty
returns-in-Empty c = let l = c.args.self.now in record {
  marks = rw c.in-Empty.is (empty_marked l.cells l.code c.all-all.result l.legal c.all-all.ensures.marks);
  small = xor_lt 24 _ c.all-all.result (part_small _ c.all-all.result c.all-all.ensures.small) c.all-all.ensures.small;
}
