use Rattle.std.proofs.Common.{◌≡◌, ◌+◌, ◌*◌, ◌≤◌}
use Rattle.toads.specs.Toads.{cells, pairs}
use Rattle.toads.specs.Ranks.{held}
use Rattle.toads.proofs.strip.lineup.Lineup.pairs.Given as goal

-- what the cells passed so far hold, and their pairs; none of it is large
abbrev pub invariant-loop-cell : goal.invariant-loop-cell
invariant-loop-cell l = record {
  toads_held : l.toads ≡ held 1 (cells l.cell l.self.code);
  empty_held : l.empty ≡ held 0 (cells l.cell l.self.code);
  pairs_held : l.pairs ≡ pairs (cells l.cell l.self.code);
  few_held : l.toads + l.empty ≤ l.cell;
  few_pairs : l.pairs ≤ 12 * l.cell;
}
