-- The successors behind are valued, and the last winning one among them is kept; the count of the walk tells how many are behind.
use Rattle.std.proofs.Common.{◌≡◌, drop}
use Rattle.std.specs.Iterator.Adapters.{enumerate_source, enumerate_count}
use Rattle.rulesets.specs.Remaining.{moves_left}
use Rattle.valuing.proofs.Latest.{Behind}
use Rattle.valuing.proofs.Trying.{Trying}
use Rattle.valuing.proofs.first_move.first_move.Given as goal

-- nothing is remembered from one turn to the next
abbrev pub invariant-loop-index : goal.invariant-loop-index
invariant-loop-index g l =
    let R = g.R.Ruleset.rules l.board in
    let ms = R.moves l.side l.code in
    let d₀ = l.initial.dictionary in
    let d = l.dictionary in
    let i = enumerate_count l.index-iterator in
    record {
      left : moves_left g.R.Ruleset.rules (enumerate_source l.index-iterator) ≡ drop i ms;
      trying : Trying Behind R l.side ms i l.winning d₀.room d.room d₀.rows d.rows (Unit {0});
    }
