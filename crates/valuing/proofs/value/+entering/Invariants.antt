-- The rank falls with every move, and the loop has valued the successors behind it.
use Rattle.std.proofs.Common.{◌≡◌, ℕ, ◌+◌, ◌*◌, drop}
use Rattle.games.specs.Sides.{other}
use Rattle.nodesets.specs.Pairs.{by}
use Rattle.rulesets.specs.Remaining.{moves_left}
use Rattle.valuing.specs.Sure.{Sure}
use Rattle.valuing.proofs.Steps.{Turn}
use Rattle.valuing.proofs.value.+entering.Given as goal

abbrev pub decreases-enter : goal.decreases-enter
decreases-enter g l = 3 * (g.R.Ruleset.rules l.board.now).rank l.code + 2

abbrev pub decreases-enter_anew : goal.decreases-enter_anew
decreases-enter_anew g l = 3 * (g.R.Ruleset.rules l.board.now).rank l.code + 1

abbrev pub decreases-enter_side : goal.decreases-enter_side
decreases-enter_side g l = 3 * (g.R.Ruleset.rules l.board.now).rank l.code

-- as many successors are valued as no longer are left
abbrev pub invariant-enter_side-loop-next : goal.invariant-enter_side-loop-next
invariant-enter_side-loop-next g l =
    let R = g.R.Ruleset.rules l.board in
    let ms = R.moves l.side l.code in
    let d₀ = l.initial.dictionary in
    let d = l.dictionary in
    record {
      valued : ℕ;
      left : moves_left g.R.Ruleset.rules l.next-iterator ≡ drop valued ms;
      turn : Turn R ms valued (by l.initial.moves l.side) (by l.moves l.side) d₀.room d.room d₀.rows d.rows (Sure R d₀.rows (g.M.Notes.holds l.initial.memory)) (Sure R d.rows (g.M.Notes.holds l.memory));
      theirs : (k : ℕ) → by l.moves (other l.side) k ≡ by l.initial.moves (other l.side) k;
    }
