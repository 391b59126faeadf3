use Rattle.std.proofs.Common.{rules, ◌≡◌, ◌+◌, ◌*◌, ◌<◌, true, sym, ◌∙◌, arith}
use Rattle.std.proofs.ByRecursion.{All-get_or}
use Rattle.std.proofs.lemmas.Iterator.Adapters.{serves_from_places}
use Rattle.std.proofs.lemmas.Iterator.Consumers.{YieldsList-from_first}
use Rattle.std.proofs.lemmas.Iterator.Search.{any_from_yields_List}
use Rattle.rulesets.specs.Remaining.{moves_left}
use Rattle.rulesets.specs.Winning.{mover_wins}
use Rattle.rulesets.proofs.Positions.{starter_law}
use Rattle.rulesets.proofs.play.+can_win+fn-can_win-any.Goals as goal

pub any-requires-clause-callable : goal.any-requires-clause-callable
any-requires-clause-callable g t c =
    let lawful = g.met.R.Ruleset.lawful c.args.board.now in
    let R = g.R.Ruleset.rules c.args.board.now in
    let left = R.moves c.args.side c.args.code in
    let falls = lawful.falls c.args.side c.args.code in
    serves_from_places (YieldsList-from_first (λ x. x) (moves_left g.R.Ruleset.rules) left c.successors_of.ensures) (λ x q k. search rules) (λ m k h e.
    let f = All-get_or (λ m. (R.legal m ≡ true) × (R.rank m < R.rank c.args.code)) left k m h falls in
    let l : R.rank m < R.rank c.args.code = rw e f.1 in
    let d : 2 * R.rank m + 1 < 2 * R.rank c.args.code = omega (arith, l) in
    (search (rules, d), λ a t. t))

pub returns : goal.returns
returns g t c =
    let R = g.R.Ruleset.rules c.args.board.now in
    any_from_yields_List (mover_wins R c.args.side) c.any.new.self _ _ c.any.ensures.ran (YieldsList-from_first (λ x. x) (moves_left g.R.Ruleset.rules) _ c.successors_of.ensures) (λ x b q k. search rules)
    ∙ sym (starter_law R (g.met.R.Ruleset.lawful c.args.board.now) c.args.side c.args.code)
