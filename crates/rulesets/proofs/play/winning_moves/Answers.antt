use Rattle.std.proofs.Common.{rules, tests, slice_index, ap, arith}
use Rattle.std.proofs.lemmas.Iterator.{items_from_collect, YieldsList-from_map}
use Rattle.std.proofs.lemmas.Iterator.Consumers.{YieldsList-at, YieldsList-from_enumerate, YieldsList-from_filter, YieldsList-from_first}
use Rattle.rulesets.specs.Remaining.{moves_left}
use Rattle.rulesets.specs.Winning.{mover_wins}
use Rattle.rulesets.proofs.Positions.{game_law, indices_filter}
use Rattle.rulesets.proofs.play.winning_moves.Goals as goal

pub returns-clause-winning : goal.returns-clause-winning
returns-clause-winning g c =
    let R = g.R.Ruleset.rules c.args.board.now in
    let moves = R.moves c.args.side c.args.code in
    let p = mover_wins R c.args.side in
    let e = indices_filter p (λ i. p (slice_index moves i)) 0 moves (λ k j b e. ap (λ i. p (slice_index moves i)) (omega (arith, e))) in
    rw (← e) (items_from_collect _ c.collect.ensures.ran
    (YieldsList-from_map _ (λ t. t.0) (YieldsList-at c.map.ensures.source
    (YieldsList-from_filter _ (λ t. p t.1) (YieldsList-at c.filter.ensures.source
    (YieldsList-from_enumerate (YieldsList-at c.enumerate.ensures.source (YieldsList-from_first (λ x. x) (moves_left g.R.Ruleset.rules) _ c.successors_of.ensures)) c.enumerate.ensures.count))
    c.filter.ensures.closure (λ x b q k. search (rules, tests))))
    c.map.ensures.closure (λ x r q k. search (rules, tests))))

pub returns-clause-reads : goal.returns-clause-reads
returns-clause-reads g c = game_law _ (g.met.R.Ruleset.lawful c.args.board.now)
