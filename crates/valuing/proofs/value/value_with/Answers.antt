-- A legal code is entered, with nothing remembered yet.
use Rattle.std.proofs.Common.{[], rules}
use Rattle.calls.specs.Positions.{Values}
use Rattle.valuing.specs.Sure.{Sure, untouched, renewed}
use Rattle.valuing.proofs.Noted.{sure_empty}
use Rattle.valuing.proofs.Stepped.{value_steps}
use Rattle.valuing.proofs.value.value_with.Goals as goal

pub returns-then-not-is_legal-clause-valued : goal.returns-then-not-is_legal-clause-valued
returns-then-not-is_legal-clause-valued g c = record { entries = []; holds = Values.illegal (search rules) }

pub returns-then-not-is_legal-clause-step : goal.returns-then-not-is_legal-clause-step
returns-then-not-is_legal-clause-step g c =
    let d = c.args.dictionary.now in
    value_steps (g.R.Ruleset.rules c.args.board.now) (g.met.R.Ruleset.lawful c.args.board.now) d.room d.rows c.args.code _ d.rows (record { entries = []; holds = Values.illegal (search rules) })

pub returns-then-not-is_legal-clause-memory : goal.returns-then-not-is_legal-clause-memory
returns-then-not-is_legal-clause-memory g c = untouched (search rules)

pub returns-clause-memory : goal.returns-clause-memory
returns-clause-memory g c =
    let R = g.R.Ruleset.rules c.args.board.now in
    renewed (search rules) (c.enter.ensures.sure (sure_empty R _ _ c.forget.ensures))

pub returns-clause-step : goal.returns-clause-step
returns-clause-step g c =
    let R = g.R.Ruleset.rules c.args.board.now in
    let d = c.args.dictionary.now in
    let entered = c.enter.ensures.entered (sure_empty R _ _ c.forget.ensures) in
    value_steps R (g.met.R.Ruleset.lawful c.args.board.now) d.room d.rows c.args.code _ c.enter.new.dictionary.rows (record { entries = entered.entries; holds = Values.legal (search rules) entered.holds })

pub returns-clause-valued : goal.returns-clause-valued
returns-clause-valued g c =
    let R = g.R.Ruleset.rules c.args.board.now in
    let sure : Sure R c.args.dictionary.now.rows (g.M.Notes.holds c.forget.new.self) = sure_empty R _ _ c.forget.ensures in
    let entered = c.enter.ensures.entered sure in
    record { entries = entered.entries; holds = Values.legal (search rules) entered.holds }
