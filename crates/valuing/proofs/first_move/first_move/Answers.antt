-- Each turn values one more successor, and keeps it if it wins.
use Rattle.std.proofs.Common.{◌≡◌, [], Err, sym, refl, ◌∙◌, subst, rules}
use Rattle.std.specs.Iterator.Adapters.{enumerate_source, enumerate_count}
use Rattle.rulesets.specs.Remaining.{moves_left}
use Rattle.rulesets.proofs.Positions.{left_none, left_some}
use Rattle.calls.specs.Positions.{FirstMoves}
use Rattle.valuing.specs.Answers.{answer_at}
use Rattle.valuing.specs.Moved.{Latest, Moved, later_of}
use Rattle.valuing.proofs.Noted.{sure_empty}
use Rattle.valuing.proofs.Latest.{Behind, best_later, no_latest, tried_latest}
use Rattle.valuing.proofs.Trying.{broke, one_tried, tried, tries}
use Rattle.valuing.proofs.Stepped.{first_move_steps}
use Rattle.valuing.proofs.first_move.first_move.Goals as goal

pub returns-then-not-is_legal : goal.returns-then-not-is_legal
returns-then-not-is_legal g c =
    let R = g.R.Ruleset.rules c.args.board.now in
    let d = c.args.dictionary.now in
    let moved : Moved R d.room d.rows c.args.side c.args.code _ d.rows = record { entries = []; holds = FirstMoves.illegal (search rules) } in
    record { moved = moved; step = first_move_steps R (g.met.R.Ruleset.lawful c.args.board.now) d.room d.rows c.args.side c.args.code _ d.rows moved; latest = tt; room = refl }

pub loop-index-init : goal.loop-index-init
loop-index-init g c =
    let R = g.R.Ruleset.rules c.args.board.now in
    let l = g.met.R.Ruleset.lawful c.args.board.now in
    let d = c.args.dictionary.now in
    let it = c.into_iter-index-iterator.result in
    let first : enumerate_count it ≡ 0 = search rules in
    let all : moves_left g.R.Ruleset.rules (enumerate_source it) ≡ R.moves c.args.side c.args.code = search rules in
    rw (first, all) (record {
      left = refl;
      trying = tries Behind R l c.args.side (R.moves c.args.side c.args.code) d.room d.rows (Unit {0}) tt;
    })

pub returns-in_err-number : goal.returns-in_err-number
returns-in_err-number g c =
    let R = g.R.Ruleset.rules c.args.board.now in
    let l = g.met.R.Ruleset.lawful c.args.board.now in
    let d₀ = c.args.dictionary.now in
    let d = c.loop-index.dictionary in
    let i = enumerate_count c.loop-index.index-iterator in
    let at = (left_some (R.moves c.args.side c.args.code) i c.in-Some.successor _ (sym c.loop-index.invariant.left ∙ c.in-Some.ensures.steps.0)).0 in
    let e : c.from_residual.result ≡ Err c.in_err-number.field-0.0 = search rules in
    let moved = broke Behind R l c.args.side c.args.code (search rules) i c.in-Some.successor c.loop-index.winning d₀.room d.room d₀.rows d.rows c.enter.new.dictionary.rows
    (Unit {0}) c.from_residual.result c.in_err-number.field-0.0 e c.loop-index.invariant.trying at (λ u. c.in_err-number.ensures.entered (sure_empty R _ _ (λ code n x. x))) in
    record {
      moved = moved;
      step = first_move_steps R l d₀.room d₀.rows c.args.side c.args.code _ c.enter.new.dictionary.rows moved;
      latest = subst (λ y. Latest R c.args.side c.args.code (answer_at y)) (sym e) (no_latest R c.args.side c.args.code c.in_err-number.field-0.0);
      room = c.in_err-number.ensures.room ∙ c.loop-index.invariant.trying.room;
    }

pub loop-index-preserved : goal.loop-index-preserved
loop-index-preserved g c =
    let R = g.R.Ruleset.rules c.args.board.now in
    let l = g.met.R.Ruleset.lawful c.args.board.now in
    let ms = R.moves c.args.side c.args.code in
    let d₀ = c.args.dictionary.now in
    let d = c.loop-index.dictionary in
    let after = c.enter.new.dictionary in
    let i = enumerate_count c.loop-index.index-iterator in
    let (step, is, counts, fits) = c.in-Some.ensures.steps in
    let (at, others) = left_some ms i c.in-Some.successor _ (sym c.loop-index.invariant.left ∙ step) in
    rw (counts, c.later-winning.ensures, is) (record {
      left = others;
      trying = one_tried Behind R l c.args.side ms i c.in-Some.successor c.in_ok-number.number c.loop-index.winning d₀.room d.room after.room d₀.rows d.rows after.rows
          (Unit {0}) (Unit {0}) c.loop-index.invariant.trying at c.in_ok-number.ensures.room (λ u. tt) (λ u. c.in_ok-number.ensures.entered (sure_empty R _ _ (λ code n x. x))) c.wins.result c.wins.ensures
          (later_of c.loop-index.winning i c.wins.result) (best_later R c.args.side ms i c.loop-index.winning c.wins.result);
    })

pub returns : goal.returns
returns g c =
    let R = g.R.Ruleset.rules c.args.board.now in
    let l = g.met.R.Ruleset.lawful c.args.board.now in
    let d₀ = c.args.dictionary.now in
    let d = c.loop-index.dictionary in
    let i = enumerate_count c.loop-index.index-iterator in
    let all = left_none (R.moves c.args.side c.args.code) i (sym c.loop-index.invariant.left ∙ c.in-None.ensures.steps.0.0) in
    let moved = tried Behind R l c.args.side c.args.code (search rules) i c.loop-index.winning d₀.room d.room d₀.rows d.rows (Unit {0}) all c.loop-index.invariant.trying in
    record {
      moved = moved;
      step = first_move_steps R l d₀.room d₀.rows c.args.side c.args.code _ d.rows moved;
      latest = tried_latest R c.args.side c.args.code i c.loop-index.winning d₀.room d.room d₀.rows d.rows (Unit {0}) all c.loop-index.invariant.trying;
      room = c.loop-index.invariant.trying.room;
    }
