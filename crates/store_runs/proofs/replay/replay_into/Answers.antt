use Rattle.std.proofs.Common.{arith}
use Rattle.store_runs.proofs.Replays.{run_more, run_ends}
use Rattle.store_runs.proofs.replay.replay_into.Goals as goal

pub loop-call-preserved : goal.loop-call-preserved
loop-call-preserved g c =
    let h = c.ask.ensures in
    let w = run_more _ _ _ _ _ _ _ _ c.loop-call.invariant.2 c.call-item.result _ _ _ c.ask.result c.loop-call-test.true c.call-item.is h.answer h.rows h.room c.push_reserved.ensures.items in
    (omega (arith, c.loop-call.invariant.0, c.push_reserved.ensures.len), omega (arith, c.loop-call.invariant.1, c.push_reserved.ensures.capacity), w)

pub returns : goal.returns
returns g c =
    let e = run_ends _ _ _ _ _ _ _ _ c.loop-call.invariant.2 c.loop-call-test.false in
    record { answers = e.0; rows = e.1; room = c.loop-call.invariant.2.same_room }
