use Rattle.std.proofs.Common.{◌≡◌, ◌+◌, ◌≤◌, length, vec_items, vec_len, vec_capacity}
use Rattle.store_runs.proofs.Replays.{Run}
use Rattle.store_runs.proofs.replay.replay_into.Given as goal

abbrev pub invariant-loop-call : goal.invariant-loop-call
invariant-loop-call g l =
    (vec_len l.answers ≡ vec_len l.initial.answers + l.call-index)
    × (vec_len l.initial.answers + length l.calls ≤ vec_capacity l.answers)
    × Run (g.S.Store.rows l.initial.store) (g.S.Store.room l.initial.store) l.calls (vec_items l.initial.answers) l.call-index (g.S.Store.rows l.store) (g.S.Store.room l.store) (vec_items l.answers)
