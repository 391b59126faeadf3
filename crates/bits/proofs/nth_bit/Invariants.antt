-- The loop has cleared as many of the lowest bits as it has turned.
use Rattle.std.proofs.Common.{◌≡◌, ◌-◌, ◌^◌, ◌<◌}
use Rattle.std.specs.List.{slice_get}
use Rattle.bits.specs.Bits.{bit, places}
use Rattle.bits.proofs.nth_bit.Given as goal

abbrev pub invariant-loop : goal.invariant-loop
invariant-loop l = (l.rest < 2 ^ 64) × (slice_get (places 64 (bit l.rest)) (l.index - l.counter) ≡ slice_get (places 64 (bit l.word)) l.index)
