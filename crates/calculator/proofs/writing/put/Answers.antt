-- Each part fits behind those before it.
use Rattle.std.proofs.Common.{arith, rules}
use Rattle.calculator.proofs.Parts.{part_fits, part_put}
use Rattle.calculator.proofs.writing.put.Goals as goal

pub overflow_add-next : goal.overflow_add-next
overflow_add-next c = let fits = part_fits c.args.parts.now c.loop-part.part-index c.loop-part-test.true in omega (arith, c.requires, c.loop-part.invariant.0)

pub slice_bounds-copy_from_slice-end : goal.slice_bounds-copy_from_slice-end
slice_bounds-copy_from_slice-end c = let fits = part_fits c.args.parts.now c.loop-part.part-index c.loop-part-test.true in search rules

pub loop-part-preserved : goal.loop-part-preserved
loop-part-preserved c = part_put c.args.parts.now c.loop-part.part-index c.loop-part-test.true c.args.out.now c.loop-part.out c.copy_from_slice.new.self c.loop-part.end (omega (arith, c.requires, c.told-out)) c.loop-part.invariant.0 c.loop-part.invariant.1 c.copy_from_slice.ensures.after
