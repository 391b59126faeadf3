-- The first bytes of the buffer are written, or it is too short.
use Rattle.std.proofs.Common.{◌≡◌, ◌<◌, length, Some, Err, refl, rules}
use Rattle.calculator.specs.declared.fault.BufferFault.TheVariants.{Short}
use Rattle.calculator.specs.Written
use Rattle.calculator.proofs.Answering.{fault_answered, told_answered}
use Rattle.calculator.proofs.Laws.{laws_kept}
use Rattle.calculator.proofs.calculator.Calculator.answer.Goals as goal

pub returns-in_err-out-clause-answered : goal.returns-in_err-out-clause-answered
returns-in_err-out-clause-answered g c =
    let is = c.in_err-out.ensures.ok_part in
    let short : length c.args.buffer.now < 4096 = rw is at c.first_chunk_mut.ensures.cases in
    let e : c.from_residual.result ≡ Err Short = search rules in
    rw e (Written.Answered.too_short short refl refl)

pub returns-in-Ok-clause-answered : goal.returns-in-Ok-clause-answered
returns-in-Ok-clause-answered g c =
    let d = c.args.self.now.dictionary in
    let is : c.first_chunk_mut.result ≡ Some c.in_ok-out.out = search rules in
    let x = rw is at c.first_chunk_mut.ensures.cases in
    told_answered d.room d.rows c.args.line.now c.args.buffer.now c.in_ok-out.out.now c.handle.new.self.dictionary.rows x.enough x.same c.handle.new.out c.in-Ok.length c.in-Ok.ensures.handled

pub returns-in-Err-clause-answered : goal.returns-in-Err-clause-answered
returns-in-Err-clause-answered g c =
    let d = c.args.self.now.dictionary in
    let is : c.first_chunk_mut.result ≡ Some c.in_ok-out.out = search rules in
    let x = rw is at c.first_chunk_mut.ensures.cases in
    fault_answered d.room d.rows c.args.line.now c.args.buffer.now c.in_ok-out.out.now c.handle.new.self.dictionary.rows x.enough x.same c.handle.new.out c.put_fault.new.out c.in-Err.fault c.put_fault.result
    c.in-Err.ensures.handled c.put_fault.ensures.behind c.put_fault.ensures.written c.put_fault.ensures.inside

pub returns-in_err-out-clause-laws : goal.returns-in_err-out-clause-laws
returns-in_err-out-clause-laws g c = laws_kept

pub returns-in-Ok-clause-laws : goal.returns-in-Ok-clause-laws
returns-in-Ok-clause-laws g c = laws_kept

pub returns-in-Err-clause-laws : goal.returns-in-Err-clause-laws
returns-in-Err-clause-laws g c = laws_kept
