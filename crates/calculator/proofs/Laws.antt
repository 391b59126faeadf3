-- The laws of the calculator.
-- Assumes nothing.
use Rattle.drafts.proofs.Promised.{promised}
use Rattle.calculator.specs.Laws.{AnswersKeepTheLaws}
use Rattle.calculator.proofs.Called.{lines_are_calls}
use Rattle.calculator.proofs.One.{one_answer, same_answers}

pub laws_kept : AnswersKeepTheLaws
laws_kept = record { one = one_answer; alike = same_answers; calls = lines_are_calls; law = promised }
