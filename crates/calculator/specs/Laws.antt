-- The laws of the calculator, in one.
-- Assumes nothing.
use Rattle.drafts.specs.Promise.{OneGameOneNumberOneText}
use Rattle.calculator.specs.Lines.{LinesAreCalls}
use Rattle.calculator.specs.Sessions.{OneAnswer, SameAnswers}

pub record AnswersKeepTheLaws : Type 0 where
  -- a line has one answer, and leaves the rows in one way
  pub one : OneAnswer
  -- two calculators that begin with room for as many rows, over stores alike or not, answer the same lines alike
  pub alike : SameAnswers
  -- what is done for a line is some calls of a run
  pub calls : LinesAreCalls
  -- and no list of calls gives two games one number or text, or one game two
  pub law : OneGameOneNumberOneText
