-- A line is found part by part.
use Rattle.std.proofs.Common.{length, ap, ◌∙◌, eqb}
use Rattle.console.proofs.Lines.{between_goes_on, between_breaks, between_ends}
use Rattle.console.proofs.serving.next_line.Goals as goal

pub loop-preserved : goal.loop-preserved
loop-preserved g c = between_goes_on _ _ _ _ _ c.in_ok-take_part.field-0 c.loop.invariant c.in_ok-take_part.ensures c.in-Nowhere.is

pub returns-in-Break : goal.returns-in-Break
returns-in-Break g c = between_breaks _ _ _ c.loop.line.bytes.items _ c.in_ok-take_part.field-0 c.loop.invariant c.in_ok-take_part.ensures c.in-Break.is

pub returns-in-End : goal.returns-in-End
returns-in-End g c =
    between_ends _ _ _ c.loop.line.bytes.items _ c.in_ok-take_part.field-0 _ c.loop.invariant c.in_ok-take_part.ensures c.in-End.is (c.is_empty.ensures ∙ ap (λ l. eqb (length l) 0) c.bytes.ensures)
