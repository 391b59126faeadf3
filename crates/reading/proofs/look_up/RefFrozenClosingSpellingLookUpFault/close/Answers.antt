-- The store finds the row of the numbers that are kept.
use Rattle.std.proofs.Common.{◌∙◌}
use Rattle.reading.proofs.Looked.{finds, found_at}
use Rattle.reading.proofs.look_up.RefFrozenClosingSpellingLookUpFault.close.Goals as goal

pub returns : goal.returns
returns g c = λ l h.
    let law = c.find.ensures.lawful in
    let e = finds _ _ law l _ _ (c.list.ensures.value ∙ h.0) (c.list-2.ensures.value ∙ h.1) c.find.result c.find.ensures.found in
    found_at _ _ law l c.args.place c.find.result c.ok_or.result e c.ok_or.ensures.value c.find.ensures.sound
