-- What was valued may be remembered.
-- Assumes nothing.
use Rattle.std.proofs.Common.{ℕ, List, ◌++◌, refl}
use Rattle.games.specs.Form.{Form}
use Rattle.calls.specs.Rows.{Rows, first}
use Rattle.calls.specs.Answers.{told}
use Rattle.calls.specs.Entering.{Entry, Enters, accepted}
use Rattle.calls.specs.Memory.{Remembered, MemoryHolds, ValuedAgain}
use Rattle.calls.proofs.Sealing.{Extends, extends_known}
use Rattle.calls.proofs.Entering.{turn_grows, turn_known}
use Rattle.calls.proofs.Again.{enters_again, values_known, values_found}

entered : (c : ℕ) (rows after : Rows) (g : Form) (n : ℕ) (places : List ℕ) (es : List Entry) → Enters c rows g places (told n) after es → Remembered after g n
entered c rows after g n places es (accepted t) =
    let z = (turn_grows t).right _ first in
    record { inside = z.inside; equals = z.equals; parts_too = λ x m. let k = turn_known t x m in (k.at, k.inside, k.equals) }

stays : (rows more : Rows) (g : Form) (n : ℕ) → Remembered rows g n → Remembered (rows ++ more) g n
stays rows more g n r =
    let x : Extends rows (rows ++ more) = record { rest = more; is = refl } in
    let a = extends_known x (record { at = n; inside = r.inside; equals = r.equals }) in
    record {
      inside = a.inside;
      equals = a.equals;
      parts_too = λ y m. let (k, i, e) = r.parts_too y m in let b = extends_known x (record { at = k; inside = i; equals = e }) in (b.at, b.inside, b.equals);
    }

pub memory_holds : MemoryHolds
memory_holds = (
  entered,
  stays,
  λ c rows g n places r.
      enters_again rows g places (λ x m. let (k, i, e) = r.parts_too x m in record { at = k; inside = i; equals = e }) n r.inside r.equals,
)

pub valued_again : ValuedAgain
valued_again R c rows after more code n es v s a later fs w =
    let (k, i, e, x) = values_known v in
    let ext : Extends after (after ++ more) = record { rest = more; is = refl } in
    let here = extends_known ext (record { at = n; inside = i; equals = e }) in
    values_found n s x (λ y m. extends_known ext (k y m)) here.inside here.equals w
