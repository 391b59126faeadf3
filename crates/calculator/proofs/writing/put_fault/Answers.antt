-- Four parts, one behind the other.
use Rattle.std.proofs.Common.{◌≡◌, [], ◌++◌, length, codes, ap, ap₂, ◌∙◌, append-nil, arith, rules}
use Rattle.std.proofs.lemmas.List.{length-append}
use Rattle.dictionary.specs.Printing.{over}
use Rattle.lines.specs.Syntax.{numeral}
use Rattle.calculator.specs.Faults.{number_of, place_of}
use Rattle.calculator.specs.Replies.{fault_text}
use Rattle.calculator.proofs.Numbers.{numeral_is}
use Rattle.calculator.proofs.writing.put_fault.Goals as goal

pub returns : goal.returns
returns c =
    let number = c.as_bytes.ensures.value ∙ c.format.ensures.text ∙ numeral_is c.number.result (search rules) ∙ ap numeral c.number.ensures in
    let place = c.as_bytes-2.ensures.value ∙ c.format-2.ensures.text ∙ numeral_is c.place.result (search rules) ∙ ap numeral c.place.ensures in
    let same : codes "fault " ++ (c.as_bytes.result.now ++ (codes " " ++ (c.as_bytes-2.result.now ++ []))) ≡ fault_text (number_of c.args.fault) (place_of c.args.fault) =
    ap₂ (λ k i. codes "fault " ++ (k ++ (codes " " ++ i))) number (append-nil c.as_bytes-2.result.now ∙ place) in
    let l = length-append c.as_bytes.result.now (codes " " ++ (c.as_bytes-2.result.now ++ [])) in
    let m = length-append c.as_bytes-2.result.now [] in
    let few = ap length c.as_bytes.ensures.value in
    let more = ap length c.as_bytes-2.ensures.value in
    record { behind = c.put.ensures.behind ∙ ap length same; inside = omega (arith, c.put.ensures.behind, c.format.ensures.fits, c.format-2.ensures.fits); written = c.put.ensures.written ∙ ap (over c.args.out.now 0) same }
