-- The number, and behind it the letter between spaces.
use Rattle.std.proofs.Common.{◌≡◌, [], ◌∷◌, ◌++◌, length, ap, ap₂, ◌∙◌, rules}
use Rattle.dictionary.specs.Printing.{over}
use Rattle.calculator.specs.Replies.{head_text}
use Rattle.calculator.proofs.Numbers.{numeral_is}
use Rattle.calculator.proofs.writing.put_head.Goals as goal

pub returns : goal.returns
returns c =
    let number = c.as_bytes.ensures.value ∙ c.format.ensures.text ∙ numeral_is c.args.node (search rules) in
    let same : c.as_bytes.result.now ++ (32 ∷ c.letter.result ∷ 32 ∷ []) ≡ head_text c.args.node c.args.outcome = ap₂ (λ t z. t ++ (32 ∷ z ∷ 32 ∷ [])) number c.letter.ensures in
    record { behind = c.put.ensures.behind ∙ ap length same; written = c.put.ensures.written ∙ ap (over c.args.out.now 0) same }
