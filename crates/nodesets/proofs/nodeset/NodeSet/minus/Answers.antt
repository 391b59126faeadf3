-- Word by word.
use Rattle.std.proofs.Common.{◌≡◌, ◌-◌, not, get_or, bit_and, ◌&&◌, ◌∙◌, ap, refl, rules}
use Rattle.bits.specs.Bits.{bit}
use Rattle.nodesets.proofs.Words.{mem_each, bit_without}
use Rattle.nodesets.proofs.nodeset.NodeSet.minus.Goals as goal

pub returns : goal.returns
returns c =
    mem_each (λ a b. a && not b) refl c.args.self.now.words c.args.other.now.words c.by_words.result.words (search rules) (search rules) c.by_words.result.six
    (λ i j h l. let r = c.by_words.ensures i h in let e : get_or c.by_words.result.words i 0 ≡ bit_and (get_or c.args.self.now.words i 0) (18446744073709551615 - get_or c.args.other.now.words i 0) = search rules in ap (λ w. bit w j) e ∙ bit_without _ _ j (search rules) l)
