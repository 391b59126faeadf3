-- Word by word, bit by bit.
use Rattle.std.proofs.Common.{◌≡◌, ◌&&◌, get_or, bit_and, ◌∙◌, ap, refl, rules}
use Rattle.bits.specs.Bits.{bit}
use Rattle.bits.proofs.Words.{bit_and_lem}
use Rattle.nodesets.proofs.Words.{mem_each}
use Rattle.nodesets.proofs.nodeset.NodeSet.intersection.Goals as goal

pub returns : goal.returns
returns c =
    mem_each ◌&&◌ refl c.args.self.now.words c.args.other.now.words c.by_words.result.words (search rules) (search rules) c.by_words.result.six
    (λ i j h _. let r = c.by_words.ensures i h in let e : get_or c.by_words.result.words i 0 ≡ bit_and (get_or c.args.self.now.words i 0) (get_or c.args.other.now.words i 0) = search rules in ap (λ w. bit w j) e ∙ bit_and_lem _ _ j)
