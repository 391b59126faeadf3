-- Some word of one set has a bit of the other's, or none has.
use Rattle.std.proofs.Common.{◌≡◌, ◌≢◌, ◌<◌, ◌^◌, bit_and, rules}
use borrow.Author.Tests.{tests}
use Rattle.std.proofs.lemmas.Iterator.{YieldsList-from_slice, YieldsList-from_zip, cases_from_any}
use Rattle.nodesets.proofs.Words.{meet_by_words}
use Rattle.nodesets.proofs.nodeset.NodeSet.meets.Goals as goal

pub returns : goal.returns
returns c =
    let ws = c.args.self.now.words in
    let vs = c.args.other.now.words in
    meet_by_words ws vs (search rules) (search rules) c.any.result
    (cases_from_any c.any.new.self _ _ (λ p. (bit_and p.0 p.1 ≢ 0) × (p.0 < 2 ^ 64)) (λ p. bit_and p.0 p.1 ≡ 0) c.any.ensures.ran (YieldsList-from_zip (YieldsList-from_slice ws (cc)) (YieldsList-from_slice vs (cc))) (λ x q k. search (rules, tests)) (λ x q k. search (rules, tests)))
