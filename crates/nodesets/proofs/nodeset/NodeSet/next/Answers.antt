-- The rest of a word has no bit that differs, or a lowest one.
use Rattle.std.proofs.Common.{◌/◌, ◌^◌, ◌<◌, get_or, arith, rules}
use Rattle.std.proofs.lemmas.Nat.{xor_lt}
use Rattle.nodesets.specs.Sets.{has}
use Rattle.nodesets.proofs.Next.{differs, tells_differs, next_none, next_found}
use Rattle.nodesets.proofs.nodeset.NodeSet.next.Goals as goal

pub loop-k-preserved : goal.loop-k-preserved
loop-k-preserved c =
    let w : get_or c.args.self.now.words (c.loop-k.k / 64) 0 < 2 ^ 64 = search rules in
    let m : c.args.mask < 2 ^ 64 = search rules in
    let a = c.loop-k.invariant.0 in
    (omega arith, next_none (differs (has c.args.self.now) c.args.mask) c.args.from c.loop-k.k _ c.loop-k-test.true (xor_lt 64 _ _ w m) (tells_differs c.args.self.now.words c.args.mask c.loop-k.k) a c.loop-k.invariant.1 c.if-rest-ne0.false)

pub returns-then-rest-ne0 : goal.returns-then-rest-ne0
returns-then-rest-ne0 c =
    let w : get_or c.args.self.now.words (c.loop-k.k / 64) 0 < 2 ^ 64 = search rules in
    let m : c.args.mask < 2 ^ 64 = search rules in
    next_found (differs (has c.args.self.now) c.args.mask) c.args.from c.loop-k.k _ c.loop-k-test.true (xor_lt 64 _ _ w m) (tells_differs c.args.self.now.words c.args.mask c.loop-k.k) c.loop-k.invariant.0 c.loop-k.invariant.1 c.if-rest-ne0.true

pub returns : goal.returns
returns c = λ k s l. c.loop-k.invariant.1 k s (omega arith)
