-- The call at each number gave the word there.
use Rattle.std.proofs.Common.{rules, arith}
use Rattle.nodesets.specs.Sets.{word}
use Rattle.nodesets.proofs.Made.{each_made}
use Rattle.nodesets.proofs.nodeset.NodeSet.by_words.Goals as goal

pub returns : goal.returns
returns g c i h = each_made _ (λ k y. g.F.Fn.post c.args.f (word c.args.self.now k, (word c.args.other.now k, tt)) y) 6 0 _ c.from_fn.result (λ k y q call. search rules) c.from_fn.ensures.items.each i (omega arith) (omega arith) 0
