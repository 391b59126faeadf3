-- The ends of one edge more.
use Rattle.std.proofs.lemmas.Option.{slice_get-get_or}
use Rattle.bits.proofs.Words.{bit_none}
use Rattle.hackenbush.specs.Reading.{blank, near_at}
use Rattle.hackenbush.proofs.Making.{span_more, span_all}
use Rattle.hackenbush.proofs.picture.making.span.Goals as goal

pub loop-edge-init : goal.loop-edge-init
loop-edge-init c v = rw (bit_none v)

pub ends-set-requires : goal.ends-set-requires
ends-set-requires c = near_at c.args.edges.now c.loop-edge.edge-index _ c.requires (slice_get-get_or c.args.edges.now c.loop-edge.edge-index blank c.loop-edge-test.true)

pub loop-edge-preserved : goal.loop-edge-preserved
loop-edge-preserved c = span_more c.args.edges.now c.loop-edge.set c.loop-edge.edge-index c.loop-edge.invariant c.loop-edge-test.true c.ends-set.result c.ends-set.ensures

pub returns : goal.returns
returns c = span_all c.args.edges.now c.loop-edge.set c.loop-edge.edge-index c.loop-edge.invariant c.loop-edge-test.false
