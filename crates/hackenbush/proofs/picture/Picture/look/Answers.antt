-- One look keeps the flood a flood.
use Rattle.std.proofs.Common.{ℕ, ◌<◌, sym, subst, arith}
use lib.Bits.{bit_or, bit_xor}
use Rattle.bits.proofs.Words.{one_shl_64}
use Rattle.hackenbush.specs.Floods.{Ends, Looked}
use Rattle.hackenbush.specs.Pictures.{edges_of}
use Rattle.hackenbush.specs.Reading.{edge_at, ends_near}
use Rattle.hackenbush.proofs.Flooding.{looked_dry, looked_wet}
use Rattle.hackenbush.proofs.picture.Picture.look.Goals as goal

pub ends-ends-requires : goal.ends-ends-requires
ends-ends-requires c = rw c.edges.ensures (ends_near c.args.self.now c.args.place c.requires.within)

pub returns-then-flood-ends-eq0 : goal.returns-then-flood-ends-eq0
returns-then-flood-ends-eq0 c =
    let ends : Ends (edges_of c.args.self.now) c.args.place c.ends-ends.result = (_, edge_at c.args.self.now c.args.place c.requires.within, rw c.edges.ensures at c.ends-ends.ensures) in
    looked_dry _ _ _ _ _ ends c.requires.left c.if-flood-ends-eq0.true

pub returns : goal.returns
returns c =
    let f = c.args.flood in
    let low : c.args.place < 64 = omega arith in
    let ends : Ends (edges_of c.args.self.now) c.args.place c.ends-ends.result = (_, edge_at c.args.self.now c.args.place c.requires.within, rw c.edges.ensures at c.ends-ends.ensures) in
    subst (λ (flag : ℕ). Looked (edges_of c.args.self.now) c.args.place f.wet f.dry (bit_or f.wet c.ends-ends.result) (bit_xor f.dry flag))
    (sym (one_shl_64 c.args.place low)) (looked_wet _ _ _ _ _ ends c.requires.left c.if-flood-ends-eq0.false (omega arith) (omega arith) low)
