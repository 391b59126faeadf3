-- Each part of the text goes behind the one before it, and all of it fits.
use Rattle.std.proofs.Common.{◌≡◌, ◌+◌, ◌<◌, ◌≤◌, ◌++◌, length, sym, ap, subst, ◌∙◌, arith, rules}
use Rattle.std.proofs.lemmas.List.{append_assoc, length-append}
use Rattle.std.specs.Iterator.Adapters.{enumerate_count}
use Rattle.games.specs.declared.side.Side.TheVariants.{Left, Right}
use Rattle.games.specs.Text.{bytes}
use Rattle.calls.specs.Rows.{node}
use Rattle.dictionary.specs.Printing.{options_text}
use Rattle.dictionary.specs.Writing.{Wrote}
use Rattle.dictionary.proofs.Overwrites.{comma_left_out, comma_written, wrote_more, wrote_room, wrote_whole}
use Rattle.dictionary.proofs.Texts.{gap, before, node_length, node_text, option_falls, before_longer, before_more, before_short, then_left}
use Rattle.dictionary.proofs.print.+writing.Goals as goal

pub write-put-requires : goal.write-put-requires
write-put-requires g t c =
    let l = node_length (g.S.Store.rows c.args.store.now) (g.S.Store.room c.args.store.now) (g.met.S.Store.lawful c.args.store.now) c.args.node in
    let p = c.requires in
    omega arith

pub write-write_options-requires : goal.write-write_options-requires
write-write_options-requires g t c κs within =
    let rows = g.S.Store.rows c.args.store.now in
    let l = node_length rows (g.S.Store.room c.args.store.now) (g.met.S.Store.lawful c.args.store.now) c.args.node in
    let p = c.requires in
    let room = wrote_room _ _ _ c.put.ensures (length (options_text rows Left c.args.node)) (omega arith) in
    search rules

pub write-put-requires-2 : goal.write-put-requires-2
write-put-requires-2 g t c =
    let rows = g.S.Store.rows c.args.store.now in
    let l = node_length rows (g.S.Store.room c.args.store.now) (g.met.S.Store.lawful c.args.store.now) c.args.node in
    let p = c.requires in
    let room = wrote_room _ _ _ c.put.ensures (length (options_text rows Left c.args.node) + 1) (omega arith) in
    let bar = wrote_room _ _ _ c.write_options.ensures 1 (omega arith) in
    omega arith

pub write-write_options-requires-2 : goal.write-write_options-requires-2
write-write_options-requires-2 g t c κs within =
    let rows = g.S.Store.rows c.args.store.now in
    let l = node_length rows (g.S.Store.room c.args.store.now) (g.met.S.Store.lawful c.args.store.now) c.args.node in
    let p = c.requires in
    let r = length (options_text rows Right c.args.node) in
    let room = wrote_room _ _ _ c.put.ensures (length (options_text rows Left c.args.node) + (1 + r)) (omega arith) in
    let bar = wrote_room _ _ _ c.write_options.ensures (1 + r) (omega arith) in
    let rights = wrote_room _ _ _ c.put-2.ensures r (omega arith) in
    search rules

pub write-put-requires-3 : goal.write-put-requires-3
write-put-requires-3 g t c =
    let rows = g.S.Store.rows c.args.store.now in
    let l = node_length rows (g.S.Store.room c.args.store.now) (g.met.S.Store.lawful c.args.store.now) c.args.node in
    let p = c.requires in
    let r = length (options_text rows Right c.args.node) in
    let room = wrote_room _ _ _ c.put.ensures (length (options_text rows Left c.args.node) + (2 + r)) (omega arith) in
    let bar = wrote_room _ _ _ c.write_options.ensures (2 + r) (omega arith) in
    let rights = wrote_room _ _ _ c.put-2.ensures (r + 1) (omega arith) in
    let close = wrote_room _ _ _ c.write_options-2.ensures 1 (omega arith) in
    omega arith

pub write-returns : goal.write-returns
write-returns g t c =
    let rows = g.S.Store.rows c.args.store.now in
    let room = g.S.Store.room c.args.store.now in
    let law = g.met.S.Store.lawful c.args.store.now in
    let l = node_length rows room law c.args.node in
    let p = c.requires in
    subst (Wrote c.args.writer.now c.put-3.new.self) (sym (node_text rows room law c.args.node))
    (wrote_whole _ _ _ _ _ _ (options_text rows Left c.args.node) (options_text rows Right c.args.node) (omega arith) c.put.ensures c.write_options.ensures c.put-2.ensures c.write_options-2.ensures c.put-3.ensures)

pub write_options-put-requires : goal.write_options-put-requires
write_options-put-requires g t c =
    let rows = g.S.Store.rows c.args.store.now in
    let room = g.S.Store.room c.args.store.now in
    let law = g.met.S.Store.lawful c.args.store.now in
    let i = enumerate_count c.loop-index.index-iterator in
    let (step, is, counts, fits) = c.in-Some.ensures.steps in
    let more = before_longer rows room law c.args.side c.args.node i c.in-Some.option _ (sym c.loop-index.invariant.still ∙ step) in
    let short = before_short rows room law c.args.side c.args.node (i + 1) in
    let p = c.requires in
    let u = c.if-index-gt0.true in
    let behind = wrote_room _ _ _ c.loop-index.invariant.wrote 1 (omega arith) in
    omega arith

pub write_options-write-requires : goal.write_options-write-requires
write_options-write-requires g t c κs within =
    let rows = g.S.Store.rows c.args.store.now in
    let room = g.S.Store.room c.args.store.now in
    let law = g.met.S.Store.lawful c.args.store.now in
    let i = enumerate_count c.loop-index.index-iterator in
    let (step, is, counts, fits) = c.in-Some.ensures.steps in
    let there = sym c.loop-index.invariant.still ∙ step in
    let falls : c.in-Some.option < c.args.node = option_falls rows room law c.args.side c.args.node i c.in-Some.option _ there in
    let more = before_longer rows room law c.args.side c.args.node i c.in-Some.option _ there in
    let short = before_short rows room law c.args.side c.args.node (i + 1) in
    let p = c.requires in
    let b = length (bytes (node rows c.in-Some.option)) in
    let behind : c.if-index-gt0.writer.place + b ≤ length c.if-index-gt0.writer.out.now = elim c.if-index-gt0.branch [
      | goal.write_options-then-index-gt0 w ↦
          let u = w.if-index-gt0.true in
          let text = wrote_room _ _ _ c.loop-index.invariant.wrote (1 + b) (omega arith) in
          rw w.writer-is (wrote_room _ _ _ w.put.ensures b (omega arith))
      | goal.write_options-else-index-gt0 w ↦ rw w.writer-is (wrote_room _ _ _ c.loop-index.invariant.wrote b (omega arith))
    ] in
    search rules

pub write_options-loop-index-preserved : goal.write_options-loop-index-preserved
write_options-loop-index-preserved g t c =
    let rows = g.S.Store.rows c.args.store.now in
    let room = g.S.Store.room c.args.store.now in
    let law = g.met.S.Store.lawful c.args.store.now in
    let i = enumerate_count c.loop-index.index-iterator in
    let (step, is, counts, fits) = c.in-Some.ensures.steps in
    let there = sym c.loop-index.invariant.still ∙ step in
    let y = c.in-Some.option in
    let text = before rows c.args.side c.args.node i in
    let b = bytes (node rows y) in
    let more = before_longer rows room law c.args.side c.args.node i y _ there in
    let short = before_short rows room law c.args.side c.args.node (i + 1) in
    let grows : (text ++ gap i) ++ b ≡ before rows c.args.side c.args.node (i + 1) = append_assoc text (gap i) b ∙ sym (before_more rows room law c.args.side c.args.node i y _ there) in
    let p = c.requires in
    let k = length-append (text ++ gap i) b in
    let gapped : Wrote c.args.writer.now c.if-index-gt0.writer (text ++ gap i) = elim c.if-index-gt0.branch [
      | goal.write_options-then-index-gt0 w ↦
          let u = w.if-index-gt0.true in
          rw w.writer-is (comma_written _ _ text c.loop-index.invariant.wrote _ i (omega arith) (omega arith) w.put.ensures)
      | goal.write_options-else-index-gt0 w ↦
          let u = w.if-index-gt0.false in
          rw w.writer-is (comma_left_out _ _ text c.loop-index.invariant.wrote i (omega arith))
    ] in
    let same = ap length grows in
    rw counts (record {
      still = then_left rows room law c.args.side c.args.node i y _ there;
      wrote = subst (Wrote c.args.writer.now c.write.new.writer) grows (wrote_more _ _ (text ++ gap i) gapped c.write.new.writer b (omega arith) c.write.ensures);
    })
