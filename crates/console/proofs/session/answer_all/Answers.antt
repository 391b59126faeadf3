-- What was answered, from a new dictionary and empty buffers.
use Rattle.std.proofs.Common.{◌≡◌, rules}
use Rattle.std.specs.Io.Buffered.{reader_remaining, writer_contents}
use Rattle.console.proofs.session.answer_all.Goals as goal

pub returns : goal.returns
returns g c =
    let input : reader_remaining g.R.Read.remaining c.in_ok-reader.reader ≡ g.R.Read.remaining c.args.input = search rules in
    let before : writer_contents g.W.Write.contents c.in_ok-writer.writer ≡ g.W.Write.contents c.args.output = search rules in
    let after : writer_contents g.W.Write.contents c.serve.new.output ≡ g.W.Write.contents c.into_parts-written.result.0 = search rules in
    (_, rw (c.in_ok-calculator.ensures.0, c.in_ok-calculator.ensures.1, input, before, after) at c.in_ok-serve.ensures.served)
