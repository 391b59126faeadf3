-- The text is checked, and then each bracket is sealed as it closes.
use Rattle.std.proofs.Common.{◌≡◌, Err, refl, rules}
use Rattle.reading.specs.declared.fault.FormFault.TheVariants.{Text}
use Rattle.reading.proofs.Reading.{read_text, read_faulty, read_steps, reads_back, faulty_back}
use Rattle.reading.proofs.read.read.Goals as goal

pub returns-in_err-check : goal.returns-in_err-check
returns-in_err-check g c =
    let d = c.args.dictionary.now in
    let e : c.from_residual.result ≡ Err (Text c.in_err-check.field-0.0) = search rules in
    let reads = read_faulty c.args.text.now d.room d.rows c.from_residual.result c.in_err-check.field-0.0 e c.in_err-check.ensures in
    record {
      reads = reads;
      step = read_steps d.room d.rows c.args.text.now _ d.rows reads;
      back = faulty_back d.rows c.args.text.now c.from_residual.result c.in_err-check.field-0.0 c.in_err-check.ensures;
      room = refl;
    }

pub returns : goal.returns
returns g c =
    let (f, w) = c.in_ok-check.ensures in
    let x = read_text c.args.text.now w (c.walk.ensures f w) in
    let d = c.args.dictionary.now in
    record { reads = x.read; step = read_steps d.room d.rows c.args.text.now _ c.walk.new.closing.rows x.read; back = reads_back c.walk.result x.sound x.read; room = x.room }
