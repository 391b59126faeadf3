-- The text is checked, and then each bracket's row is looked for as it closes.
use Rattle.std.proofs.Common.{◌≡◌, Err, Bor, rules}
use Rattle.dictionary.specs.Holding.{Holding}
use Rattle.reading.specs.declared.fault.FormFault.TheVariants.{Text}
use Rattle.reading.proofs.Looked.{look_text, look_faulty, finds_nodes, finds_none}
use Rattle.reading.proofs.look_up.look_up.Goals as goal

pub returns-in_err-check : goal.returns-in_err-check
returns-in_err-check g c =
    let e : c.from_residual.result ≡ Err (Text c.in_err-check.field-0.0) = search rules in
    record {
      looks = look_faulty c.args.text.now c.args.frozen.now.rows c.from_residual.result c.in_err-check.field-0.0 e c.in_err-check.ensures;
      nodes = finds_none c.args.frozen.now.rows c.args.text.now c.from_residual.result c.in_err-check.field-0.0 e c.in_err-check.ensures;
    }

pub returns : goal.returns
returns g c =
    let (f, w) = c.in_ok-check.ensures in
    let x = look_text (λ (b : Bor Holding). b.now.rows) c.args.text.now w (c.walk.ensures f w) in
    record { looks = x.looks; nodes = finds_nodes c.walk.result x.sound x.looks }
