-- The store finds the row, and a list of more than 16 numbers is in none.
use Rattle.std.proofs.Common.{◌≡◌, None, ap, ◌∙◌, rules}
use Rattle.stores.specs.Rows.{lowest}
use Rattle.dictionary.proofs.Found.{none_so_long, lists_in}
use Rattle.dictionary.proofs.Soundness.{kept_sound}
use Rattle.dictionary.proofs.frozen.Frozen.find.Goals as goal

pub returns-in_err-new : goal.returns-in_err-new
returns-in_err-new g c =
    let rows = g.S.Store.rows c.dictionary.inside.store in
    let law = g.met.S.Store.lawful c.dictionary.inside.store in
    let e : c.from_residual.result ≡ None = search rules in
    let h = c.in_err-new.ensures in
    rw (← c.self.view_is, ← c.dictionary.view_is) (record {
      found = e ∙ none_so_long rows _ law c.args.left.now c.args.right.now h;
      sound = kept_sound rows c.dictionary.inside.tables _ c.dictionary.invariant.0 law;
      lawful = law;
    })

pub returns : goal.returns
returns g c =
    let rows = g.S.Store.rows c.dictionary.inside.store in
    let law = g.met.S.Store.lawful c.dictionary.inside.store in
    rw (← c.self.view_is, ← c.dictionary.view_is) (record {
      found = c.find.ensures ∙ ap (lowest rows) (lists_in _ _ _ c.in_ok-new.ensures);
      sound = kept_sound rows c.dictionary.inside.tables _ c.dictionary.invariant.0 law;
      lawful = law;
    })
