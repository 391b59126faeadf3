-- What the tables find is what sealing answers, and what the store takes the tables take too.
use Rattle.std.proofs.Common.{◌≡◌, Some, None, Ok, Err, sym, ap, ◌∙◌, subst, rules}
use Rattle.nodesets.specs.Pairs.{by}
use Rattle.sealing.specs.declared.seal.Sealed.TheVariants.{New, Node}
use Rattle.sealing.specs.Seals.{SealsTo, row_of}
use Rattle.stores.specs.Reading.{lists_of}
use Rattle.stores.specs.Rows.{append_answer, append_rows}
use Rattle.calls.specs.Sealing.{SealsNumbers}
use Rattle.dictionary.specs.declared.fault.DictionaryFault.TheVariants.{Store}
use Rattle.dictionary.specs.Faults.{answer_of, seal_fault}
use Rattle.dictionary.proofs.Added.{full_kept, full_seals, new_kept, new_seals}
use Rattle.dictionary.proofs.Appended.{row_is, row_there}
use Rattle.dictionary.proofs.Settled.{append_extends, sure_stays}
use Rattle.dictionary.proofs.Sealed.{seals_node, seals_refused}
use Rattle.dictionary.proofs.Soundness.{kept_sound}
use Rattle.dictionary.proofs.dictionary.Dictionary.seal_anew.Goals as goal

pub returns-in_err-node-clause-seals : goal.returns-in_err-node-clause-seals
returns-in_err-node-clause-seals g c l lists =
    let rows = g.S.Store.rows c.self.inside.store in
    let room = g.S.Store.room c.self.inside.store in
    let e : c.from_residual.result ≡ Err (seal_fault c.in_err-node.field-0.0) = search rules in
    rw (← c.self.view_is)
    (subst (λ a. SealsNumbers room rows l (answer_of a) rows) (sym e) (seals_refused rows c.self.inside.tables c.self.invariant.0 room (by c.args.moves.now) l lists c.in_err-node.field-0.0 c.in_err-node.ensures.seals))

pub returns-in_err-node-clause-sound : goal.returns-in_err-node-clause-sound
returns-in_err-node-clause-sound g c = rw (← c.self.view_is) (kept_sound _ c.self.inside.tables _ c.self.invariant.0 (g.met.S.Store.lawful c.self.inside.store))

pub returns-in_err-row-in-New-clause-seals : goal.returns-in_err-row-in-New-clause-seals
returns-in_err-row-in-New-clause-seals g c l lists =
    let t = c.self.inside.tables in
    let rows = g.S.Store.rows c.self.inside.store in
    let room = g.S.Store.room c.self.inside.store in
    let o = by c.args.moves.now in
    let found : SealsTo (Ok (New c.in-New.form)) t o = subst (λ x. SealsTo (Ok x) t o) c.in-New.is c.in_ok-node.ensures.seals in
    let new = found.1 in
    let r = row_of t (by c.in-New.form) in
    let none : c.row.result ≡ None = search rules in
    absurd (row_there t (by c.in-New.form) c.row.result c.row.ensures none new.narrow)

pub returns-in_err-row-in-New-clause-sound : goal.returns-in_err-row-in-New-clause-sound
returns-in_err-row-in-New-clause-sound g c = rw (← c.self.view_is) (kept_sound _ c.self.inside.tables _ c.self.invariant.0 (g.met.S.Store.lawful c.self.inside.store))

pub returns-in_err-node-in-New-clause-seals : goal.returns-in_err-node-in-New-clause-seals
returns-in_err-node-in-New-clause-seals g c l lists =
    let t = c.self.inside.tables in
    let rows = g.S.Store.rows c.self.inside.store in
    let room = g.S.Store.room c.self.inside.store in
    let o = by c.args.moves.now in
    let found : SealsTo (Ok (New c.in-New.form)) t o = subst (λ x. SealsTo (Ok x) t o) c.in-New.is c.in_ok-node.ensures.seals in
    let new = found.1 in
    let r = row_of t (by c.in-New.form) in
    let some : c.row.result ≡ Some c.in_ok-row-in-New.row = search rules in
    let is : lists_of c.in_ok-row-in-New.row ≡ r = row_is t (by c.in-New.form) c.row.result c.in_ok-row-in-New.row c.row.ensures some in
    let went : g.S.Store.rows c.append.new.self ≡ append_rows rows room r = c.append.ensures.rows ∙ ap (append_rows rows room) is in
    let e : Err c.in_err-node-in-New.field-0.0 ≡ append_answer rows room r = c.in_err-node-in-New.ensures.answer ∙ ap (append_answer rows room) is in
    let after = g.S.Store.rows c.append.new.self in
    let f : c.from_residual-in_err-node-in-New.result ≡ Err (Store c.in_err-node-in-New.field-0.0) = search rules in
    rw (← c.self.view_is)
    (subst (λ a. SealsNumbers room rows l (answer_of a) after) (sym f) (full_seals rows t c.self.invariant.0 room o r new after went c.in_err-node-in-New.field-0.0 e l lists))

pub returns-in_err-node-in-New-clause-sound : goal.returns-in_err-node-in-New-clause-sound
returns-in_err-node-in-New-clause-sound g c = rw (← c.self.view_is) (kept_sound _ c.self.inside.tables _ c.self.invariant.0 (g.met.S.Store.lawful c.self.inside.store))

pub invariant_of-self-in-New : goal.invariant_of-self-in-New
invariant_of-self-in-New g c =
    let t = c.self.inside.tables in
    let rows = g.S.Store.rows c.self.inside.store in
    let room = g.S.Store.room c.self.inside.store in
    let o = by c.args.moves.now in
    let found : SealsTo (Ok (New c.in-New.form)) t o = subst (λ x. SealsTo (Ok x) t o) c.in-New.is c.in_ok-node.ensures.seals in
    let new = found.1 in
    let r = row_of t (by c.in-New.form) in
    let some : c.row.result ≡ Some c.in_ok-row-in-New.row = search rules in
    let is : lists_of c.in_ok-row-in-New.row ≡ r = row_is t (by c.in-New.form) c.row.result c.in_ok-row-in-New.row c.row.ensures some in
    let went : g.S.Store.rows c.append.new.self ≡ append_rows rows room r = c.append.ensures.rows ∙ ap (append_rows rows room) is in
    let e : Ok c.in_ok-node-in-New.node ≡ append_answer rows room r = c.in_ok-node-in-New.ensures.answer ∙ ap (append_answer rows room) is in (
      new_kept rows t c.self.invariant.0 room o r new (g.S.Store.rows c.append.new.self) went c.in_ok-node-in-New.node e (g.met.S.Store.lawful c.self.inside.store).most_room c.extend.result c.extend.new.self c.extend.ensures,
      sure_stays (append_extends rows room r _ went) c.self.invariant.1,
    )

pub invariant_of-self : goal.invariant_of-self
invariant_of-self g c =
    let t = c.self.inside.tables in
    let rows = g.S.Store.rows c.self.inside.store in
    let room = g.S.Store.room c.self.inside.store in
    let o = by c.args.moves.now in
    let found : SealsTo (Ok (New c.in-New.form)) t o = subst (λ x. SealsTo (Ok x) t o) c.in-New.is c.in_ok-node.ensures.seals in
    let new = found.1 in
    let r = row_of t (by c.in-New.form) in
    let some : c.row.result ≡ Some c.in_ok-row-in-New.row = search rules in
    let is : lists_of c.in_ok-row-in-New.row ≡ r = row_is t (by c.in-New.form) c.row.result c.in_ok-row-in-New.row c.row.ensures some in
    let went : g.S.Store.rows c.append.new.self ≡ append_rows rows room r = c.append.ensures.rows ∙ ap (append_rows rows room) is in
    let e : Err c.in_err-node-in-New.field-0.0 ≡ append_answer rows room r = c.in_err-node-in-New.ensures.answer ∙ ap (append_answer rows room) is in
    (full_kept rows t c.self.invariant.0 room o r new (g.S.Store.rows c.append.new.self) went c.in_err-node-in-New.field-0.0 e, sure_stays (append_extends rows room r _ went) c.self.invariant.1)

pub returns-in-Node-clause-seals : goal.returns-in-Node-clause-seals
returns-in-Node-clause-seals g c l lists =
    let t = c.self.inside.tables in
    let rows = g.S.Store.rows c.self.inside.store in
    let room = g.S.Store.room c.self.inside.store in
    let o = by c.args.moves.now in
    let found : SealsTo (Ok (Node c.in-Node.node)) t o = subst (λ x. SealsTo (Ok x) t o) c.in-Node.is c.in_ok-node.ensures.seals in
    rw (← c.self.view_is) (seals_node rows t c.self.invariant.0 room o l lists c.in-Node.node found)

pub returns-in-Node-clause-sound : goal.returns-in-Node-clause-sound
returns-in-Node-clause-sound g c = rw (← c.self.view_is) (kept_sound _ c.self.inside.tables _ c.self.invariant.0 (g.met.S.Store.lawful c.self.inside.store))

pub returns-in_ok-node-in-New-clause-seals : goal.returns-in_ok-node-in-New-clause-seals
returns-in_ok-node-in-New-clause-seals g c l lists =
    let t = c.self.inside.tables in
    let rows = g.S.Store.rows c.self.inside.store in
    let room = g.S.Store.room c.self.inside.store in
    let o = by c.args.moves.now in
    let found : SealsTo (Ok (New c.in-New.form)) t o = subst (λ x. SealsTo (Ok x) t o) c.in-New.is c.in_ok-node.ensures.seals in
    let new = found.1 in
    let r = row_of t (by c.in-New.form) in
    let some : c.row.result ≡ Some c.in_ok-row-in-New.row = search rules in
    let is : lists_of c.in_ok-row-in-New.row ≡ r = row_is t (by c.in-New.form) c.row.result c.in_ok-row-in-New.row c.row.ensures some in
    let went : g.S.Store.rows c.append.new.self ≡ append_rows rows room r = c.append.ensures.rows ∙ ap (append_rows rows room) is in
    let e : Ok c.in_ok-node-in-New.node ≡ append_answer rows room r = c.in_ok-node-in-New.ensures.answer ∙ ap (append_answer rows room) is in
    rw (← c.self.view_is) (new_seals rows t c.self.invariant.0 room o r new (g.S.Store.rows c.append.new.self) went c.in_ok-node-in-New.node e l lists)

pub returns-in_ok-node-in-New-clause-sound : goal.returns-in_ok-node-in-New-clause-sound
returns-in_ok-node-in-New-clause-sound g c = rw (← c.self.view_is) (kept_sound _ c.self.inside.tables _ c.self.invariant.0 (g.met.S.Store.lawful c.self.inside.store))
