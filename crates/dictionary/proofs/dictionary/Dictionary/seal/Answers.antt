-- What is remembered is right, and what was sealed anew is remembered.
use Rattle.std.proofs.Common.{sym, subst}
use Rattle.games.specs.Numbered.{Lists}
use Rattle.nodesets.specs.Pairs.{by}
use Rattle.calls.specs.Answers.{told}
use Rattle.calls.specs.Sealing.{SealsNumbers}
use Rattle.dictionary.specs.Kept.{ListsOf}
use Rattle.dictionary.proofs.Settled.{seals_settled, settled_seals, sure_noted}
use Rattle.dictionary.proofs.Soundness.{kept_sound}
use Rattle.dictionary.proofs.dictionary.Dictionary.seal.Goals as goal

pub returns-in-Some-clause-seals : goal.returns-in-Some-clause-seals
returns-in-Some-clause-seals g c l lists = rw (← c.self.view_is) (settled_seals (g.S.Store.room c.self.inside.store) ((c.self.invariant.1 (by c.args.moves.now) c.in-Some.node c.in-Some.ensures).1 l lists))

pub returns-in-Some-clause-sound : goal.returns-in-Some-clause-sound
returns-in-Some-clause-sound g c = rw (← c.self.view_is) (kept_sound _ c.self.inside.tables _ c.self.invariant.0 (g.met.S.Store.lawful c.self.inside.store))

pub invariant_of-self : goal.invariant_of-self
invariant_of-self g c =
    let room = c.args.self.now.room in
    let rows = c.args.self.now.rows in
    let seals : (l : Lists) → ListsOf (by c.args.moves.now) l → SealsNumbers room rows l (told c.in_ok-node.node) (g.S.Store.rows c.self-2.inside.store) =
    λ l lists. subst (λ h. SealsNumbers room rows l (told c.in_ok-node.node) h.rows) (sym c.self-2.view_is) (c.in_ok-node.ensures.seals l lists) in
    (c.self-2.invariant.0, sure_noted c.self-2.invariant.1 c.in_ok-node.ensures.small (λ l lists. seals_settled (seals l lists)) c.note.ensures.others)
