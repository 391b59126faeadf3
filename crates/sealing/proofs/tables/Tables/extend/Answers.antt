-- The new row is the last, or none was wanted.
use Rattle.std.proofs.Common.{Ok, refl, subst, inl}
use Rattle.nodesets.specs.Pairs.{by}
use Rattle.sealing.specs.Seals.{SealsTo, row_of}
use Rattle.sealing.specs.declared.seal.Sealed.{Sealed}
use Rattle.sealing.proofs.Sealing.{no_row, fresh_row}
use Rattle.sealing.proofs.tables.Tables.extend.Goals as goal

pub append-requires-clause-fresh : goal.append-requires-clause-fresh
append-requires-clause-fresh c =
    let t = c.args.self.now in
    let o = by c.args.moves.now in
    fresh_row t o (row_of t (by c.in-Ok-New.form)) (subst (λ (s : Sealed). SealsTo (Ok s) t o) c.in-Ok-New.field-0-is c.in-Ok-New.ensures.seals).1

pub returns-in_default-3 : goal.returns-in_default-3
returns-in_default-3 c = (refl, inl (no_row c.args.self.now (by c.args.moves.now) c.find.result c.find.ensures.seals (λ p e. let i = c.in_default.is in cc)))
