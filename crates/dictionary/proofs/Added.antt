-- A new row goes into the store and into the tables, or neither changes.
-- Assumes nothing.
use Rattle.std.proofs.Common.{◌≡◌, ℕ, ◌≤◌, [], ◌∷◌, ◌++◌, length, Ok, Err, Option, sym, ap, ◌∙◌, subst, arith}
use Rattle.games.specs.Numbered.{Lists}
use Rattle.nodesets.specs.Pairs.{Sets}
use Rattle.sealing.specs.declared.tables.Tables.{Tables}
use Rattle.sealing.specs.Seals.{Extended, NewRow, count}
use Rattle.stores.specs.declared.fault.StoreFault.{StoreFault}
use Rattle.stores.specs.Faults.{number_of}
use Rattle.stores.specs.Rows.{append_answer, append_rows}
use Rattle.calls.specs.Answers.{told, refused}
use Rattle.calls.specs.Rows.{Below, Rows}
use Rattle.calls.specs.Sealing.{SealsNumbers}
use Rattle.dictionary.specs.Kept.{Kept, ListsOf}
use Rattle.dictionary.proofs.Appended.{refused_full, taken}
use Rattle.dictionary.proofs.Sealed.{extended, row_names, seals_full, seals_new}

module _ (rows : Rows) (t : Tables) (kept : Kept rows t) (room : ℕ) (o : Sets) (r : Lists) (new : NewRow t o r) (after : Rows) (went : after ≡ append_rows rows room r) where
  many : length rows ≡ count t
  many = ap length kept

  named : Below (length rows) r
  named = subst (λ n. Below n r) (sym many) (row_names t o r new)

  -- the store is full
  module _ (f : StoreFault) (e : Err f ≡ append_answer rows room r) where
    pub full_kept : Kept after t
    full_kept = went ∙ (refused_full rows room r named f e).2 ∙ kept

    pub full_seals : (l : Lists) → ListsOf o l → SealsNumbers room rows l (refused (number_of f)) after
    full_seals l lists =
        let (full, h, same) = refused_full rows room r named f e in
        let seals = seals_full rows t kept room o l lists r new (let m = many in omega arith) in
        subst (λ a. SealsNumbers room rows l (refused (number_of f)) a) (sym (went ∙ same)) (subst (λ x. SealsNumbers room rows l (refused (number_of x)) rows) (sym full) seals)

  -- the row is the last
  module _ (n : ℕ) (e : Ok n ≡ append_answer rows room r) where
    pub new_kept : room ≤ 384 → (k : Option ℕ) (later : Tables) → Extended k t later o → Kept after later
    new_kept most k later ext =
        let (is, h, more) = taken rows room r n e in
        went ∙ more ∙ ap (λ x. x ++ r ∷ []) kept ∙ sym (extended t o k later r ext new (let m = many in omega arith))

    pub new_seals : (l : Lists) → ListsOf o l → SealsNumbers room rows l (told n) after
    new_seals l lists =
        let (is, h, more) = taken rows room r n e in
        let seals = seals_new rows t kept room o l lists r new (let m = many in omega arith) in
        subst (λ a. SealsNumbers room rows l (told n) a) (sym (went ∙ more)) (subst (λ x. SealsNumbers room rows l (told x) (rows ++ r ∷ [])) (sym (is ∙ many)) seals)
