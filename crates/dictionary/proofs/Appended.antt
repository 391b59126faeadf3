-- What a store answers to a row that names its nodes, and the rows then.
-- Assumes nothing.
use Rattle.std.proofs.Common.{◌≡◌, ℕ, ◌<◌, ◌≤◌, Bool, true, false, cond, ◌&&◌, ltb, leb, List, [], ◌∷◌, ◌++◌, length, is_ok, Some, None, Ok, Err, Option, Result, sym, refl, ap, ◌∙◌, arith, ltb-false, ltb-true, lt-ltb, le-leb}
use Rattle.std.specs.List.{AllByRecursion}
use Rattle.std.specs.Option.{option_map}
use Rattle.games.specs.declared.side.Side.TheVariants.{Left, Right}
use Rattle.games.specs.Numbered.{Lists}
use Rattle.nodesets.specs.Pairs.{Sets}
use Rattle.sealing.specs.declared.tables.Tables.{Tables}
use Rattle.sealing.specs.Seals.{Narrow, row_of}
use Rattle.stores.specs.declared.fault.StoreFault.{StoreFault}
use Rattle.stores.specs.declared.fault.StoreFault.TheVariants.{Unknown, Full}
use Rattle.stores.specs.Reading.{Row, lists_of}
use Rattle.stores.specs.Rows.{Rows, all_below, append_answer, append_rows, names_below}
use Rattle.calls.specs.Rows.{Below}
use Rattle.dictionary.specs.Kept.{row_for}

below_all : (n : ℕ) (xs : List ℕ) → AllByRecursion (λ m. m < n) xs → all_below n xs ≡ true
below_all n [] a = refl
below_all n (x ∷ xs) a = let h = lt-ltb x n a.0 in let k = below_all n xs a.1 in simp (h, k)

pub names : (n : ℕ) (l : Lists) → Below n l → names_below n l ≡ true
names n l b = let h = below_all n l.left b.on_left in let k = below_all n l.right b.on_right in simp (h, k)

ok_case : (b d : Bool) (m n : ℕ) → ◌≡◌ {A = Result ℕ StoreFault} (Ok m) (cond b (cond d (Ok n) (Err Full)) (Err Unknown)) → (d ≡ true) × (m ≡ n)
ok_case true true m n e = (refl, cc)
ok_case true false m n e = let z : ◌≡◌ {A = ℕ} 0 1 = cc in absurd (omega arith)
ok_case false d m n e = let z : ◌≡◌ {A = ℕ} 0 1 = cc in absurd (omega arith)

err_case : (b d : Bool) (f : StoreFault) (n : ℕ) → b ≡ true → ◌≡◌ {A = Result ℕ StoreFault} (Err f) (cond b (cond d (Ok n) (Err Full)) (Err Unknown)) → (d ≡ false) × (f ≡ Full)
err_case true true f n u e = let z : ◌≡◌ {A = ℕ} 0 1 = cc in absurd (omega arith)
err_case true false f n u e = (refl, cc)
err_case false d f n u e = let z : ◌≡◌ {A = ℕ} 0 1 = cc in absurd (omega arith)

module _ (rows : Rows) (room : ℕ) (l : Lists) where
  pub taken : (n : ℕ) → Ok n ≡ append_answer rows room l → (n ≡ length rows) × (length rows < room) × (append_rows rows room l ≡ rows ++ l ∷ [])
  taken n e =
      let (d, m) = ok_case (names_below (length rows) l) (ltb (length rows) room) n (length rows) e in
      (m, ltb-true (length rows) room d, ap (λ a. cond (is_ok a) (rows ++ l ∷ []) rows) (sym e))

  pub refused_full : Below (length rows) l → (f : StoreFault) → Err f ≡ append_answer rows room l → (f ≡ Full) × (room ≤ length rows) × (append_rows rows room l ≡ rows)
  refused_full b f e =
      let (d, m) = err_case (names_below (length rows) l) (ltb (length rows) room) f (length rows) (names (length rows) l b) e in
      (m, ltb-false (length rows) room d, ap (λ a. cond (is_ok a) (rows ++ l ∷ []) rows) (sym e))

some_case : (b : Bool) (x y : Lists) → Some x ≡ cond b (Some y) None → x ≡ y
some_case true x y e = cc
some_case false x y e = let z : ◌≡◌ {A = ℕ} 0 1 = cc in absurd (omega arith)

-- the row that was made has the lists of the sets
pub row_is : (t : Tables) (o : Sets) (r : Option Row) (x : Row) → option_map lists_of r ≡ row_for t o → r ≡ Some x → lists_of x ≡ row_of t o
row_is t o r x e f = some_case (leb (length (row_of t o).left) 16 && leb (length (row_of t o).right) 16) (lists_of x) (row_of t o) (ap (option_map lists_of) (sym f) ∙ e)

none_case : (b : Bool) (x : Lists) → b ≡ true → None ≡ cond b (Some x) None → ⊥
none_case true x u e = let z : ◌≡◌ {A = ℕ} 0 1 = cc in omega arith
none_case false x u e = let z : ◌≡◌ {A = ℕ} 0 1 = cc in omega arith

-- narrow sets have a row
pub row_there : (t : Tables) (o : Sets) (r : Option Row) → option_map lists_of r ≡ row_for t o → r ≡ None → Narrow (row_of t o) → ⊥
row_there t o r e f n =
    let h = le-leb (length (row_of t o).left) 16 (n Left) in
    let k = le-leb (length (row_of t o).right) 16 (n Right) in
    none_case (leb (length (row_of t o).left) 16 && leb (length (row_of t o).right) 16) (row_of t o) (simp (h, k)) (ap (option_map lists_of) (sym f) ∙ e)
