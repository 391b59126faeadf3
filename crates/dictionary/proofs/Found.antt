-- A store has no row with more than 16 numbers on a side.
-- Assumes nothing.
use Rattle.std.proofs.Common.{◌≡◌, ℕ, ◌≤◌, Bool, true, false, cond, ◌&&◌, leb, List, length, Some, None, subst, arith}
use Rattle.std.proofs.lemmas.Bool.{le-leb}
use Rattle.games.specs.declared.side.Side.TheVariants.{Left, Right}
use Rattle.games.specs.Numbered.{Lists, list_of}
use Rattle.stores.specs.Rows.{Rows, Lawful, row_of_lists, lowest}
use Rattle.stores.proofs.Lowest.{lowest_is}

pub none_so_long : (rows : Rows) (room : ℕ) → Lawful rows room → (x y : List ℕ) → None ≡ row_of_lists x y → None ≡ lowest rows (record { left = x; right = y })
none_so_long rows room law x y e = lowest_is rows l None (λ k a b h. never (subst (λ r. length (list_of Left r) ≤ 16) h (law.few Left k)) (subst (λ r. length (list_of Right r) ≤ 16) h (law.few Right k)))
  where
    l : Lists
    l = record { left = x; right = y }

    never : length x ≤ 16 → length y ≤ 16 → ⊥
    never p q =
        let s : leb (length x) 16 ≡ true = le-leb (length x) 16 p in
        let t : leb (length y) 16 ≡ true = le-leb (length y) 16 q in
        let r : row_of_lists x y ≡ Some (record { left = x; right = y }) = simp (s, t) in
        let z : ◌≡◌ {A = ℕ} 0 1 = cc in omega arith

-- the row of two lists has just them
pub lists_in : (x y : List ℕ) (l : Lists) → Some l ≡ row_of_lists x y → l ≡ record { left = x; right = y }
lists_in x y l = go (leb (length x) 16 && leb (length y) 16)
  where
    go : (b : Bool) → Some l ≡ cond b (Some (record { left = x; right = y })) None → l ≡ record { left = x; right = y }
    go true e = cc
    go false e = let z : ◌≡◌ {A = ℕ} 0 1 = cc in absurd (omega arith)
