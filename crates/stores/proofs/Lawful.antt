-- What holds of every store, from the list of rows that it keeps.
-- Assumes nothing.
use Rattle.std.proofs.Common.{◌≡◌, ℕ, zero, suc, ◌<◌, ◌≤◌, true, ltb, ◌⊎◌, List, [], ◌∷◌, map, length, get_or, vec_items, refl, ap, ◌∙◌, inl, inr, arith}
use Rattle.std.proofs.lemmas.List.{length-map, length-take}
use Rattle.std.proofs.lemmas.Bool.{ltb-true, and_parts, cases_lt}
use Rattle.games.specs.declared.side.Side.{Side}
use Rattle.games.specs.declared.side.Side.TheVariants.{Left, Right}
use Rattle.games.specs.Numbered.{Lists, list_of}
use Rattle.stores.specs.declared.numbers.Numbers.{Numbers}
use Rattle.stores.specs.declared.row_list.RowList.{RowList}
use Rattle.stores.specs.Kept.{rows_in}
use Rattle.stores.specs.Reading.{Row, numbers_of, lists_of}
use Rattle.stores.specs.Rows.{Lawful, NamesLower, row_at, bare, all_below, names_below}
use Rattle.stores.proofs.Lists.{no_row}

below_at : (n : ℕ) (xs : List ℕ) (i : ℕ) → all_below n xs ≡ true → i < length xs → get_or xs i 0 < n
below_at n [] i h k = absurd (omega arith)
below_at n (x ∷ xs) zero h k = ltb-true x n (and_parts (ltb x n) (all_below n xs) h).0
below_at n (x ∷ xs) (suc i) h k = below_at n xs i (and_parts (ltb x n) (all_below n xs) h).1 (omega arith)

names_at : (z : Side) (n : ℕ) (l : Lists) (i : ℕ) → names_below n l ≡ true → i < length (list_of z l) → get_or (list_of z l) i 0 < n
names_at Left n l i h k = below_at n l.left i (and_parts (all_below n l.left) (all_below n l.right) h).0 k
names_at Right n l i h k = below_at n l.right i (and_parts (all_below n l.left) (all_below n l.right) h).1 k

few_numbers : {most : ℕ} (x : Numbers most) → length (numbers_of x) ≤ most
few_numbers x = omega (arith, length-take x.count x.items, x.few)

few_in_row : (z : Side) (r : Row) → length (list_of z (lists_of r)) ≤ 16
few_in_row Left r = few_numbers r.left
few_in_row Right r = few_numbers r.right

none_in_bare : (z : Side) → length (list_of z bare) ≡ 0
none_in_bare Left = refl
none_in_bare Right = refl

module _ (xs : List Row) where
  past : (z : Side) (n : ℕ) → length xs ≤ n → length (list_of z (row_at (map lists_of xs) n)) ≡ 0
  past z n h = ap (λ l. length (list_of z l)) (no_row xs n h) ∙ none_in_bare z

few_at : (xs : List Row) (z : Side) (n : ℕ) → length (list_of z (row_at (map lists_of xs) n)) ≤ 16
few_at [] z n = omega (arith, past [] z n (omega arith))
few_at (r ∷ xs) z zero = few_in_row z r
few_at (r ∷ xs) z (suc n) = few_at xs z n

lower_at : (xs : List Row) → NamesLower (map lists_of xs) → (z : Side) (n i : ℕ) → i < length (list_of z (row_at (map lists_of xs) n)) → get_or (list_of z (row_at (map lists_of xs) n)) i 0 < n
lower_at xs low z n i h = go (cases_lt n (length xs))
  where
    go : (n < length xs) ⊎ (length xs ≤ n) → get_or (list_of z (row_at (map lists_of xs) n)) i 0 < n
    go (inl k) = names_at z n (row_at (map lists_of xs) n) i (low n (simp length-map k)) h
    go (inr k) = absurd (omega (arith, past xs z n k))

pub list_lawful : (l : RowList) → Lawful (rows_in l) l.capacity
list_lawful l = record {
  some_room = l.some_room;
  most_room = l.most_room;
  fits = simp length-map (omega arith);
  few = few_at (vec_items l.rows);
  lower = lower_at (vec_items l.rows) l.lower;
}
