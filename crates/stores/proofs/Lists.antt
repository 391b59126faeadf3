-- Lemmas on the lists of rows.
-- Assumes nothing.
use Rattle.std.proofs.Common.{◌≡◌, ℕ, ◌<◌, ◌≤◌, true, ◌⊎◌, List, [], ◌∷◌, ◌++◌, map, length, get_or, Some, None, Decides, Option, sym, refl, ap, ap₂, ◌∙◌, inl, inr, arith, Bor}
use Rattle.std.proofs.lemmas.List.{length-map, get_or-map, get_or_past, get_or_append_left, get_or_push, length_push}
use Rattle.std.specs.Option.{option_map, unwrap_or}
use Rattle.std.proofs.lemmas.Slice.Eq.{bytes_eq-Decides}
use Rattle.std.proofs.lemmas.Bool.{cases_lt}
use Rattle.games.specs.Numbered.{Lists}
use Rattle.stores.specs.Reading.{Row, lists_of, numbers_of}
use Rattle.stores.specs.Rows.{Rows, row_at, bare, same_list, NamesLower, names_below}

-- what stands past the last of the code's rows
pub no_row : (xs : List Row) (i : ℕ) → length xs ≤ i → row_at (map lists_of xs) i ≡ bare
no_row xs i h = get_or_past (map lists_of xs) i bare (simp length-map h)

-- one row more, which names only lower numbers
pub lower_push : (rows : Rows) (l : Lists) → NamesLower rows → names_below (length rows) l ≡ true → NamesLower (rows ++ l ∷ [])
lower_push rows l low new n h = go (cases_lt n (length rows))
  where
    go : (n < length rows) ⊎ (length rows ≤ n) → names_below n (row_at (rows ++ l ∷ []) n) ≡ true
    go (inl k) = ap (names_below n) (get_or_append_left rows (l ∷ []) bare n k) ∙ low n k
    go (inr k) =
        let e : length rows ≡ n = omega (arith, length_push rows l) in
        ap (names_below n) (get_or_push rows l bare n e) ∙ ap (λ m. names_below m l) (sym e) ∙ new

pub same_list_decides : (xs ys : List ℕ) → Decides (same_list xs ys) (xs ≡ ys)
same_list_decides = bytes_eq-Decides

-- what `get` and then `unwrap_or` with an empty row give
pub row_or_bare : (xs ys : List Row) (i : ℕ) (g : Option (Bor Row)) (b r : Bor Row) → ys ≡ xs → ((d : Row) → unwrap_or (option_map (λ x. x.now) g) d ≡ get_or ys i d) → r ≡ unwrap_or g b → (numbers_of b.now.left ≡ []) × (numbers_of b.now.right ≡ []) →
    lists_of r.now ≡ row_at (map lists_of xs) i
row_or_bare xs ys i g b r e h k p = ap (λ x. lists_of x.now) k ∙ ap lists_of (read g ∙ h b.now) ∙ at ys ∙ ap (λ l. row_at (map lists_of l) i) e
  where
    read : (g : Option (Bor Row)) → (unwrap_or g b).now ≡ unwrap_or (option_map (λ x. x.now) g) b.now
    read None = refl
    read (Some x) = refl

    at : (l : List Row) → lists_of (get_or l i b.now) ≡ row_at (map lists_of l) i
    at l = elim (cases_lt i (length l)) [
      | inl k ↦ sym (get_or-map lists_of l i b.now bare k)
      | inr k ↦ ap lists_of (get_or_past l i b.now k) ∙ ap₂ (λ (ls rs : List ℕ). record { left = ls; right = rs }) p.0 p.1 ∙ sym (no_row l i k)
    ]
