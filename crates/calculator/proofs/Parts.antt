-- Parts written one behind the other, at the front of a buffer.
-- Assumes nothing.
use Rattle.std.proofs.Common.{◌≡◌, ℕ, ◌+◌, ◌-◌, ◌<◌, ◌≤◌, List, [], ◌++◌, length, take, drop, get_or, Bor, sym, ap, ◌∙◌, arith}
use borrow.Rule.Slice.PartMut.{put_mid}
use Rattle.std.specs.List.{flat_map}
use Rattle.std.proofs.lemmas.List.{drop-drop, flat_map_more, length-append, take_more}
use Rattle.std.proofs.lemmas.List.Folds.{length-flat_map-take}
use Rattle.dictionary.specs.Printing.{over}
use Rattle.dictionary.proofs.Overwrites.{then_part}

abbrev pub joined : List (Bor (List ℕ)) → List ℕ
joined = flat_map (λ part. part.now)

-- what is read past the last part
abbrev pub no_part : Bor (List ℕ)
no_part = record { ref_ptr = (0, 0); now = [] }

put_over : (xs ys : List ℕ) (place : ℕ) → put_mid place (place + length ys - place) xs ys ≡ over xs place ys
put_over xs ys place =
    let e : place + length ys - place ≡ length ys = omega arith in
    ap (λ n. take place xs ++ (ys ++ drop n (drop place xs))) e ∙ ap (λ zs. take place xs ++ (ys ++ zs)) (drop-drop (length ys) place xs)

module _ (parts : List (Bor (List ℕ))) (i : ℕ) (more : i < length parts) where
  abbrev part : List ℕ
  part = (get_or parts i no_part).now

  pub part_fits : length (joined (take i parts)) + length part ≤ length (joined parts)
  part_fits = length-flat_map-take (λ p. p.now) parts i no_part more

  joined_more : joined (take (i + 1) parts) ≡ joined (take i parts) ++ part
  joined_more = ap joined (take_more parts i no_part more) ∙ sym (flat_map_more (λ p. p.now) [] (take i parts) (get_or parts i no_part))

  -- one part more
  pub part_put : (xs now copied : List ℕ) (end : ℕ) → length (joined parts) ≤ length xs → end ≡ length (joined (take i parts)) → now ≡ over xs 0 (joined (take i parts)) → copied ≡ part
      → (end + length part ≡ length (joined (take (i + 1) parts))) × (put_mid end (end + length part - end) now copied ≡ over xs 0 (joined (take (i + 1) parts)))
  part_put xs now copied end room at_end so_far is =
      let grown = ap length joined_more ∙ length-append (joined (take i parts)) part in
      let fits = part_fits in
      let placed : put_mid end (end + length part - end) now copied ≡ over now end part = ap (put_mid end (end + length part - end) now) is ∙ put_over now part end in
      (omega arith, then_part xs 0 (joined (take i parts)) now end so_far (omega arith) part _ (omega arith) placed ∙ ap (over xs 0) (sym joined_more))
