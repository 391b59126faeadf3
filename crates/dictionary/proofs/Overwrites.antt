-- A text written into a buffer part by part, each behind the one before it.
-- Assumes nothing.
use Rattle.std.proofs.Common.{◌≡◌, ℕ, zero, suc, ◌+◌, ◌<◌, ◌≤◌, List, [], ◌∷◌, ◌++◌, length, take, drop, set, sym, ap, ◌∙◌, ap₂, subst, add_assoc, add-one, arith}
use Rattle.std.proofs.lemmas.List.{append_assoc, append-nil, drop_at, drop-drop, length-append, length-take-le, length-drop, set_split, take_at}
use Rattle.dictionary.specs.Printing.{over}
use Rattle.dictionary.specs.Writing.{Wrote}
use Rattle.dictionary.specs.declared.writer.Writer.{Writer}
use Rattle.dictionary.proofs.Texts.{gap}

over_length : (xs : List ℕ) (place : ℕ) (ys : List ℕ) → place + length ys ≤ length xs → length (over xs place ys) ≡ length xs
over_length xs place ys h =
    let a = length-append (take place xs) (ys ++ drop (place + length ys) xs) in
    let b = length-append ys (drop (place + length ys) xs) in
    let c = length-drop (place + length ys) xs in
    let d = length-take-le place xs (omega arith) in
    omega arith

-- one part behind another
over_over : (xs : List ℕ) (place : ℕ) (ys zs : List ℕ) → place + (length ys + length zs) ≤ length xs → over (over xs place ys) (place + length ys) zs ≡ over xs place (ys ++ zs)
over_over xs place ys zs h =
    let front = take place xs ++ ys in
    let rest = drop (place + length ys) xs in
    let split : over xs place ys ≡ front ++ rest = sym (append_assoc (take place xs) ys rest) in
    let d : length (take place xs) ≡ place = length-take-le place xs (omega arith) in
    let m : length front ≡ place + length ys = length-append (take place xs) ys ∙ ap (λ n. n + length ys) d in
    let a : take (place + length ys) (over xs place ys) ≡ front = ap (take (place + length ys)) split ∙ take_at front rest (place + length ys) m in
    let e : drop (place + length ys + length zs) (over xs place ys) ≡ drop (place + length (ys ++ zs)) xs =
    sym (drop-drop (length zs) (place + length ys) (over xs place ys))
    ∙ ap (drop (length zs)) (ap (drop (place + length ys)) split ∙ drop_at front rest (place + length ys) m)
    ∙ drop-drop (length zs) (place + length ys) xs
    ∙ ap (λ n. drop n xs) (add_assoc place (length ys) (length zs) ∙ ap (λ n. place + n) (sym (length-append ys zs))) in
    ap₂ (λ s t. s ++ (zs ++ t)) a e
    ∙ append_assoc (take place xs) ys (zs ++ drop (place + length (ys ++ zs)) xs)
    ∙ ap (λ t. take place xs ++ t) (sym (append_assoc ys zs (drop (place + length (ys ++ zs)) xs)))

-- one byte
pub over_one : (xs : List ℕ) (place y : ℕ) → place < length xs → set xs place y ≡ over xs place (y ∷ [])
over_one xs place y h = set_split xs place y h ∙ ap (λ n. take place xs ++ y ∷ drop n xs) (sym (add-one place))

module _ (xs : List ℕ) (place : ℕ) (t now : List ℕ) (end : ℕ) (so_far : now ≡ over xs place t) (at_end : end ≡ place + length t) where
  -- a part more
  pub then_part : (u later : List ℕ) → place + (length t + length u) ≤ length xs → later ≡ over now end u → later ≡ over xs place (t ++ u)
  then_part u later h e = e ∙ ap₂ (λ a n. over a n u) so_far at_end ∙ over_over xs place t u h

  -- a byte more
  pub then_byte : (y : ℕ) → place + (length t + 1) ≤ length xs → set now end y ≡ over xs place (t ++ y ∷ [])
  then_byte y h =
      let k : length now ≡ length xs = ap length so_far ∙ over_length xs place t (omega arith) in
      then_part (y ∷ []) (set now end y) h (over_one now end y (omega arith))

-- what a writer writes
module _ (a b : Writer) (t : List ℕ) (w : Wrote a b t) where
  -- the room that is left behind a part
  pub wrote_room : (k : ℕ) → a.place + (length t + k) ≤ length a.out.now → b.place + k ≤ length b.out.now
  wrote_room k h =
      let l = ap length w.written ∙ over_length a.out.now a.place t (omega arith) in
      let e = w.behind in
      omega arith

  -- a part more
  pub wrote_more : (c : Writer) (u : List ℕ) → a.place + (length t + length u) ≤ length a.out.now → Wrote b c u → Wrote a c (t ++ u)
  wrote_more c u h v = record {
    same_buffer = v.same_buffer ∙ w.same_buffer;
    written = then_part a.out.now a.place t b.out.now b.place w.written w.behind u c.out.now h v.written;
    behind = let e = w.behind in let k = v.behind in let l = length-append t u in omega arith;
  }

  -- a comma, unless what follows is the first
  pub comma_written : (c : Writer) (i : ℕ) → 0 < i → a.place + (length t + 1) ≤ length a.out.now → Wrote b c (44 ∷ []) → Wrote a c (t ++ gap i)
  comma_written c zero h k v = absurd (omega arith)
  comma_written c (suc i) h k v = wrote_more c (44 ∷ []) k v

  pub comma_left_out : (i : ℕ) → i ≤ 0 → Wrote a b (t ++ gap i)
  comma_left_out zero h = subst (Wrote a b) (sym (append-nil t)) w
  comma_left_out (suc i) h = absurd (omega arith)

-- a text in its bracket
module _ (a b₁ b₂ b₃ b₄ b₅ : Writer) (l r : List ℕ) (fits : a.place + (3 + (length l + length r)) ≤ length a.out.now)
    (open_written : Wrote a b₁ (123 ∷ [])) (left_written : Wrote b₁ b₂ l) (bar_written : Wrote b₂ b₃ (124 ∷ [])) (right_written : Wrote b₃ b₄ r) (close_written : Wrote b₄ b₅ (125 ∷ [])) where
  pub wrote_whole : Wrote a b₅ (123 ∷ (l ++ (124 ∷ (r ++ 125 ∷ []))))
  wrote_whole =
      let t₂ = 123 ∷ l in
      let w₂ : Wrote a b₂ t₂ = wrote_more a b₁ (123 ∷ []) open_written b₂ l (omega arith) left_written in
      let t₃ = t₂ ++ 124 ∷ [] in
      let w₃ : Wrote a b₃ t₃ = wrote_more a b₂ t₂ w₂ b₃ (124 ∷ []) (omega arith) bar_written in
      let n₃ = length-append t₂ (124 ∷ []) in
      let t₄ = t₃ ++ r in
      let w₄ : Wrote a b₄ t₄ = wrote_more a b₃ t₃ w₃ b₄ r (omega arith) right_written in
      let n₄ = length-append t₃ r in
      let w₅ : Wrote a b₅ (t₄ ++ 125 ∷ []) = wrote_more a b₄ t₄ w₄ b₅ (125 ∷ []) (omega arith) close_written in
      subst (Wrote a b₅) (append_assoc t₃ r (125 ∷ []) ∙ append_assoc t₂ (124 ∷ []) (r ++ 125 ∷ [])) w₅
