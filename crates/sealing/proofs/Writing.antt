-- The listed nodes of a set, written to a buffer.
-- Assumes nothing.
use Rattle.std.proofs.Common.{◌≡◌, ℕ, suc, ◌+◌, ◌<◌, ◌≤◌, List, [], ◌∷◌, ◌++◌, length, get_or, take, drop, set, sym, refl, ap, ◌∙◌, add-one, arith, drop-cons}
use Rattle.std.proofs.lemmas.List.{append_assoc, length_push, set_at, take_all, take-append-le, drop_all}

-- the buffer with xs at its front, as far as it reaches
abbrev pub written : List ℕ → List ℕ → List ℕ
written b xs = take (length b) xs ++ drop (length xs) b

pub written_none : (b : List ℕ) → written b [] ≡ b
written_none [] = refl
written_none (x ∷ b) = refl

pub write_more : (b xs : List ℕ) (x : ℕ) → length xs < length b → set (written b xs) (length xs) x ≡ written b (xs ++ (x ∷ []))
write_more b xs x h =
    ap (λ z. set (z ++ drop (length xs) b) (length xs) x) (take_all (length b) xs (omega arith))
    ∙ ap (λ z. set (xs ++ z) (length xs) x) (drop-cons b (length xs) 0 h)
    ∙ set_at xs (get_or b (length xs) 0) (drop (suc (length xs)) b) x (length xs) refl
    ∙ sym after
  where
    more : length (xs ++ (x ∷ [])) ≡ length xs + 1
    more = length_push xs x

    after : written b (xs ++ (x ∷ [])) ≡ xs ++ (x ∷ drop (suc (length xs)) b)
    after =
        ap (λ z. z ++ drop (length (xs ++ (x ∷ []))) b) (take_all (length b) (xs ++ (x ∷ [])) (let m = more in omega arith))
        ∙ ap (λ n. (xs ++ (x ∷ [])) ++ drop n b) (more ∙ add-one (length xs)) ∙ append_assoc xs (x ∷ []) (drop (suc (length xs)) b)

pub write_full : (b xs : List ℕ) (x : ℕ) → length b ≤ length xs → written b xs ≡ written b (xs ++ (x ∷ []))
write_full b xs x h =
    ap (λ z. take (length b) xs ++ z) (drop_all (length xs) b h ∙ sym (drop_all (length (xs ++ (x ∷ []))) b (let m = length_push xs x in omega arith)))
    ∙ ap (λ z. z ++ drop (length (xs ++ (x ∷ []))) b) (sym (take-append-le (length b) xs (x ∷ []) h))
