-- The three answers of an append.
-- Assumes nothing.
use Rattle.std.proofs.Common.{◌≡◌, ℕ, ◌<◌, ◌≤◌, Bool, true, false, cond, ltb, ◌⊎◌, List, [], ◌∷◌, ◌++◌, map, length, is_ok, Ok, Err, Result, sym, refl, ap, ◌∙◌, subst, inl, inr, arith}
use Rattle.std.proofs.lemmas.Bool.{lt-ltb, le-ltb, cases_Bool, cases_lt}
use Rattle.games.specs.Numbered.{Lists}
use Rattle.stores.specs.declared.fault.StoreFault.{StoreFault}
use Rattle.stores.specs.declared.fault.StoreFault.TheVariants.{Unknown, Full}
use Rattle.std.proofs.lemmas.List.{map_push}
use Rattle.stores.specs.Reading.{Row, lists_of}
use Rattle.stores.specs.Rows.{Rows, NamesLower, names_below, append_answer, append_rows}
use Rattle.stores.proofs.Lists.{lower_push}

-- an answer of append, with the rows after it
abbrev pub Answered : Rows → ℕ → Lists → Result ℕ StoreFault → Rows → Type 0
Answered rows room l r after = (r ≡ append_answer rows room l) × (after ≡ append_rows rows room l)

module _ (rows : Rows) (room : ℕ) (l : Lists) where
  by_answer : (r : Result ℕ StoreFault) → r ≡ append_answer rows room l → Answered rows room l r (cond (is_ok r) (rows ++ l ∷ []) rows)
  by_answer r e = (e, ap (λ a. cond (is_ok a) (rows ++ l ∷ []) rows) e)

  abbrev answer : Bool → Bool → Result ℕ StoreFault
  answer known space = cond known (cond space (Ok (length rows)) (Err Full)) (Err Unknown)

  module _ (n : ℕ) (known : Bool) (count : n ≡ length rows) (told : known ≡ names_below n l) where
    known_at : names_below (length rows) l ≡ known
    known_at = ap (λ m. names_below m l) (sym count) ∙ sym told

    pub says_unknown : known ≡ false → Answered rows room l (Err Unknown) rows
    says_unknown h = by_answer (Err Unknown) (sym (ap (λ k. answer k (ltb (length rows) room)) (known_at ∙ h)))

    pub says_full : known ≡ true → room ≤ length rows → Answered rows room l (Err Full) rows
    says_full h k = by_answer (Err Full) (sym (ap (λ k. answer k (ltb (length rows) room)) (known_at ∙ h) ∙ ap (answer true) (le-ltb (length rows) room k)))

    pub says_number : known ≡ true → length rows < room → Answered rows room l (Ok n) (rows ++ l ∷ [])
    says_number h k = by_answer (Ok n) (ap Ok count ∙ sym (ap (λ k. answer k (ltb (length rows) room)) (known_at ∙ h) ∙ ap (answer true) (lt-ltb (length rows) room k)))

-- the code's rows, with one more
pub rows_push : (xs ys : List Row) (r : Row) → ys ≡ xs ++ r ∷ [] → map lists_of ys ≡ map lists_of xs ++ lists_of r ∷ []
rows_push xs ys r e = ap (map lists_of) e ∙ map_push lists_of xs r

pub lower_kept : (xs ys : List Row) (r : Row) (n : ℕ) (known : Bool) → ys ≡ xs ++ r ∷ [] → NamesLower (map lists_of xs) → n ≡ length (map lists_of xs) →
    known ≡ names_below n (lists_of r) → known ≡ true → NamesLower (map lists_of ys)
lower_kept xs ys r n known e low count told h =
    subst NamesLower (sym (rows_push xs ys r e)) (lower_push (map lists_of xs) (lists_of r) low (ap (λ m. names_below m (lists_of r)) (sym count) ∙ sym told ∙ h))

-- an append that answers a number has made the row the last
pub record Taken (rows after : Rows) (room n : ℕ) (l : Lists) : Type 0 where
  pub number : n ≡ length rows
  pub space : length rows < room
  pub last : after ≡ rows ++ l ∷ []

pub taken : (rows after : Rows) (room n : ℕ) (l : Lists) → Ok n ≡ append_answer rows room l → after ≡ append_rows rows room l → Taken rows after room n l
taken rows after room n l e f = go (cases_Bool (names_below (length rows) l)) (cases_lt (length rows) room)
  where
    last_in : after ≡ rows ++ l ∷ []
    last_in = f ∙ ap (λ a. cond (is_ok a) (rows ++ l ∷ []) rows) (sym e)

    go : (names_below (length rows) l ≡ true) ⊎ (names_below (length rows) l ≡ false) → (length rows < room) ⊎ (room ≤ length rows) → Taken rows after room n l
    go (inl t) (inl s) =
        let a = (says_number rows room l (length rows) true refl (sym t) refl s).0 in
        let q : Ok n ≡ Ok (length rows) = e ∙ sym a in
        record { number = cc; space = s; last = last_in }
    go (inl t) (inr s) =
        let a = (says_full rows room l (length rows) true refl (sym t) refl s).0 in
        let q : Ok n ≡ Err Full = e ∙ sym a in
        let z : ◌≡◌ {A = ℕ} 0 1 = cc in
        absurd (omega arith)
    go (inr t) s =
        let a = (says_unknown rows room l (length rows) false refl (sym t) refl).0 in
        let q : Ok n ≡ Err Unknown = e ∙ sym a in
        let z : ◌≡◌ {A = ℕ} 0 1 = cc in
        absurd (omega arith)
