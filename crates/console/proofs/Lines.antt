-- How the lines of some bytes are found at their front, and what is kept of a line.
-- Assumes nothing.
use Rattle.std.proofs.Common.{◌≡◌, ◌≢◌, ℕ, zero, suc, true≢false, IfSome, Result, Ok, Err, OnOk, is_ok, get_or-take, ltb, ◌+◌, ◌-◌, ◌<◌, ◌≤◌, min, Bool, true, false, not, eqb, eqb-true, eq-eqb, ne_eqb, cond, List, [], ◌∷◌, ◌++◌, length, take, get_or, All, Some, None, Option, refl, sym, ap, subst, ◌∙◌, arith, length-take, append_assoc, append-nil, take_all}
use Rattle.std.proofs.lemmas.Bool.{ltb-false}
use Rattle.std.specs.Prelude.{position, ◌==◌}
use Rattle.std.specs.Io.KnownBytes.{Consumes, Keeps}
use Rattle.std.specs.List.{position_or_len}
use Rattle.std.proofs.Math.Seq.{take-append-add}
use Rattle.std.proofs.lemmas.List.{take_min, take_more}
use Rattle.std.proofs.lemmas.List.Elements.{All-append, All-nil, All-head, All-tail, All-from_get_or}
use Rattle.std.proofs.lemmas.List.Quantifiers.{position-Some}
use Rattle.std.proofs.lemmas.List.Sums.{fails_before_first}
use Rattle.console.specs.declared.serving.Stop.{Stop}
use Rattle.console.specs.declared.serving.Stop.TheVariants.{Break, End, Nowhere}
use Rattle.console.specs.Serving.{lengthen, lines_of, kept, Takes, nowhere, break, end, TakesLine, some, none}

-- none of the bytes is a line break
abbrev pub Unbroken : List ℕ → Type 0
Unbroken bytes = All (λ b. b ≢ 10) bytes

-- ---- the lines of some bytes

-- what stands before a line break is a line
pub lines_broken : (part rest : List ℕ) → Unbroken part → lines_of (part ++ (10 ∷ rest)) ≡ part ∷ lines_of rest
lines_broken [] rest h = refl
lines_broken (b ∷ bs) rest h =
    ap (λ t. cond t ([] ∷ lines_of (bs ++ (10 ∷ rest))) (lengthen b (lines_of (bs ++ (10 ∷ rest))))) (ne_eqb b 10 (All-head (λ x. x ≢ 10) b bs h))
    ∙ ap (lengthen b) (lines_broken bs rest (All-tail (λ x. x ≢ 10) b bs h))

-- so are some bytes with no line break
pub lines_unbroken : (b : ℕ) (bs : List ℕ) → Unbroken (b ∷ bs) → lines_of (b ∷ bs) ≡ (b ∷ bs) ∷ []
lines_unbroken b [] h = ap (λ t. cond t ([] ∷ []) ((b ∷ []) ∷ [])) (ne_eqb b 10 (All-head (λ x. x ≢ 10) b [] h))
lines_unbroken b (c ∷ cs) h =
    ap (λ t. cond t ([] ∷ lines_of (c ∷ cs)) (lengthen b (lines_of (c ∷ cs)))) (ne_eqb b 10 (All-head (λ x. x ≢ 10) b (c ∷ cs) h))
    ∙ ap (lengthen b) (lines_unbroken c cs (All-tail (λ x. x ≢ 10) b (c ∷ cs) h))

-- ---- what is kept of a line

-- a part behind a line of m bytes, as far as n bytes have room
pub take_room : (line part : List ℕ) (m n : ℕ) → m ≡ length line → m ≤ n → line ++ take (min (length part) (n - m)) part ≡ take n (line ++ part)
take_room line part m n is fits =
    let whole : length line + (n - m) ≡ n = omega arith in
    let turned : min (length part) (n - m) ≡ min (n - m) (length part) = omega arith in
    ap (λ k. line ++ take k part) turned ∙ ap (λ l. line ++ l) (take_min (n - m) part)
    ∙ sym (take-append-add line part (n - m)) ∙ ap (λ k. take k (line ++ part)) whole

-- more behind the first bytes of a line
pub take_behind : (n : ℕ) (line part : List ℕ) → take n (take n line ++ part) ≡ take n (line ++ part)
take_behind zero line part = refl
take_behind (suc n) [] part = refl
take_behind (suc n) (b ∷ bs) part = ap (λ l. b ∷ l) (take_behind n bs part)

pub kept_behind : (line part : List ℕ) → kept (kept line ++ part) ≡ kept (line ++ part)
kept_behind line part = take_behind 1001 line part

-- a part put behind what is kept
pub keeps_more : {A E : Type 0} (r : Result A E) (line part items : List ℕ) (m n : ℕ) → length line ≤ 1001 → m ≡ length line → n ≡ min (length part) (1001 - m) → items ≡ cond (is_ok r) (line ++ take n part) line
    → OnOk r (items ≡ kept (line ++ part))
keeps_more (Err e) line part items m n short long room is = tt
keeps_more (Ok x) line part items m n short long room is = is ∙ ap (λ k. line ++ take k part) room ∙ take_room line part m 1001 long (omega arith)

-- ---- a line, found part by part

-- no line break was found, and so much of the line was kept
pub record Begun (bytes line rest : List ℕ) : Type 0 where
  pub done : List ℕ
  pub unbroken : Unbroken done
  pub front : bytes ≡ done ++ rest
  pub keeps : line ≡ kept done

pub begun : (bytes : List ℕ) → Begun bytes [] bytes
begun bytes = record { done = []; unbroken = All-nil (λ b. b ≢ 10); front = refl; keeps = refl }

-- the first line break, if there is one
pub break_found : (bytes : List ℕ) (i : ℕ) → position (λ b. b == 10) bytes ≡ Some i → (i < length bytes) × Unbroken (take i bytes) × (take (i + 1) bytes ≡ take i bytes ++ (10 ∷ []))
break_found bytes i e =
    let at = position-Some (λ b. b == 10) bytes i 0 e in
    let within : i < length bytes = at.0 in
    let before : Unbroken (take i bytes) = All-from_get_or (λ b. b ≢ 10) (take i bytes) 0 (λ k in_front is.
    let below : k < i = omega (arith, length-take i bytes) in
    true≢false (sym (eq-eqb _ 10 (sym (get_or-take i bytes k 0 below) ∙ is)) ∙ at.2 k below)) in
    let here : get_or bytes i 0 ≡ 10 = eqb-true _ 10 at.1 in
    (within, before, take_more bytes i 0 within ∙ ap (λ b. take i bytes ++ (b ∷ [])) here)

some_none : {A : Type 0} {x : A} → ◌≡◌ {A = Option A} (Some x) None → ⊥
some_none e = let z : ◌≡◌ {A = ℕ} 0 1 = cc in omega arith

past_all : (n : ℕ) (m : ℕ) → cond (ltb n m) (Some n) None ≡ None → m ≤ n
past_all n m e = at (ltb n m) refl
  where
    at : (t : Bool) → ltb n m ≡ t → m ≤ n
    at true is = absurd (some_none (sym (ap (λ t. cond t (Some n) None) is) ∙ e))
    at false is = ltb-false n m is

pub no_break_found : (bytes : List ℕ) → position (λ b. b == 10) bytes ≡ None → Unbroken bytes
no_break_found bytes e =
    let p = λ (b : ℕ). b == 10 in
    let far : length bytes ≤ position_or_len p bytes = past_all _ _ e in
    All-from_get_or (λ b. b ≢ 10) bytes 0 (λ k within is.
    true≢false (sym (eq-eqb _ 10 is) ∙ fails_before_first p bytes k 0 (omega arith)))

-- the line goes on
pub goes_on : (bytes line after left rest : List ℕ) → Begun bytes line left → Takes line left after rest Nowhere → Begun bytes after rest
goes_on bytes line after left rest b (nowhere part whole splits keeps) = record {
  done = b.done ++ part;
  unbroken = All-append (λ x. x ≢ 10) b.done part b.unbroken whole;
  front = b.front ∙ ap (λ l. b.done ++ l) splits ∙ sym (append_assoc b.done part rest);
  keeps = keeps ∙ ap (λ l. kept (l ++ part)) b.keeps ∙ kept_behind b.done part;
}

-- the line ends with a line break
pub breaks : (bytes line after left rest : List ℕ) → Begun bytes line left → Takes line left after rest Break → TakesLine bytes after rest true
breaks bytes line after left rest b (break part whole splits keeps) =
    let front = b.front ∙ ap (λ l. b.done ++ l) splits ∙ sym (append_assoc b.done part (10 ∷ rest)) in
    some (b.done ++ part)
    (ap lines_of front ∙ lines_broken (b.done ++ part) rest (All-append (λ x. x ≢ 10) b.done part b.unbroken whole))
    (keeps ∙ ap (λ l. kept (l ++ part)) b.keeps ∙ kept_behind b.done part)

-- the bytes end: there is a last line if anything was kept
pub ends : (bytes line after left rest : List ℕ) (empty : Bool) → Begun bytes line left → Takes line left after rest End → empty ≡ eqb (length after) 0 → TakesLine bytes after rest (not empty)
ends bytes line after left rest empty b (end nothing gone keeps) is_empty = last b.done refl empty is_empty
  where
    all : bytes ≡ b.done
    all = b.front ∙ ap (λ l. b.done ++ l) nothing ∙ append-nil b.done

    is_kept : after ≡ kept b.done
    is_kept = keeps ∙ b.keeps

    last : (done : List ℕ) → b.done ≡ done → (t : Bool) → t ≡ eqb (length after) 0 → TakesLine bytes after rest (not t)
    last [] is true e = none (all ∙ is) gone
    last [] is false e = absurd (true≢false (sym (eq-eqb (length after) 0 (ap length (is_kept ∙ ap kept is))) ∙ sym e))
    last (c ∷ cs) is true e = absurd (omega (arith, eqb-true (length after) 0 (sym e), ap length (is_kept ∙ ap kept is)))
    last (c ∷ cs) is false e = some (c ∷ cs)
        (ap lines_of (all ∙ is) ∙ lines_unbroken c cs (subst Unbroken is b.unbroken) ∙ ap (λ l. (c ∷ cs) ∷ lines_of l) (sym gone))
        (is_kept ∙ ap kept is)

-- ---- where the bytes that are left are known

-- some are left, and so it is between what was left and what is
abbrev pub Between : Option (List ℕ) → Option (List ℕ) → (List ℕ → List ℕ → Type 0) → Type 0
Between old new P = IfSome old (λ bytes. (rest : List ℕ) × (new ≡ Some rest) × P bytes rest)

pub between : (a b c : Option (List ℕ)) (P Q R : List ℕ → List ℕ → Type 0) → Between a b P → Between b c Q → ((bytes mid rest : List ℕ) → P bytes mid → Q mid rest → R bytes rest) → Between a c R
between None b c P Q R p q join = tt
between (Some bytes) b c P Q R p q join =
    let on : Between (Some p.0) c Q = subst (λ o. Between o c Q) p.1 q in
    (on.0, on.1, join bytes p.0 on.0 p.2 on.2)

-- nothing was at hand, for now
pub part_none : (a b : Option (List ℕ)) (line : List ℕ) → length line ≤ 1001 → Keeps a b → Between a b (λ bytes rest. Takes line bytes line rest Nowhere)
part_none None b line short h = tt
part_none (Some bytes) None line short h = absurd h
part_none (Some bytes) (Some rest) line short h = (rest, refl, nowhere [] (All-nil (λ b. b ≢ 10)) (sym h) (sym (ap kept (append-nil line) ∙ take_all 1001 line short)))

-- nothing is left
pub part_end : (a b : Option (List ℕ)) (line : List ℕ) (n : ℕ) → n ≡ 0 → IfSome a (λ bytes. n ≡ 0 → bytes ≡ []) → Keeps a b → Between a b (λ bytes rest. Takes line bytes line rest End)
part_end None b line n nothing gone h = tt
part_end (Some bytes) None line n nothing gone h = absurd h
part_end (Some bytes) (Some rest) line n nothing gone h = (rest, refl, end (gone nothing) (h ∙ gone nothing) refl)

-- what is at hand has a line break
pub part_broken : (a b : Option (List ℕ)) (line after shown : List ℕ) (i : ℕ) → position (λ b. b == 10) shown ≡ Some i → after ≡ kept (line ++ take i shown) → Consumes a b (take (i + 1) shown)
    → Between a b (λ bytes rest. Takes line bytes after rest Break)
part_broken None b line after shown i e keeps h = tt
part_broken (Some bytes) None line after shown i e keeps h = absurd h
part_broken (Some bytes) (Some rest) line after shown i e keeps h =
    let (within, before, front) = break_found shown i e in
    (rest, refl, break (take i shown) before (h ∙ ap (λ l. l ++ rest) front ∙ append_assoc (take i shown) (10 ∷ []) rest) keeps)

-- and has none
pub part_unbroken : (a b : Option (List ℕ)) (line after shown : List ℕ) (n : ℕ) → position (λ b. b == 10) shown ≡ None → after ≡ kept (line ++ shown) → n ≡ length shown → Consumes a b (take n shown)
    → Between a b (λ bytes rest. Takes line bytes after rest Nowhere)
part_unbroken None b line after shown n e keeps all h = tt
part_unbroken (Some bytes) None line after shown n e keeps all h = absurd h
part_unbroken (Some bytes) (Some rest) line after shown n e keeps all h =
    (rest, refl, nowhere shown (no_break_found shown e) (h ∙ ap (λ l. l ++ rest) (take_all n shown (omega arith))) keeps)

pub between_begun : (a : Option (List ℕ)) → Between a a (λ bytes rest. Begun bytes [] rest)
between_begun None = tt
between_begun (Some bytes) = (bytes, refl, begun bytes)

pub between_goes_on : (a b c : Option (List ℕ)) (line after : List ℕ) (stop : Stop) → Between a b (λ bytes left. Begun bytes line left) → Between b c (λ left rest. Takes line left after rest stop) → stop ≡ Nowhere
    → Between a c (λ bytes rest. Begun bytes after rest)
between_goes_on a b c line after stop p q is = between a b c (λ bytes left. Begun bytes line left) (λ left rest. Takes line left after rest stop) (λ bytes rest. Begun bytes after rest) p q
    (λ bytes left rest s t. goes_on bytes line after left rest s (subst (Takes line left after rest) is t))

pub between_breaks : (a b c : Option (List ℕ)) (line after : List ℕ) (stop : Stop) → Between a b (λ bytes left. Begun bytes line left) → Between b c (λ left rest. Takes line left after rest stop) → stop ≡ Break
    → Between a c (λ bytes rest. TakesLine bytes after rest true)
between_breaks a b c line after stop p q is = between a b c (λ bytes left. Begun bytes line left) (λ left rest. Takes line left after rest stop) (λ bytes rest. TakesLine bytes after rest true) p q
    (λ bytes left rest s t. breaks bytes line after left rest s (subst (Takes line left after rest) is t))

pub between_ends : (a b c : Option (List ℕ)) (line after : List ℕ) (stop : Stop) (empty : Bool) → Between a b (λ bytes left. Begun bytes line left) → Between b c (λ left rest. Takes line left after rest stop) → stop ≡ End
    → empty ≡ eqb (length after) 0 → Between a c (λ bytes rest. TakesLine bytes after rest (not empty))
between_ends a b c line after stop empty p q is is_empty = between a b c (λ bytes left. Begun bytes line left) (λ left rest. Takes line left after rest stop) (λ bytes rest. TakesLine bytes after rest (not empty)) p q
    (λ bytes left rest s t. ends bytes line after left rest empty s (subst (Takes line left after rest) is t) is_empty)
