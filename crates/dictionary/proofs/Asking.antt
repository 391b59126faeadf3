-- What the tables tell of two nodes is how the nodes of the store compare.
-- Assumes nothing.
use Rattle.std.proofs.Common.{◌≡◌, ℕ, ◌<◌, ◌≤◌, Bool, true, false, not, ◌&&◌, ltb, ◌⊎◌, List, [], ◌∷◌, length, sym, refl, ◌∙◌, subst, ap₂, inl, inr, arith, lt-ltb}
use Rattle.std.specs.List.{AllByRecursion}
use Rattle.games.specs.declared.outcome.Comparison.{Comparison}
use Rattle.games.specs.Form.{Form, 𝟎, form, ∅}
use Rattle.games.specs.Numbered.{each}
use Rattle.games.specs.Order.{ge}
use Rattle.games.specs.Outcomes.{against_zero, compare, comparison}
use Rattle.sealing.specs.declared.tables.Tables.{Tables}
use Rattle.sealing.specs.Seals.{count, node_of, row_at, rows_of}
use Rattle.calls.specs.Rows.{Rows, node}
use Rattle.calls.specs.Answers.{told, refused}
use Rattle.calls.specs.Asking.{Compares, TellsOutcome}
use Rattle.calls.proofs.Rows.{node_law}
use Rattle.dictionary.specs.Kept.{Kept}
use Rattle.dictionary.proofs.Tied.{agree, lower}

both : {p q : Bool} (r : Bool) → p ≡ true → q ≡ true → ((p && q) && r) ≡ r
both {p} {q} r a b = simp (a, b)

twice : (b : Bool) → not (not b) ≡ b
twice true = refl
twice false = refl

pub compares : (rows : Rows) (t : Tables) → Kept rows t → (a b : ℕ) → a < count t → b < count t → (above below : Bool) (x : Comparison)
    → above ≡ ((ltb a (count t) && ltb b (count t)) && ge (node_of t a) (node_of t b)) → below ≡ ((ltb a (count t) && ltb b (count t)) && ge (node_of t b) (node_of t a))
    → x ≡ comparison (not (not above)) (not (not below)) → Compares rows a b (told x)
compares rows t kept a b h l above below x e f is =
    let m = lt-ltb a (count t) h in
    let n = lt-ltb b (count t) l in
    let u : above ≡ ge (node (rows_of t) a) (node (rows_of t) b) = e ∙ both (ge (node_of t a) (node_of t b)) m n ∙ ap₂ ge (agree t a h) (agree t b l) in
    let v : below ≡ ge (node (rows_of t) b) (node (rows_of t) a) = f ∙ both (ge (node_of t b) (node_of t a)) m n ∙ ap₂ ge (agree t b l) (agree t a h) in
    let y : x ≡ compare (node (rows_of t) a) (node (rows_of t) b) = is ∙ ap₂ comparison (twice above ∙ u) (twice below ∙ v) in
    subst (λ r. Compares r a b (told x)) (sym kept) (subst (λ z. Compares (rows_of t) a b (told z)) (sym y) (Compares.known h l))

pub compares_not : (rows : Rows) (t : Tables) → Kept rows t → (a b : ℕ) → (count t ≤ a) ⊎ (count t ≤ b) → Compares rows a b (refused 1)
compares_not rows t kept a b h = subst (λ r. Compares r a b (refused 1)) (sym kept) (Compares.unknown h)

none_each : (f : ℕ → Form) (xs : List ℕ) → AllByRecursion (λ m. m < 0) xs → each f xs ≡ ∅
none_each f [] a = refl
none_each f (x ∷ xs) a = let h = a.0 in absurd (omega arith)

-- the first node is 0
first_of : (t : Tables) → 0 < count t → node (rows_of t) 0 ≡ 𝟎
first_of t h =
    let b = lower t 0 h in
    node_law (rows_of t) 0 h b ∙ ap₂ form (none_each (node (rows_of t)) (row_at t 0).left b.on_left) (none_each (node (rows_of t)) (row_at t 0).right b.on_right)

first_node : (rows : Rows) (t : Tables) → Kept rows t → 0 < length rows → node rows 0 ≡ 𝟎
first_node rows t kept h = subst (λ r. 0 < length r → node r 0 ≡ 𝟎) (sym kept) (first_of t) h

pub tells : (rows : Rows) (t : Tables) → Kept rows t → (n : ℕ) (x : Comparison) → Compares rows n 0 (told x) → TellsOutcome rows n (told (against_zero x))
tells rows t kept n x (Compares.known h l) = subst (λ g. TellsOutcome rows n (told (against_zero (compare (node rows n) g)))) (sym (first_node rows t kept l)) (TellsOutcome.known h)

pub tells_not : (rows : Rows) (n k : ℕ) → Compares rows n 0 (refused k) → TellsOutcome rows n (refused k)
tells_not rows n k (Compares.unknown (inl h)) = TellsOutcome.unknown h
tells_not rows n k (Compares.unknown (inr h)) = TellsOutcome.unknown (omega arith)
