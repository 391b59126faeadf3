-- The rounds of `joined_in` come to a stop, and then they have found exactly what is joined.
use Rattle.std.specs.Prelude.{◌≡◌, ℕ, zero, suc, ◌+◌, ◌<◌, ◌≤◌, Bool, true, false, cond, ◌&&◌, ◌||◌, ◌⊎◌, List, length, Some, None, Option, ◌==◌}
use Rattle.std.proofs.Math.Path.{refl, sym}
use Rattle.std.proofs.Common.{◌∙◌, ap, subst}
use Rattle.std.proofs.Math.Logic.{inl, inr}
use native.Mathlib.Omega.{arith}
use Rattle.std.specs.List.{slice_get}
use Rattle.std.proofs.lemmas.Option.{slice_get_past as nth_past}
use Rattle.std.proofs.lemmas.Bool.Decides.{Decides-below_or}
use Rattle.std.proofs.lemmas.Bool.{cases_lt, cases_Bool, cases_eq, both_ways, and_parts, and_from, or_cases, or_left, or_right, eqb-true, eq-eqb}
use Rattle.hackenbush.specs.declared.edge.Edge.{Edge}
use Rattle.hackenbush.specs.Joined.{Joined, ground, along, back, some, holds, leads, joined_in, joined}
use Rattle.hackenbush.specs.Laws.{ReachIsJoined}

-- how many numbers below n pass the test
count : ℕ → (ℕ → Bool) → ℕ
count zero p = 0
count (suc n) p = count n p + cond (p n) 1 0

count_le : (n : ℕ) (p : ℕ → Bool) → count n p ≤ n
unfolding count
count_le zero p = omega arith
count_le (suc n) p = elim (p n) as (λ b. count n p + cond b 1 0 ≤ suc n) [ true ↦ omega (arith, count_le n p) | false ↦ omega (arith, count_le n p) ]

-- q passes all that p passes: either it passes more, or below n they are the same
more_or_same : (n : ℕ) (p q : ℕ → Bool) → ((i : ℕ) → p i ≡ true → q i ≡ true)
    → (count n p < count n q) ⊎ ((count n p ≤ count n q) × ((i : ℕ) → i < n → q i ≡ true → p i ≡ true))
unfolding count
more_or_same zero p q f = inr (omega arith, λ i h. absurd (omega arith))
more_or_same (suc n) p q f = elim (more_or_same n p q f) [
  | inl h ↦ elim (cases_Bool (p n)) [
    | inl a ↦ inl (rw (a, f n a) (omega arith))
    | inr a ↦ inl (rw a (elim (q n) as (λ b. count n p + 0 < count n q + cond b 1 0) [ true ↦ omega arith | false ↦ omega arith ]))
  ]
  | inr s ↦ elim (cases_Bool (p n)) [
    | inl a ↦ inr (rw (a, f n a) (omega (arith, s.0)), λ i h. elim (cases_eq i n) [ inl e ↦ λ _. rw e a | inr e ↦ s.1 i (omega arith) ])
    | inr a ↦ elim (cases_Bool (q n)) [
      | inl b ↦ inl (rw (a, b) (omega (arith, s.0)))
      | inr b ↦ inr (rw (a, b) (omega (arith, s.0)), λ i h. elim (cases_eq i n) [ inl e ↦ λ c. absurd (both_ways (q n) b (subst (λ (k : ℕ). q k ≡ true) e c)) | inr e ↦ s.1 i (omega arith) ])
    ]
  ]
]

some_made : (n : ℕ) (p : ℕ → Bool) (i : ℕ) → i < n → p i ≡ true → some n p ≡ true
some_made n p i h t = (Decides-below_or p (λ k. p k ≡ true) (λ k. some k p) (λ k. (λ a. a, λ a. a)) refl (λ _. refl) n).1 (i, h, t)

some_found : (n : ℕ) (p : ℕ → Bool) → some n p ≡ true → (i : ℕ) × (i < n) × (p i ≡ true)
some_found n p t = (Decides-below_or p (λ k. p k ≡ true) (λ k. some k p) (λ k. (λ a. a, λ a. a)) refl (λ _. refl) n).0 t

pub holds_found : (p : Edge → Bool) (o : Option Edge) → holds p o ≡ true → (e : Edge) × (o ≡ Some e) × (p e ≡ true)
holds_found p None t = absurd (both_ways false refl t)
holds_found p (Some e) t = (e, refl, t)

pub holds_at : (p : Edge → Bool) (o : Option Edge) (e : Edge) → o ≡ Some e → holds p o ≡ p e
holds_at p o e at = ap (holds p) at

pub nth_below : (es : List Edge) (i : ℕ) (e : Edge) → slice_get es i ≡ Some e → i < length es
nth_below es i e at = elim (cases_lt i (length es)) [ inl h ↦ h | inr h ↦ absurd (let p = nth_past es i h in let z : ◌≡◌ {A = ℕ} 0 1 = cc in omega arith) ]

module _ (es : List Edge) (up : ℕ → Bool) where
  -- what the rounds find is joined
  sound : (k v : ℕ) → joined_in es up k v ≡ true → Joined es up v
  sound zero v t = subst (Joined es up) (sym (eqb-true v 0 t)) ground
  sound (suc k) v t = elim (or_cases _ _ t) [
    | inl a ↦ sound k v a
    | inr a ↦
        let (i, h, b) = some_found (length es) (λ i. up i && holds (leads (joined_in es up k) v) (slice_get es i)) a in
        let c = and_parts (up i) _ b in
        let (e, at, d) = holds_found (leads (joined_in es up k) v) (slice_get es i) c.1 in
        elim (or_cases _ _ d) [
          | inl f ↦ let g = and_parts (e.to == v) _ f in subst (Joined es up) (eqb-true e.to v g.0) (along i e at c.0 (sound k e.from g.1))
          | inr f ↦ let g = and_parts (e.from == v) _ f in subst (Joined es up) (eqb-true e.from v g.0) (back i e at c.0 (sound k e.to g.1))
        ]
  ]

  later : (j v : ℕ) (k : ℕ) → j ≤ k → joined_in es up j v ≡ true → joined_in es up k v ≡ true
  later j v zero h t = let e : j ≡ 0 = omega arith in subst (λ (m : ℕ). joined_in es up m v ≡ true) e t
  later j v (suc k) h t = elim (cases_lt k j) [
    | inl g ↦ let e : j ≡ suc k = omega arith in subst (λ (m : ℕ). joined_in es up m v ≡ true) e t
    | inr g ↦ or_left _ _ (later j v k g t)
  ]

  -- edge i stands and has an end that k rounds found
  touched : ℕ → ℕ → Bool
  touched k i = up i && holds (λ e. joined_in es up k e.from || joined_in es up k e.to) (slice_get es i)

  touched_made : (k i : ℕ) (e : Edge) → slice_get es i ≡ Some e → up i ≡ true → (joined_in es up k e.from || joined_in es up k e.to) ≡ true → touched k i ≡ true
  unfolding touched
  touched_made k i e at u t = and_from _ _ u (holds_at _ _ e at ∙ t)

  touched_ends : (k i : ℕ) (e : Edge) → slice_get es i ≡ Some e → touched k i ≡ true → (up i ≡ true) × ((joined_in es up k e.from || joined_in es up k e.to) ≡ true)
  unfolding touched
  touched_ends k i e at t = let a = and_parts (up i) _ t in (a.0, sym (holds_at _ _ e at) ∙ a.1)

  -- one more round finds both ends
  both_ends : (k i : ℕ) (e : Edge) → slice_get es i ≡ Some e → touched k i ≡ true → (joined_in es up (suc k) e.from ≡ true) × (joined_in es up (suc k) e.to ≡ true)
  both_ends k i e at t = let a = touched_ends k i e at t in elim (or_cases _ _ a.1) [
    | inl b ↦ (or_left _ _ b, found e.to a.0 (or_left _ _ (and_from _ _ (eq-eqb e.to e.to refl) b)))
    | inr b ↦ (found e.from a.0 (or_right _ _ (and_from _ _ (eq-eqb e.from e.from refl) b)), or_left _ _ b)
  ]
    where
      found : (v : ℕ) → up i ≡ true → leads (joined_in es up k) v e ≡ true → joined_in es up (suc k) v ≡ true
      found v u l = or_right _ _ (some_made (length es) _ i (nth_below es i e at) (and_from _ _ u (holds_at _ _ e at ∙ l)))

  Closed : ℕ → Type 0
  Closed k = (i : ℕ) (e : Edge) → slice_get es i ≡ Some e → touched k i ≡ true → (joined_in es up k e.from ≡ true) × (joined_in es up k e.to ≡ true)

  -- each round touches one more edge, until none is left to touch
  progress : (k : ℕ) → (k < count (length es) (touched k)) ⊎ ((j : ℕ) × (j ≤ k) × Closed j)
  unfolding Closed touched
  progress zero = elim (more_or_same (length es) (λ _. false) (touched 0) (λ i f. absurd (both_ways false refl f))) [
    | inl h ↦ inl (omega arith)
    | inr s ↦ inr (0, omega arith, λ i e at t. absurd (both_ways false refl (s.1 i (nth_below es i e at) t)))
  ]
  progress (suc k) = elim (progress k) [
    | inl m ↦ elim (more_or_same (length es) (touched k) (touched (suc k)) (grows k)) [
      | inl h ↦ inl (omega arith)
      | inr s ↦ inr (suc k, omega arith, λ i e at t. both_ends k i e at (s.1 i (nth_below es i e at) t))
    ]
    | inr c ↦ inr (c.0, omega (arith, c.1), c.2)
  ]
    where
      grows : (k i : ℕ) → touched k i ≡ true → touched (suc k) i ≡ true
      grows k i t = let a = and_parts (up i) _ t in let (e, at, b) = holds_found _ _ a.1 in
          touched_made (suc k) i e at a.0 (or_left _ _ (both_ends k i e at t).0)

  -- what is joined is found by a round after which no edge leads out
  complete : (j : ℕ) → Closed j → {v : ℕ} → Joined es up v → joined_in es up j v ≡ true
  unfolding Closed
  complete j c ground = later 0 0 j (omega arith) refl
  complete j c (along i e at u p) = (c i e at (touched_made j i e at u (or_left _ _ (complete j c p)))).1
  complete j c (back i e at u p) = (c i e at (touched_made j i e at u (or_right _ _ (complete j c p)))).0

pub reach_is_joined : ReachIsJoined
unfolding joined
reach_is_joined es up v = (
  sound es up (length es) v,
  λ p. elim (progress es up (length es)) [
    | inl h ↦ absurd (omega (arith, count_le (length es) (touched es up (length es))))
    | inr c ↦ later es up c.0 v (length es) c.1 (complete es up c.0 c.2 p)
  ],
)
