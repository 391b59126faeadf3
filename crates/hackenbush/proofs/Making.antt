-- The loops that read a list of edges: the vertices that they touch, and the set of a colour's edges.
use Rattle.std.proofs.Common.{◌≡◌, ℕ, ◌+◌, ◌<◌, ◌≤◌, Bool, true, false, ◌&&◌, ◌||◌, eqb, ltb, List, length, get_or, drop, sym, refl, ap, ◌∙◌, inl, inr, arith}
use lib.Bits.{bit_or}
use Rattle.std.proofs.lemmas.List.{at_drop_more, at_drop_all}
use Rattle.std.proofs.lemmas.Option.{slice_get-get_or, slice_get_past}
use Rattle.std.proofs.lemmas.Bool.{cases_eq, cases_lt, and_right, eq-eqb, ne_eqb, lt-ltb, le-ltb}
use Rattle.games.specs.declared.side.Side.{Side}
use Rattle.bits.specs.Bits.{bit}
use Rattle.bits.proofs.Words.{bit_or_lem, bit_one_shl}
use Rattle.hackenbush.specs.declared.edge.Edge.{Edge}
use Rattle.hackenbush.specs.Joined.{holds}
use Rattle.hackenbush.specs.Hackenbush.{touched, cuts, painted}
use Rattle.hackenbush.specs.Reading.{blank}
use Rattle.hackenbush.proofs.Cutting.{flag_of}

-- a set of the numbers that pass q, grown up to i
module _ (q : ℕ → Bool) (set i : ℕ) (so_far : (j : ℕ) → bit set j ≡ (ltb j i && q j)) where
  further : (j : ℕ) → (j ≡ i → ⊥) → ltb j i ≡ ltb j (i + 1)
  further j n = elim (cases_lt j i) [ inl h ↦ lt-ltb j i h ∙ sym (lt-ltb j (i + 1) (omega arith)) | inr h ↦ le-ltb j i h ∙ sym (le-ltb j (i + 1) (omega arith)) ]

  pub set_more : q i ≡ true → i < 64 → (j : ℕ) → bit (bit_or set (flag_of i)) j ≡ (ltb j (i + 1) && q j)
  set_more t low j = bit_or_lem set (flag_of i) j ∙ rw (so_far j, bit_one_shl i j low) (elim (cases_eq j i) [
    | inl e ↦ rw (e, eq-eqb i i refl, t, lt-ltb i (i + 1) (omega arith)) (or_true _)
    | inr n ↦ rw (ne_eqb j i n, further j n) (or_false _)
  ])
    where
      or_true : (b : Bool) → (b || true) ≡ true
      or_true true = refl
      or_true false = refl

      or_false : (b : Bool) → (b || false) ≡ b
      or_false true = refl
      or_false false = refl

  pub set_same : q i ≡ false → (j : ℕ) → bit set j ≡ (ltb j (i + 1) && q j)
  set_same t j = so_far j ∙ elim (cases_eq j i) [
    | inl e ↦ rw (e, t) (and_right _ _ refl ∙ sym (and_right (ltb i (i + 1)) false refl))
    | inr n ↦ ap (λ b. b && q j) (further j n)
  ]

pub painted_at : (s : Side) (es : List Edge) (i : ℕ) → i < length es → painted s es i ≡ cuts s (get_or es i blank).colour
unfolding painted
painted_at s es i h = ap (holds (λ e. cuts s e.colour)) (slice_get-get_or es i blank h)

pub set_all : (s : Side) (es : List Edge) (set i : ℕ) → ((j : ℕ) → bit set j ≡ (ltb j i && painted s es j)) → length es ≤ i → (j : ℕ) → bit set j ≡ painted s es j
unfolding painted
set_all s es set i so_far h j = so_far j ∙ elim (cases_lt j i) [
  | inl l ↦ rw (lt-ltb j i l)
  | inr l ↦ rw (le-ltb j i l) (sym (ap (holds (λ e. cuts s e.colour)) (slice_get_past es j (omega arith))))
]

-- the ends of the edges up to i are in the set
module _ (es : List Edge) (set i : ℕ) (so_far : (v : ℕ) → (bit set v || touched (drop i es) v) ≡ touched es v) (h : i < length es) where
  pub span_more : (ends : ℕ) → ((v : ℕ) → bit ends v ≡ (eqb v (get_or es i blank).from || eqb v (get_or es i blank).to)) → (v : ℕ)
      → (bit (bit_or set ends) v || touched (drop (i + 1) es) v) ≡ touched es v
  span_more ends are v =
      let step : touched (drop i es) v ≡ ((eqb v (get_or es i blank).from || eqb v (get_or es i blank).to) || touched (drop (i + 1) es) v) = at_drop_more (λ xs. touched xs v) es i blank h in
      rw (bit_or_lem set ends v, are v) (assoc (bit set v) _ _ ∙ ap (λ t. bit set v || t) (sym step) ∙ so_far v)
    where
      assoc : (x y z : Bool) → ((x || y) || z) ≡ (x || (y || z))
      assoc true y z = refl
      assoc false y z = refl

pub span_all : (es : List Edge) (set i : ℕ) → ((v : ℕ) → (bit set v || touched (drop i es) v) ≡ touched es v) → length es ≤ i → (v : ℕ) → bit set v ≡ touched es v
span_all es set i so_far h v = sym (ap (λ t. bit set v || t) (at_drop_all (λ xs. touched xs v) es i h) ∙ or_false (bit set v)) ∙ so_far v
  where
    or_false : (b : Bool) → (b || false) ≡ b
    or_false true = refl
    or_false false = refl
