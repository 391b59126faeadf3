-- What stands after the fall, in terms of what is joined, and that nothing falls twice.
use Rattle.std.specs.Prelude.{◌≡◌, ℕ, ◌^◌, ◌<◌, Bool, true, ◌||◌, List, length, Some, nat_lt, slice_index_or}
use Rattle.std.proofs.Common.{sym, ◌∙◌, ap, subst, inl, inr}
use Rattle.std.specs.List.{slice_get}
use Rattle.std.proofs.lemmas.Option.{slice_get-get_or}
use Rattle.std.proofs.lemmas.Bool.{cases_Bool, and_parts, and_from, and_left, or_cases, or_left, or_right, eqb-true, eq-eqb, ltb-true, lt-ltb}
use Rattle.bits.specs.Bits.{bit}
use Rattle.bits.proofs.Words.{bits_same}
use Rattle.hackenbush.specs.declared.edge.Edge.{Edge}
use Rattle.hackenbush.specs.Joined.{Joined, ground, along, back, joined}
use Rattle.hackenbush.specs.Hackenbush.{held, fall, legal}
use Rattle.hackenbush.specs.Laws.{EdgeJoined, FallKeepsJoined, LegalWhenJoined}
use Rattle.hackenbush.specs.Reaching.{reach_is_joined, holds_found, holds_at}
use Rattle.hackenbush.specs.Reading.{blank}
use Rattle.hackenbush.specs.Codes.{bit_fall, fall_below}

module _ (es : List Edge) (up : ℕ → Bool) where
  end_joined : (e : Edge) → EdgeJoined es up e → (joined es up e.from || joined es up e.to) ≡ true
  end_joined e (inl p) = or_left _ _ ((reach_is_joined es up e.from).1 p)
  end_joined e (inr p) = or_right _ _ ((reach_is_joined es up e.to).1 p)

  pub held_made : (i : ℕ) (e : Edge) → slice_get es i ≡ Some e → up i ≡ true → EdgeJoined es up e → held es up i ≡ true
  held_made i e at u p = and_from _ _ u (holds_at _ _ e at ∙ end_joined e p)

  pub held_found : (i : ℕ) → held es up i ≡ true → (e : Edge) × (slice_get es i ≡ Some e) × (up i ≡ true) × EdgeJoined es up e
  held_found i h =
      let a = and_parts (up i) _ h in
      let (e, at, b) = holds_found (λ e. joined es up e.from || joined es up e.to) (slice_get es i) a.1 in
      (e, at, a.0, elim (or_cases (joined es up e.from) (joined es up e.to) b) [ inl c ↦ inl ((reach_is_joined es up e.from).0 c) | inr c ↦ inr ((reach_is_joined es up e.to).0 c) ])

  -- what is joined stays joined when the rest has fallen
  still_joined : {v : ℕ} → Joined es up v → Joined es (bit (fall es up)) v
  still_joined ground = ground
  still_joined (along i e at u p) = along i e at (bit_fall es up i ∙ held_made i e at u (inl p)) (still_joined p)
  still_joined (back i e at u p) = back i e at (bit_fall es up i ∙ held_made i e at u (inr p)) (still_joined p)

  edge_still_joined : (e : Edge) → EdgeJoined es up e → EdgeJoined es (bit (fall es up)) e
  edge_still_joined e (inl p) = inl (still_joined p)
  edge_still_joined e (inr p) = inr (still_joined p)

module _ (es : List Edge) (up : ℕ → Bool) where
  still_held : (i : ℕ) → held es (bit (fall es up)) i ≡ held es up i
  still_held i = elim (cases_Bool (held es up i)) [
    | inl h ↦ let (e, at, u, p) = held_found es up i h in held_made es (bit (fall es up)) i e at (bit_fall es up i ∙ h) (edge_still_joined es up e p) ∙ sym h
    | inr h ↦ and_left _ _ (bit_fall es up i ∙ h) ∙ sym h
  ]

-- nothing falls twice
pub fall_fall : (es : List Edge) (up : ℕ → Bool) → fall es (bit (fall es up)) ≡ fall es up
fall_fall es up = bits_same (length es) _ _ (fall_below es (bit (fall es up))) (fall_below es up) (λ j h. bit_fall es (bit (fall es up)) j ∙ still_held es up j ∙ sym (bit_fall es up j))

pub legal_made : (es : List Edge) (n : ℕ) → n < 2 ^ length es → fall es (bit n) ≡ n → legal es n ≡ true
unfolding legal
legal_made es n small same = and_from _ _ (lt-ltb n (2 ^ length es) small) (eq-eqb (fall es (bit n)) n same)

pub legal_found : (es : List Edge) (n : ℕ) → legal es n ≡ true → (n < 2 ^ length es) × (fall es (bit n) ≡ n)
unfolding legal
legal_found es n l = let a = and_parts (nat_lt n (2 ^ length es)) _ l in (ltb-true n (2 ^ length es) a.0, eqb-true (fall es (bit n)) n a.1)

-- what is left after the fall is legal
pub fall_legal : (es : List Edge) (up : ℕ → Bool) → legal es (fall es up) ≡ true
fall_legal es up = legal_made es (fall es up) (fall_below es up) (fall_fall es up)

pub fall_keeps_joined : FallKeepsJoined
fall_keeps_joined es up i = (λ b. held_found es up i (sym (bit_fall es up i) ∙ b), λ h. bit_fall es up i ∙ held_made es up i h.0 h.1 h.2 h.3)

pub legal_when_joined : LegalWhenJoined
legal_when_joined es n = (found, made)
  where
    found : legal es n ≡ true → (n < 2 ^ length es) × ((i : ℕ) (e : Edge) → slice_get es i ≡ Some e → bit n i ≡ true → EdgeJoined es (bit n) e)
    found l = let a = legal_found es n l in (
      a.0,
      λ i e at b.
          let h = held_found es (bit n) i (sym (bit_fall es (bit n) i) ∙ ap (λ (m : ℕ). bit m i) a.1 ∙ b) in
          let q : h.0 ≡ e = let p = h.1 in cc in
          subst (EdgeJoined es (bit n)) q h.3,
    )

    made : (n < 2 ^ length es) × ((i : ℕ) (e : Edge) → slice_get es i ≡ Some e → bit n i ≡ true → EdgeJoined es (bit n) e) → legal es n ≡ true
    made h = legal_made es n h.0 (bits_same (length es) _ n (fall_below es (bit n)) h.0 (λ j low. bit_fall es (bit n) j ∙ elim (cases_Bool (bit n j)) [
      | inl b ↦ let at = slice_get-get_or es j blank low in held_made es (bit n) j (slice_index_or es j blank) at b (h.1 j (slice_index_or es j blank) at b) ∙ sym b
      | inr b ↦ and_left _ _ b ∙ sym b
    ]))
