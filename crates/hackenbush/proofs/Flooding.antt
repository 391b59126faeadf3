-- The steps of the flood.
use Rattle.std.proofs.Common.{◌≡◌, ℕ, zero, suc, ◌^◌, ◌<◌, ◌≤◌, Bool, true, false, cond, not, ◌&&◌, eqb, ltb, ◌≢◌, ◌⊎◌, List, [], ◌∷◌, length, get_or, Some, sym, refl, ap, ◌∙◌, subst, inl, inr, arith}
use lib.Bits.{bit_and, bit_or, bit_xor}
use Rattle.std.specs.List.{slice_get}
use Rattle.std.proofs.lemmas.Nat.{and_le_l, xor_lt}
use Rattle.std.proofs.lemmas.Option.{slice_get-get_or}
use Rattle.std.proofs.lemmas.Bool.{cases_Bool, cases_eq, both_ways, and_parts, and_from, or_cases, or_left, or_right, eqb-true, eq-eqb, lt-ltb}
use Rattle.bits.specs.Bits.{bit}
use Rattle.bits.proofs.Words.{bit_and_lem, bit_or_lem, bit_xor_lem, bit_none, bit_one, bits_same, some_bit}
use Rattle.hackenbush.specs.declared.edge.Edge.{Edge}
use Rattle.hackenbush.specs.Joined.{Joined, ground, along, back, joined}
use Rattle.hackenbush.specs.Hackenbush.{touched, held, fall}
use Rattle.hackenbush.specs.Floods.{Ends, Flooding, Keeps, Dry, Looked, Spread, Flooded}
use Rattle.hackenbush.specs.Reaching.{reach_is_joined, nth_below}
use Rattle.hackenbush.specs.Reading.{blank}
use Rattle.hackenbush.specs.Codes.{bit_fall, fall_below}
use Rattle.hackenbush.proofs.Flags.{clear_here, clear_other, clear_less}

same_edge : (es : List Edge) (i : ℕ) (d e : Edge) → slice_get es i ≡ Some d → slice_get es i ≡ Some e → d ≡ e
same_edge es i d e p q = cc

module _ (es : List Edge) (i wet dry ends : ℕ) (E : Ends es i ends) (left : bit dry i ≡ true) where
  from_in : bit ends E.0.from ≡ true
  from_in = E.2 E.0.from ∙ or_left _ _ (eq-eqb E.0.from E.0.from refl)

  to_in : bit ends E.0.to ≡ true
  to_in = E.2 E.0.to ∙ or_right _ _ (eq-eqb E.0.to E.0.to refl)

  -- the set meets no end of the edge
  pub looked_dry : bit_and wet ends ≡ 0 → Looked es i wet dry wet dry
  looked_dry none = record {
    keeps = λ up f. f;
    others = λ j n. refl;
    outcome = inr (refl, refl, λ e at. let q = same_edge es i E.0 e E.1 at in rw (← q) (out E.0.from from_in, out E.0.to to_in));
  }
    where
      out : (v : ℕ) → bit ends v ≡ true → bit wet v ≡ false
      out v b = elim (cases_Bool (bit wet v)) [
        | inl a ↦ absurd (both_ways (bit wet v && bit ends v) (sym (bit_and_lem wet ends v) ∙ ap (λ (w : ℕ). bit w v) none ∙ bit_none v) (and_from _ _ a b))
        | inr a ↦ a
      ]

  module _ (meets : bit_and wet ends ≢ 0) (small : wet < 2 ^ 64) where
    -- an end of the edge is reached
    end_wet : (bit wet E.0.from ≡ true) ⊎ (bit wet E.0.to ≡ true)
    end_wet =
        let (v, h, b) = some_bit 64 (bit_and wet ends) (omega (arith, and_le_l wet ends)) meets in
        let p = and_parts (bit wet v) (bit ends v) (sym (bit_and_lem wet ends v) ∙ b) in
        elim (or_cases (eqb v E.0.from) (eqb v E.0.to) (sym (E.2 v) ∙ p.1)) [
          | inl e ↦ inl (subst (λ (u : ℕ). bit wet u ≡ true) (eqb-true v E.0.from e) p.0)
          | inr e ↦ inr (subst (λ (u : ℕ). bit wet u ≡ true) (eqb-true v E.0.to e) p.0)
        ]

    old : (v : ℕ) → bit wet v ≡ true → bit (bit_or wet ends) v ≡ true
    old v b = bit_or_lem wet ends v ∙ or_left _ _ b

    new : (v : ℕ) → bit ends v ≡ true → bit (bit_or wet ends) v ≡ true
    new v b = bit_or_lem wet ends v ∙ or_right _ _ b

    wetter : Keeps es wet dry (bit_or wet ends) (bit_xor dry (2 ^ i))
    wetter up f = record {
      ground = old 0 f.ground;
      sound = λ v b. elim (or_cases (bit wet v) (bit ends v) (sym (bit_or_lem wet ends v) ∙ b)) [
        | inl a ↦ f.sound v a
        | inr a ↦ elim (or_cases (eqb v E.0.from) (eqb v E.0.to) (sym (E.2 v) ∙ a)) [
          | inl e ↦ subst (Joined es up) (sym (eqb-true v E.0.from e)) both.0
          | inr e ↦ subst (Joined es up) (sym (eqb-true v E.0.to e)) both.1
        ]
      ];
      standing = λ j b. elim (cases_eq j i) [
        | inl e ↦ absurd (both_ways (bit (bit_xor dry (2 ^ i)) i) (clear_here dry i left) (subst (λ (k : ℕ). bit (bit_xor dry (2 ^ i)) k ≡ true) e b))
        | inr n ↦ f.standing j (sym (clear_other dry i left j n) ∙ b)
      ];
      done = λ j e at u b. elim (cases_eq j i) [
        | inl q ↦ let s = same_edge es i E.0 e E.1 (subst (λ (k : ℕ). slice_get es k ≡ Some e) q at) in rw (← s) (new E.0.from from_in, new E.0.to to_in)
        | inr n ↦ let d = f.done j e at u (sym (clear_other dry i left j n) ∙ b) in (old e.from d.0, old e.to d.1)
      ];
    }
      where
        both : Joined es up E.0.from × Joined es up E.0.to
        both = elim end_wet [
          | inl b ↦ let p = f.sound E.0.from b in (p, along i E.0 E.1 (f.standing i left) p)
          | inr b ↦ let p = f.sound E.0.to b in (back i E.0 E.1 (f.standing i left) p, p)
        ]

    pub looked_wet : dry < 2 ^ 64 → i < 64 → Looked es i wet dry (bit_or wet ends) (bit_xor dry (2 ^ i))
    looked_wet few low = record {
      keeps = wetter;
      others = clear_other dry i left;
      outcome = inl (clear_less dry i left few low);
    }

pub looked_below : {es : List Edge} {i wet dry wet' dry' : ℕ} → Looked es i wet dry wet' dry' → dry' ≤ dry
looked_below l = elim l.outcome [ inl h ↦ omega arith | inr s ↦ omega (arith, s.0) ]

-- a look, and then the flood
pub looked_on : {es : List Edge} {i wet dry w d wet' dry' : ℕ} → Looked es i wet dry w d → Flooded es w d wet' dry' → Flooded es wet dry wet' dry'
looked_on l f = record { keeps = λ up g. f.keeps up (l.keeps up g); below = omega (arith, f.below, looked_below l); closed = f.closed }

-- A round on its way: the edges still to be looked at are dry; fewer are dry than at its start, or nothing has changed and none of the others can be gone along.
pub record Turning (es : List Edge) (wet dry todo wet' dry' : ℕ) : Type 0 where
  pub within : (j : ℕ) → bit todo j ≡ true → bit dry' j ≡ true
  pub keeps : Keeps es wet dry wet' dry'
  pub outcome : (dry' < dry) ⊎ ((dry' ≡ dry) × (wet' ≡ wet) × ((j : ℕ) → bit dry j ≡ true → bit todo j ≡ false → Dry es wet j))

pub turning_below : {es : List Edge} {wet dry todo wet' dry' : ℕ} → Turning es wet dry todo wet' dry' → dry' ≤ dry
turning_below t = elim t.outcome [ inl h ↦ omega arith | inr s ↦ omega (arith, s.0) ]

pub turning_more : {es : List Edge} {wet dry todo wet' dry' wet'' dry'' : ℕ} → Turning es wet dry todo wet' dry' → (i : ℕ) → bit todo i ≡ true → Looked es i wet' dry' wet'' dry''
    → Turning es wet dry (bit_xor todo (2 ^ i)) wet'' dry''
turning_more {es} {wet} {dry} {todo} {wet'} {dry'} t i set l = record {
  within = λ j b. elim (cases_eq j i) [
    | inl e ↦ absurd (both_ways (bit (bit_xor todo (2 ^ i)) i) (clear_here todo i set) (subst (λ (k : ℕ). bit (bit_xor todo (2 ^ i)) k ≡ true) e b))
    | inr n ↦ l.others j n ∙ t.within j (sym (clear_other todo i set j n) ∙ b)
  ];
  keeps = λ up f. l.keeps up (t.keeps up f);
  outcome = elim l.outcome [
    | inl h ↦ inl (omega (arith, turning_below t))
    | inr s ↦ elim t.outcome [
      | inl h ↦ inl (omega (arith, s.0))
      | inr u ↦ inr (
        s.0 ∙ u.0,
        s.1 ∙ u.1,
        λ j a b. elim (cases_eq j i) [
          | inl e ↦ subst (λ (k : ℕ). Dry es wet k) (sym e) (subst (λ (w : ℕ). Dry es w i) u.1 s.2)
          | inr n ↦ u.2 j a (sym (clear_other todo i set j n) ∙ b)
        ],
      )
    ]
  ];
}

pub turning_all : {es : List Edge} {wet dry wet' dry' : ℕ} → Turning es wet dry 0 wet' dry' → Spread es wet dry wet' dry'
turning_all {es} {wet} {dry} {wet'} {dry'} t = record {
  keeps = t.keeps;
  outcome = elim t.outcome [
    | inl h ↦ inl h
    | inr u ↦ inr (u.0, λ i b. subst (λ (w : ℕ). Dry es w i) (sym u.1) (u.2 i (sym (ap (λ (w : ℕ). bit w i) u.0) ∙ b) (bit_none i)))
  ];
}

touched_at : (es : List Edge) (i : ℕ) (e : Edge) → slice_get es i ≡ Some e → (touched es e.from ≡ true) × (touched es e.to ≡ true)
touched_at [] i e at = absurd (let z : ◌≡◌ {A = ℕ} 0 1 = cc in omega arith)
touched_at (x ∷ es) zero e at =
    let q : x ≡ e = cc in
    rw q (or_left _ _ (or_left _ _ (eq-eqb e.from e.from refl)), or_left _ _ (or_right _ _ (eq-eqb e.to e.to refl)))
touched_at (x ∷ es) (suc i) e at = let r = touched_at es i e at in (or_right _ _ r.0, or_right _ _ r.1)

-- where every vertex is reached, no edge is dry
pub spread_whole : {es : List Edge} {wet dry todo wet' dry' wet'' dry'' i : ℕ} → Turning es wet dry todo wet' dry' → Looked es i wet' dry' wet'' dry'' → 0 < dry → ((v : ℕ) → bit wet'' v ≡ touched es v)
    → Spread es wet dry wet'' 0
spread_whole {es} {wet} {dry} {todo} {wet'} {dry'} {wet''} t l some all = record {
  keeps = λ up f. let g = l.keeps up (t.keeps up f) in record {
    ground = g.ground;
    sound = g.sound;
    standing = λ i b. absurd (both_ways (bit 0 i) (bit_none i) b);
    done = λ i e at u b. let r = touched_at es i e at in (all e.from ∙ r.0, all e.to ∙ r.1);
  };
  outcome = inl some;
}

pub spread_below : {es : List Edge} {wet dry wet' dry' : ℕ} → Spread es wet dry wet' dry' → dry' ≤ dry
spread_below s = elim s.outcome [ inl h ↦ omega arith | inr t ↦ omega (arith, t.0) ]

pub spread_closed : {es : List Edge} {wet dry wet' dry' : ℕ} → Spread es wet dry wet' dry' → dry' ≡ dry → (i : ℕ) → bit dry' i ≡ true → Dry es wet' i
spread_closed s e = elim s.outcome [ inl h ↦ absurd (omega arith) | inr t ↦ t.1 ]

-- Where the flood has ended, it has reached exactly what is joined.
module _ {es : List Edge} {up : ℕ → Bool} {wet dry : ℕ} (f : Flooding es up wet dry) (closed : (i : ℕ) → bit dry i ≡ true → Dry es wet i) where
  pub joined_wet : {v : ℕ} → Joined es up v → bit wet v ≡ true
  joined_wet ground = f.ground
  joined_wet (along i e at u p) = elim (cases_Bool (bit dry i)) [
    | inl b ↦ absurd (both_ways (bit wet e.from) (closed i b e at).0 (joined_wet p))
    | inr b ↦ (f.done i e at u b).1
  ]
  joined_wet (back i e at u p) = elim (cases_Bool (bit dry i)) [
    | inl b ↦ absurd (both_ways (bit wet e.to) (closed i b e at).1 (joined_wet p))
    | inr b ↦ (f.done i e at u b).0
  ]

  dry_joined : (v : ℕ) → bit wet v ≡ false → joined es up v ≡ false
  dry_joined v b = elim (cases_Bool (joined es up v)) [ inl j ↦ absurd (both_ways (bit wet v) b (joined_wet ((reach_is_joined es up v).0 j))) | inr j ↦ j ]

  wet_joined : (v : ℕ) → bit wet v ≡ true → joined es up v ≡ true
  wet_joined v b = (reach_is_joined es up v).1 (f.sound v b)

  -- an edge is left dry exactly when it stands and is not held
  pub dry_falls : (i : ℕ) (e : Edge) → slice_get es i ≡ Some e → cond (up i) (not (bit dry i)) (bit dry i) ≡ held es up i
  dry_falls i e at = elim (cases_Bool (up i)) [
    | inl u ↦ rw (u, at) (elim (cases_Bool (bit dry i)) [
      | inl b ↦ rw (b, dry_joined e.from (closed i b e at).0, dry_joined e.to (closed i b e at).1)
      | inr b ↦ rw (b, wet_joined e.from (f.done i e at u b).0)
    ])
    | inr u ↦ rw u (elim (cases_Bool (bit dry i)) [ inl b ↦ absurd (both_ways (up i) u (f.standing i b)) | inr b ↦ b ])
  ]

-- The flood begins at the ground, with every standing edge dry.
pub flooding_none : (es : List Edge) (up : ℕ → Bool) (dry : ℕ) → ((i : ℕ) → bit dry i ≡ (ltb i (length es) && up i)) → Flooding es up 1 dry
unfolding bit
flooding_none es up dry is = record {
  ground = refl;
  sound = λ v b. subst (Joined es up) (sym (eqb-true v 0 (sym (bit_one 0 v) ∙ b))) ground;
  standing = λ i b. (and_parts (ltb i (length es)) (up i) (sym (is i) ∙ b)).1;
  done = λ i e at u b. absurd (both_ways (bit dry i) b (is i ∙ and_from _ _ (lt-ltb i (length es) (nth_below es i e at)) u));
}

pub flooded_fall : (es : List Edge) (up : ℕ → Bool) (all wet dry : ℕ) → ((i : ℕ) → bit all i ≡ (ltb i (length es) && up i)) → all < 2 ^ length es
    → Flooded es 1 all wet dry → bit_xor all dry ≡ fall es up
flooded_fall es up all wet dry is small f =
    bits_same (length es) (bit_xor all dry) (fall es up) (xor_lt (length es) all dry small (omega (arith, f.below))) (fall_below es up) (λ j h.
    bit_xor_lem all dry j ∙ rw (is j, lt-ltb j (length es) h) (dry_falls (f.keeps up (flooding_none es up all is)) f.closed j (get_or es j blank) (slice_get-get_or es j blank h)) ∙ sym (bit_fall es up j))
