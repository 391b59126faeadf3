-- The code of the edges that pass a test, and what stands after the fall.
use Rattle.std.specs.Prelude.{◌≡◌, ℕ, zero, suc, ◌+◌, ◌*◌, ◌^◌, ◌<◌, Bool, true, false, cond, ◌&&◌, List, length, ◌≢◌, nat_lt, refl}
use Rattle.std.proofs.Common.{sym, ◌∙◌, ap, arith, pow-suc}
use Rattle.std.proofs.Math.Logic.{inl, inr}
use Rattle.std.specs.Int.Bits.{bit_or}
use Rattle.std.proofs.lemmas.Nat.{or_shifted}
use Rattle.std.proofs.lemmas.Option.{slice_get_past}
use Rattle.std.proofs.lemmas.Bool.{cases_Bool, cases_eq, cases_lt, and_right, eq-eqb, ne_eqb, lt-ltb, le-ltb}
use Rattle.bits.specs.Bits.{bit}
use Rattle.bits.proofs.Words.{bit_or_lem, bit_none, bit_one}
use Rattle.hackenbush.specs.declared.edge.Edge.{Edge}
use Rattle.hackenbush.specs.Hackenbush.{code_of, held, fall}

pub code_below : (n : ℕ) (p : ℕ → Bool) → code_of n p < 2 ^ n
code_below zero p = omega arith
code_below (suc n) p = elim (p n) as (λ b. code_of n p + cond b (2 ^ n) 0 < 2 ^ suc n) [
  | true ↦ omega (arith, code_below n p, pow-suc 2 n)
  | false ↦ omega (arith, code_below n p, pow-suc 2 n)
]

pub bit_code : (n : ℕ) (p : ℕ → Bool) (j : ℕ) → bit (code_of n p) j ≡ (nat_lt j n && p j)
bit_code zero p j = bit_none j ∙ rw (le-ltb j 0 (omega arith))
bit_code (suc n) p j = elim (cases_Bool (p n)) [ inl t ↦ rw t (with t (bit_code n p j)) | inr t ↦ rw t (less t (bit_code n p j)) ]
  where
    with : p n ≡ true → bit (code_of n p) j ≡ (nat_lt j n && p j) → bit (code_of n p + 2 ^ n) j ≡ (nat_lt j (suc n) && p j)
    with t rest =
        let join : code_of n p + 2 ^ n ≡ bit_or (1 * 2 ^ n) (code_of n p) = omega (arith, or_shifted 1 n (code_of n p) (code_below n p)) in
        let flag : 1 * 2 ^ n ≡ 2 ^ n = omega arith in
        rw (join, flag, bit_or_lem (2 ^ n) (code_of n p) j, bit_one n j, rest) (elim (cases_eq j n) [
          | inl e ↦ rw (e, eq-eqb n n refl, lt-ltb n (suc n) (omega arith), t)
          | inr e ↦ rw (ne_eqb j n e) (ap (λ b. b && p j) (ltb_next e))
        ])
      where
        ltb_next : (j ≢ n) → nat_lt j n ≡ nat_lt j (suc n)
        ltb_next e = elim (cases_lt j n) [ inl h ↦ rw (lt-ltb j n h, lt-ltb j (suc n) (omega arith)) | inr h ↦ rw (le-ltb j n h, le-ltb j (suc n) (omega arith)) ]

    less : p n ≡ false → bit (code_of n p) j ≡ (nat_lt j n && p j) → bit (code_of n p + 0) j ≡ (nat_lt j (suc n) && p j)
    less t rest =
        let same : code_of n p + 0 ≡ code_of n p = omega arith in
        rw (same, rest) (elim (cases_eq j n) [
          | inl e ↦ rw (e, t) (and_right (nat_lt n n) false refl ∙ sym (and_right (nat_lt n (suc n)) false refl))
          | inr e ↦ elim (cases_lt j n) [ inl h ↦ rw (lt-ltb j n h, lt-ltb j (suc n) (omega arith)) | inr h ↦ rw (le-ltb j n h, le-ltb j (suc n) (omega arith)) ]
        ])

module _ (es : List Edge) (up : ℕ → Bool) where
  pub fall_below : fall es up < 2 ^ length es
  unfolding fall
  fall_below = code_below (length es) (held es up)

  -- the edges that stand after the fall are those that are held
  pub bit_fall : (j : ℕ) → bit (fall es up) j ≡ held es up j
  unfolding fall
  bit_fall j = bit_code (length es) (held es up) j ∙ elim (cases_lt j (length es)) [
    | inl h ↦ rw (lt-ltb j (length es) h)
    | inr h ↦ rw (le-ltb j (length es) h, slice_get_past es j h) (sym (and_right (up j) false refl))
  ]
