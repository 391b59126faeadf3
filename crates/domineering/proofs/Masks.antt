-- The bits of the masks that the questions are answered by.
-- Assumes nothing.
use Rattle.std.proofs.Common.{◌≡◌, ℕ, ◌+◌, ◌-◌, ◌*◌, ◌/◌, ◌%◌, ◌^◌, ◌<◌, Bool, true, false, not, ◌&&◌, ◌||◌, eqb, ltb, sym, refl, ap, ◌∙◌, ap₂, inl, inr, arith}
use lib.Bits.{bit_and, bit_or}
use Rattle.std.specs.Bool.{then_some}
use Rattle.std.proofs.lemmas.Nat.{mod_below, or_lt, pow_below}
use Rattle.std.proofs.lemmas.Bool.{cases_eq, cases_lt, cases_order, eq-eqb, ne_eqb, lt-ltb, le-ltb}
use Rattle.bits.specs.Bits.{bit}
use Rattle.bits.proofs.Words.{bit_and_lem, bit_or_lem, bit_mask, bit_not, bit_none, bit_one, bit_one_shl, bit_mod, bit_shr, bit_shl_low, bit_shl_high, bits_same}
use Rattle.games.specs.declared.side.Side.{Side}
use Rattle.games.specs.declared.side.Side.TheVariants.{Left, Right}
use Rattle.domineering.specs.Domineering.{sized, free, fits, reach, goes_on, covered}
use Rattle.domineering.specs.Told.{Told}
use Rattle.domineering.specs.Size.{cells_high}

-- a mask that is told when the code is legal
pub told_when : (legal : Bool) (p : ℕ → Bool) (mask : ℕ) → ((i : ℕ) → bit mask i ≡ p i) → Told legal p (then_some legal mask)
told_when true p mask f = (refl, f)
told_when false p mask f = refl

-- ---- the empty cells, and the first cells of dominoes that fit

pub empty_bit : (r c full n : ℕ) → sized r c ≡ true → full ≡ 2 ^ (r * c) - 1 → n < 2 ^ 64 → (i : ℕ) → bit (bit_and full (18446744073709551615 - n)) i ≡ free (r * c) n i
empty_bit r c full n s e h i =
    rw (e, bit_and_lem (2 ^ (r * c) - 1) (18446744073709551615 - n) i, bit_mask (r * c) i, bit_not n 64 i h)
    (elim (cases_lt i (r * c)) [
      | inl l ↦ rw (lt-ltb i (r * c) l, lt-ltb i 64 (omega (arith, cells_high r c s)))
      | inr l ↦ rw (le-ltb i (r * c) l)
    ])

module _ (r c n e : ℕ) (empty : (i : ℕ) → bit e i ≡ free (r * c) n i) where
  pub upright_bit : (i : ℕ) → bit (bit_and e (e / 2 ^ c)) i ≡ fits Left r c n i
  upright_bit i = bit_and_lem e (e / 2 ^ c) i ∙ ap₂ (λ x y. x && y) (empty i) (bit_shr e c i ∙ empty (i + c) ∙ whole (free (r * c) n (i + c)))
    where
      whole : (x : Bool) → x ≡ (x && true)
      whole true = refl
      whole false = refl

  pub flat_bit : (inner : ℕ) → ((i : ℕ) → bit inner i ≡ (ltb i (r * c) && goes_on c i)) → (i : ℕ) → bit (bit_and (bit_and e (e / 2)) inner) i ≡ fits Right r c n i
  flat_bit inner rowwise i =
      bit_and_lem (bit_and e (e / 2)) inner i
      ∙ ap₂ (λ x y. x && y) (bit_and_lem e (e / 2) i ∙ ap₂ (λ x y. x && y) (empty i) (bit_shr e 1 i ∙ empty (i + 1))) (rowwise i)
      ∙ table (ltb i (r * c)) (not (bit n i)) (free (r * c) n (i + 1)) (goes_on c i)
    where
      table : (on bare next goes : Bool) → (((on && bare) && next) && (on && goes)) ≡ ((on && bare) && (next && goes))
      table true true true goes = refl
      table true true false goes = refl
      table true false next goes = refl
      table false bare next goes = refl

-- ---- a domino at cell 0, and a domino put on a board

pub upright_domino : (c : ℕ) → c < 64 → (i : ℕ) → bit (bit_or 1 ((1 * 2 ^ c) % 18446744073709551616)) i ≡ (eqb i 0 || eqb i c)
upright_domino c h i = bit_or_lem 1 ((1 * 2 ^ c) % 18446744073709551616) i ∙ ap₂ (λ x y. x || y) (bit_one 0 i) (bit_one_shl c i h)

pub flat_domino : (i : ℕ) → bit 3 i ≡ (eqb i 0 || eqb i 1)
flat_domino i = bit_or_lem 1 2 i ∙ ap₂ (λ x y. x || y) (bit_one 0 i) (bit_one 1 i)

eqb_agree : (a b x y : ℕ) → (a ≡ b → x ≡ y) → (x ≡ y → a ≡ b) → eqb a b ≡ eqb x y
eqb_agree a b x y f g = elim (cases_eq a b) [ inl e ↦ rw (eq-eqb a b e, eq-eqb x y (f e)) | inr e ↦ rw (ne_eqb a b e, ne_eqb x y (λ q. e (g q))) ]

module _ (s : Side) (c n i pair : ℕ) (shape : (k : ℕ) → bit pair k ≡ (eqb k 0 || eqb k (reach s c))) (room : i + reach s c < 64) where
  put_bit : (j : ℕ) → j < 64 → bit ((pair * 2 ^ i) % 18446744073709551616) j ≡ (eqb j i || eqb j (i + reach s c))
  put_bit j h = bit_mod (pair * 2 ^ i) 64 j ∙ rw (lt-ltb j 64 h) (elim (cases_lt j i) [
    | inl l ↦ rw (ne_eqb j i (λ e. omega arith), ne_eqb j (i + reach s c) (λ e. omega arith)) (bit_shl_low pair i j l)
    | inr l ↦ bit_shl_high pair i j l ∙ shape (j - i) ∙ ap₂ (λ x y. x || y) (eqb_agree (j - i) 0 j i (λ e. omega arith) (λ e. omega arith)) (eqb_agree (j - i) (reach s c) j (i + reach s c) (λ e. omega arith) (λ e. omega arith))
  ])

  pub put : n < 2 ^ 64 → bit_or n ((pair * 2 ^ i) % 18446744073709551616) ≡ covered s c n i
  put small =
      bits_same 64 (bit_or n ((pair * 2 ^ i) % 18446744073709551616)) (covered s c n i)
      (or_lt 64 n ((pair * 2 ^ i) % 18446744073709551616) small (mod_below (pair * 2 ^ i) 18446744073709551616 (omega arith)))
      (or_lt 64 (bit_or n (2 ^ i)) (2 ^ (i + reach s c)) (or_lt 64 n (2 ^ i) small (pow_below i 64 (omega arith))) (pow_below (i + reach s c) 64 room))
      same
    where
      regroup : (x y z : Bool) → (x || (y || z)) ≡ ((x || y) || z)
      regroup true y z = refl
      regroup false y z = refl

      same : (j : ℕ) → j < 64 → bit (bit_or n ((pair * 2 ^ i) % 18446744073709551616)) j ≡ bit (covered s c n i) j
      same j h =
          bit_or_lem n ((pair * 2 ^ i) % 18446744073709551616) j
          ∙ ap (λ x. bit n j || x) (put_bit j h)
          ∙ regroup (bit n j) (eqb j i) (eqb j (i + reach s c))
          ∙ sym (bit_or_lem (bit_or n (2 ^ i)) (2 ^ (i + reach s c)) j ∙ ap₂ (λ x y. x || y) (bit_or_lem n (2 ^ i) j ∙ ap (λ x. bit n j || x) (bit_one i j)) (bit_one (i + reach s c) j))

-- ---- the cells whose row goes on, found one cell at a time

module _ (c k mask : ℕ) (so_far : (i : ℕ) → bit mask i ≡ (ltb i k && goes_on c i)) where
  pub inner_skip : goes_on c k ≡ false → (i : ℕ) → bit mask i ≡ (ltb i (k + 1) && goes_on c i)
  inner_skip ends i = so_far i ∙ elim (cases_order i k) [
    | inl e ↦ rw (e, ends, le-ltb k k (omega arith), lt-ltb k (k + 1) (omega arith))
    | inr (inl h) ↦ rw (lt-ltb i k h, lt-ltb i (k + 1) (omega arith))
    | inr (inr h) ↦ rw (le-ltb i k (omega arith), le-ltb i (k + 1) (omega arith))
  ]

  pub inner_mark : k < 64 → goes_on c k ≡ true → (i : ℕ) → bit (bit_or mask ((1 * 2 ^ k) % 18446744073709551616)) i ≡ (ltb i (k + 1) && goes_on c i)
  inner_mark h goes i = bit_or_lem mask ((1 * 2 ^ k) % 18446744073709551616) i ∙ ap₂ (λ x y. x || y) (so_far i) (bit_one_shl k i h) ∙ elim (cases_order i k) [
    | inl e ↦ rw (e, goes, le-ltb k k (omega arith), lt-ltb k (k + 1) (omega arith), eq-eqb k k refl)
    | inr (inl l) ↦ rw (lt-ltb i k l, lt-ltb i (k + 1) (omega arith), ne_eqb i k (λ e. omega arith)) (bare (goes_on c i))
    | inr (inr l) ↦ rw (le-ltb i k (omega arith), le-ltb i (k + 1) (omega arith), ne_eqb i k (λ e. omega arith))
  ]
    where
      bare : (x : Bool) → (x || false) ≡ x
      bare true = refl
      bare false = refl

pub inner_none : (c i : ℕ) → bit 0 i ≡ (ltb i 0 && goes_on c i)
inner_none c i = rw (le-ltb i 0 (omega arith)) (bit_none i)
