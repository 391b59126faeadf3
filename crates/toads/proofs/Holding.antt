-- The words of a strip mark what they are said to mark.
-- Assumes nothing.
use Rattle.std.proofs.Common.{◌≡◌, ℕ, zero, suc, ◌+◌, ◌-◌, ◌*◌, ◌/◌, ◌%◌, ◌^◌, ◌<◌, ◌≤◌, Bool, true, false, cond, not, ◌&&◌, ◌||◌, eqb, ltb, List, [], map, length, Some, None, Ok, Err, Option, Result, sym, refl, ap, ◌∙◌, ap₂, inl, inr, arith}
use native.Mathlib.Nat.{pow-le-pow_right}
use lib.Bits.{bit_and, bit_or, bit_xor}
use Rattle.std.specs.List.{list_all, slice_get}
use Rattle.std.specs.Option.{option_map}
use Rattle.std.specs.Result.{IsOk}
use Rattle.std.proofs.ByRecursion.{All-get_or}
use Rattle.std.proofs.lemmas.List.{length-map}
use Rattle.std.proofs.lemmas.Option.{slice_get-map}
use Rattle.std.proofs.lemmas.Nat.{and_le_r, pow_pos}
use Rattle.std.proofs.lemmas.Bool.{cases_eq, cases_lt, and_parts, eq-eqb, ne_eqb, eqb-false, lt-ltb, le-ltb, ltb-true}
use Rattle.bits.specs.Bits.{bit, places}
use Rattle.bits.specs.Digits.{digit}
use Rattle.bits.proofs.Words.{bit_and_lem, bit_or_lem, bit_mask, bit_next, bit_none, one_shl_64, some_bit}
use Rattle.bits.proofs.Places.{all_places, places_more}
use Rattle.bits.proofs.Digits.{digit_low, digit_high, digit_small, digit_past, four_pow}
use Rattle.games.specs.declared.side.Side.{Side}
use Rattle.games.specs.declared.side.Side.TheVariants.{Left, Right}
use Rattle.rulesets.proofs.Positions.{nth_some}
use Rattle.toads.specs.declared.cell.NoCell.{NoCell}
use Rattle.toads.specs.Cells.{Cell, Empty, Toad, Frog, digit_of, DigitRead}
use Rattle.toads.specs.Toads.{cells, legal, holds, can_move, after, toads}
use Rattle.toads.specs.Marks.{Marks}
use Rattle.toads.specs.Moves.{every_cell, every_from}
use Rattle.toads.proofs.Marking.{marks_evens, marks_and, marks_or, marks_xor, marks_same, marks_down, marks_up, marked_places}

and_false : (b : Bool) → (b && false) ≡ false
and_false true = refl
and_false false = refl

-- all cells of a strip
module _ (n : ℕ) (few : n ≤ 12) where
  pub all_marks : Marks (bit_and 6148914691236517205 ((1 * 2 ^ (2 * n)) % 18446744073709551616 - 1)) (λ i. ltb i n)
  all_marks k =
      bit_and_lem 6148914691236517205 _ k
      ∙ ap₂ ◌&&◌ (marks_evens 32 k) (ap (λ x. bit (x - 1) k) (one_shl_64 (2 * n) (omega arith)) ∙ bit_mask (2 * n) k)
      ∙ elim (cases_lt (k / 2) n) [
        | inl h ↦ rw (lt-ltb (k / 2) n h, lt-ltb (k / 2) 32 (omega arith), lt-ltb k (2 * n) (omega arith)) (and_both (eqb (k % 2) 0))
        | inr h ↦ rw (le-ltb (k / 2) n h, le-ltb k (2 * n) (omega arith)) (and_false _ ∙ sym (and_false (eqb (k % 2) 0)))
      ]
    where
      and_both : (b : Bool) → ((b && true) && true) ≡ (b && true)
      and_both true = refl
      and_both false = refl

  pub all_small : bit_and 6148914691236517205 ((1 * 2 ^ (2 * n)) % 18446744073709551616 - 1) < 2 ^ 24
  all_small =
      let a = and_le_r 6148914691236517205 ((1 * 2 ^ (2 * n)) % 18446744073709551616 - 1) in
      let b = one_shl_64 (2 * n) (omega arith) in
      let c = pow-le-pow_right {n = 2} (omega arith) {i = 2 * n} {j = 24} (omega arith) in
      let d = pow_pos (2 * n) in
      omega arith

-- the low bit of a digit that is not 3 tells a toad, and the high bit a frog
low_toad : (d : ℕ) → d < 3 → eqb (d % 2) 1 ≡ eqb d 1
low_toad zero h = refl
low_toad (suc zero) h = refl
low_toad (suc (suc zero)) h = refl
low_toad (suc (suc (suc d))) h = absurd (omega arith)

high_frog : (d : ℕ) → d < 3 → eqb (d / 2) 1 ≡ eqb d 2
high_frog zero h = refl
high_frog (suc zero) h = refl
high_frog (suc (suc zero)) h = refl
high_frog (suc (suc (suc d))) h = absurd (omega arith)

neither_empty : (d : ℕ) → d < 3 → not (eqb d 1 || eqb d 2) ≡ eqb d 0
neither_empty zero h = refl
neither_empty (suc zero) h = refl
neither_empty (suc (suc zero)) h = refl
neither_empty (suc (suc (suc d))) h = absurd (omega arith)

-- a word whose even bits are told by the digits marks what the digits say
module _ (n w : ℕ) (all : Marks w (λ i. ltb i n)) where
  pub by_digits : (v : ℕ) (q : ℕ → Bool) → ((i : ℕ) → i < n → bit v (i + i) ≡ q i) → Marks (bit_and v w) (λ i. ltb i n && q i)
  by_digits v q f k = bit_and_lem v w k ∙ ap (λ b. bit v k && b) (all k) ∙ elim (cases_lt (k / 2) n) [
    | inl h ↦ elim (cases_eq (k % 2) 0) [
      | inl e ↦
          let twice : k ≡ k / 2 + k / 2 = omega arith in
          rw (eq-eqb (k % 2) 0 e, lt-ltb (k / 2) n h) (and_true (bit v k) ∙ ap (bit v) twice ∙ f (k / 2) h)
      | inr e ↦ rw (ne_eqb (k % 2) 0 e) (and_false (bit v k))
    ]
    | inr h ↦ rw (le-ltb (k / 2) n h) (ap (λ b. bit v k && b) (and_false (eqb (k % 2) 0)) ∙ and_false (bit v k) ∙ sym (and_false (eqb (k % 2) 0)))
  ]
    where
      and_true : (b : Bool) → (b && true) ≡ b
      and_true true = refl
      and_true false = refl

-- no cell of a legal code has digit 3
pub no_three : (n c : ℕ) → legal n c ≡ true → (i : ℕ) → i < n → digit c i < 3
no_three n c ok i h = ltb-true (digit c i) 3 (every_cell (λ d. ltb d 3) c 0 n i (and_parts (ltb c (4 ^ n)) _ ok).1 (omega arith) (omega arith))

-- a digit below 3 is that of a cell
pub digit_held : (d : ℕ) (r : Result Cell NoCell) → DigitRead d r → d < 3 → IsOk r
digit_held d (Ok x) e h = refl
digit_held d (Err _) e h = absurd (omega arith)

module _ (n c w : ℕ) (ok : legal n c ≡ true) (all : Marks w (λ i. ltb i n)) where
  pub toads_marked : Marks (bit_and c w) (holds n c Toad)
  toads_marked = by_digits n w all c (λ i. eqb (digit c i) 1) (λ i h. digit_low c i ∙ low_toad (digit c i) (no_three n c ok i h))

  pub frogs_marked : Marks (bit_and (c / 2) w) (holds n c Frog)
  frogs_marked = by_digits n w all (c / 2) (λ i. eqb (digit c i) 2) (λ i h. sym (bit_next c (i + i)) ∙ digit_high c i ∙ high_frog (digit c i) (no_three n c ok i h))

  pub empty_marked : Marks (bit_xor (bit_and (bit_or c (c / 2)) w) w) (holds n c Empty)
  empty_marked =
      let piece = λ (i : ℕ). eqb (digit c i) 1 || eqb (digit c i) 2 in
      let taken : Marks (bit_and (bit_or c (c / 2)) w) (λ i. ltb i n && piece i) = by_digits n w all (bit_or c (c / 2)) piece (λ i h.
      bit_or_lem c (c / 2) (i + i) ∙ ap₂ ◌||◌ (digit_low c i ∙ low_toad (digit c i) (no_three n c ok i h)) (sym (bit_next c (i + i)) ∙ digit_high c i ∙ high_frog (digit c i) (no_three n c ok i h))) in
      marks_same (bit_xor (bit_and (bit_or c (c / 2)) w) w) (λ i. cond (ltb i n && piece i) (not (ltb i n)) (ltb i n)) (holds n c Empty) outside
      (marks_xor (bit_and (bit_or c (c / 2)) w) w (λ i. ltb i n && piece i) (λ i. ltb i n) taken all)
    where
      outside : (i : ℕ) → cond (ltb i n && (eqb (digit c i) 1 || eqb (digit c i) 2)) (not (ltb i n)) (ltb i n) ≡ (ltb i n && eqb (digit c i) 0)
      outside i = elim (cases_lt i n) [
        | inl h ↦ rw (lt-ltb i n h) (turned (eqb (digit c i) 1 || eqb (digit c i) 2) ∙ neither_empty (digit c i) (no_three n c ok i h))
        | inr h ↦ rw (le-ltb i n h)
      ]
        where
          turned : (b : Bool) → cond b false true ≡ not b
          turned true = refl
          turned false = refl

pub part_small : (a b : ℕ) → b < 2 ^ 24 → bit_and a b < 2 ^ 24
part_small a b h = let k = and_le_r a b in omega arith

-- the cells whose piece can move
distribute : (a b d : Bool) → (a && (b || d)) ≡ ((a && b) || (a && d))
distribute true b d = refl
distribute false b d = refl

-- no cell holds two things
not_both : (n c : ℕ) (x y : Cell) (i : ℕ) → ((d : ℕ) → (eqb d (digit_of x) && eqb d (digit_of y)) ≡ false) → (holds n c x i && holds n c y i) ≡ false
not_both n c x y i f = mixed (ltb i n) (eqb (digit c i) (digit_of x)) (eqb (digit c i) (digit_of y)) (f (digit c i))
  where
    mixed : (l a b : Bool) → (a && b) ≡ false → ((l && a) && (l && b)) ≡ false
    mixed true a b e = e
    mixed false a b e = refl

two_zero : (d : ℕ) → (eqb d 2 && eqb d 0) ≡ false
two_zero zero = refl
two_zero (suc zero) = refl
two_zero (suc (suc d)) = ap (λ b. eqb (suc (suc d)) 2 && b) (ne_eqb (suc (suc d)) 0 (λ e. omega arith)) ∙ and_false (eqb (suc (suc d)) 2)

two_one : (d : ℕ) → (eqb d 2 && eqb d 1) ≡ false
two_one zero = refl
two_one (suc zero) = refl
two_one (suc (suc d)) = ap (λ b. eqb (suc (suc d)) 2 && b) (ne_eqb (suc (suc d)) 1 (λ e. omega arith)) ∙ and_false (eqb (suc (suc d)) 2)

one_zero : (d : ℕ) → (eqb d 1 && eqb d 0) ≡ false
one_zero zero = refl
one_zero (suc d) = ap (λ b. eqb (suc d) 1 && b) (ne_eqb (suc d) 0 (λ e. omega arith)) ∙ and_false (eqb (suc d) 1)

module _ (n c t f e : ℕ) (mt : Marks t (holds n c Toad)) (mf : Marks f (holds n c Frog)) (me : Marks e (holds n c Empty)) where
  pub left_movers : Marks (bit_and t (bit_or (e / 4) (bit_and (f / 4) (e / 16)))) (can_move n c Left)
  left_movers =
      let E = holds n c Empty in
      let F = holds n c Frog in
      let leap : Marks (bit_and (f / 4) (e / 16)) (λ i. F (i + 1) && E (i + 2)) = marks_and (f / 4) (e / 16) (λ i. F (i + 1)) (λ i. E (i + 2)) (marks_down f F mf 1) (marks_down e E me 2) in
      let to : Marks (bit_or (e / 4) (bit_and (f / 4) (e / 16))) (λ i. E (i + 1) || (F (i + 1) && E (i + 2))) =
      marks_or (e / 4) (bit_and (f / 4) (e / 16)) (λ i. E (i + 1)) (λ i. F (i + 1) && E (i + 2)) (marks_down e E me 1) leap in
      marks_same (bit_and t (bit_or (e / 4) (bit_and (f / 4) (e / 16)))) (λ i. holds n c Toad i && (E (i + 1) || (F (i + 1) && E (i + 2)))) (can_move n c Left)
      (λ i. distribute (holds n c Toad i) (E (i + 1)) (F (i + 1) && E (i + 2)))
      (marks_and t (bit_or (e / 4) (bit_and (f / 4) (e / 16))) (holds n c Toad) (λ i. E (i + 1) || (F (i + 1) && E (i + 2))) mt to)

  -- a frog has no cell ahead of it at the end of the strip, and cell 0 holds no two things
  right_cells : (i : ℕ) → (holds n c Frog i && (cond (ltb i 1) false (holds n c Empty (i - 1)) || (cond (ltb i 1) false (holds n c Toad (i - 1)) && cond (ltb i 2) false (holds n c Empty (i - 2)))))
      ≡ can_move n c Right i
  right_cells zero = and_false (holds n c Frog 0) ∙ sym (ap₂ ◌||◌ (not_both n c Frog Empty 0 two_zero) (third (holds n c Frog 0) (holds n c Toad 0) (holds n c Empty 0) (not_both n c Frog Toad 0 two_one)))
    where
      third : (a b d : Bool) → (a && b) ≡ false → (a && (b && d)) ≡ false
      third true b d h = ap (λ x. x && d) h
      third false b d h = refl
  right_cells (suc zero) = distribute (holds n c Frog 1) (holds n c Empty 0) (holds n c Toad 0 && false)
      ∙ ap (λ b. (holds n c Frog 1 && holds n c Empty 0) || (holds n c Frog 1 && b)) (and_false (holds n c Toad 0) ∙ sym (not_both n c Toad Empty 0 one_zero))
  right_cells (suc (suc i)) =
      rw (le-ltb (suc (suc i)) 1 (omega arith), le-ltb (suc (suc i)) 2 (omega arith)) (distribute (holds n c Frog (suc (suc i))) (holds n c Empty (suc (suc i) - 1)) (holds n c Toad (suc (suc i) - 1) && holds n c Empty (suc (suc i) - 2)))

  pub right_movers : t < 2 ^ 24 → e < 2 ^ 24 → Marks (bit_and f (bit_or (e * 4 % 18446744073709551616) (bit_and (t * 4 % 18446744073709551616) (e * 16 % 18446744073709551616)))) (can_move n c Right)
  right_movers small few =
      let E = holds n c Empty in
      let T = holds n c Toad in
      let e1 : e * 4 ≡ e * 4 % 18446744073709551616 = omega arith in
      let t1 : t * 4 ≡ t * 4 % 18446744073709551616 = omega arith in
      let e2 : e * 16 ≡ e * 16 % 18446744073709551616 = omega arith in
      let leap = marks_and (t * 4) (e * 16) (λ i. cond (ltb i 1) false (T (i - 1))) (λ i. cond (ltb i 2) false (E (i - 2))) (marks_up t T mt 1) (marks_up e E me 2) in
      let to = marks_or (e * 4) (bit_and (t * 4) (e * 16)) (λ i. cond (ltb i 1) false (E (i - 1))) (λ i. cond (ltb i 1) false (T (i - 1)) && cond (ltb i 2) false (E (i - 2))) (marks_up e E me 1) leap in
      let whole = marks_same (bit_and f (bit_or (e * 4) (bit_and (t * 4) (e * 16))))
      (λ i. holds n c Frog i && (cond (ltb i 1) false (E (i - 1)) || (cond (ltb i 1) false (T (i - 1)) && cond (ltb i 2) false (E (i - 2))))) (can_move n c Right) right_cells
      (marks_and f (bit_or (e * 4) (bit_and (t * 4) (e * 16))) (holds n c Frog) (λ i. cond (ltb i 1) false (E (i - 1)) || (cond (ltb i 1) false (T (i - 1)) && cond (ltb i 2) false (E (i - 2)))) mf to) in
      λ k. ap (λ x. bit x k) (ap₂ (λ x y. bit_and f (bit_or x y)) (sym e1) (ap₂ bit_and (sym t1) (sym e2))) ∙ whole k

-- no cell has both its bits exactly when no digit is 3
both_bits : (d : ℕ) → d < 4 → (eqb (d % 2) 1 && eqb (d / 2) 1) ≡ eqb d 3
both_bits zero h = refl
both_bits (suc zero) h = refl
both_bits (suc (suc zero)) h = refl
both_bits (suc (suc (suc zero))) h = refl
both_bits (suc (suc (suc (suc d)))) h = absurd (omega arith)

module _ (n c : ℕ) (few : n ≤ 12) (below : c < 4 ^ n) where
  abbrev threes : ℕ
  threes = bit_and (bit_and c (c / 2)) 6148914691236517205

  threes_marked : Marks threes (λ i. ltb i 32 && eqb (digit c i) 3)
  threes_marked = by_digits 32 6148914691236517205 (marks_evens 32) (bit_and c (c / 2)) (λ i. eqb (digit c i) 3) (λ i h.
      bit_and_lem c (c / 2) (i + i) ∙ ap₂ ◌&&◌ (digit_low c i) (sym (bit_next c (i + i)) ∙ digit_high c i) ∙ both_bits (digit c i) (digit_small c i))

  no_three_here : list_all (λ d. ltb d 3) (cells n c) ≡ true → (i : ℕ) → eqb (digit c i) 3 ≡ false
  no_three_here ok i = elim (cases_lt i n) [
    | inl h ↦ ne_eqb (digit c i) 3 (λ e. let k = ltb-true (digit c i) 3 (every_cell (λ d. ltb d 3) c 0 n i ok (omega arith) (omega arith)) in omega arith)
    | inr h ↦ ap (λ d. eqb d 3) (digit_past n c i below h)
  ]

  all_legal : list_all (λ d. ltb d 3) (cells n c) ≡ true → threes ≡ 0
  all_legal ok = elim (cases_eq threes 0) [
    | inl e ↦ e
    | inr e ↦
        let few_bits : threes < 2 ^ 64 = let k = and_le_r (bit_and c (c / 2)) 6148914691236517205 in omega arith in
        let (k, h, b) = some_bit 64 threes few_bits e in
        absurd (clash (sym b ∙ threes_marked k ∙ ap (λ x. eqb (k % 2) 0 && (ltb (k / 2) 32 && x)) (no_three_here ok (k / 2)) ∙ none (eqb (k % 2) 0) (ltb (k / 2) 32)))
  ]
    where
      none : (a b : Bool) → (a && (b && false)) ≡ false
      none true b = and_false b
      none false b = refl

      clash : true ≡ false → ⊥
      clash e = let z : ◌≡◌ {A = ℕ} 0 1 = cc in omega arith

  legal_all : threes ≡ 0 → list_all (λ d. ltb d 3) (cells n c) ≡ true
  legal_all e = every_from (λ d. ltb d 3) c 0 n (λ i l h.
      let even : (i + i) % 2 ≡ 0 = omega arith in
      let half : (i + i) / 2 ≡ i = omega arith in
      let b : eqb (digit c i) 3 ≡ false =
      sym (ap₂ (λ x y. x && (y && eqb (digit c i) 3)) (eq-eqb ((i + i) % 2) 0 even) (lt-ltb i 32 (omega arith)))
      ∙ ap (λ x. eqb ((i + i) % 2) 0 && (ltb x 32 && eqb (digit c x) 3)) (sym half)
      ∙ sym (threes_marked (i + i)) ∙ ap (λ w. bit w (i + i)) e ∙ bit_none (i + i) in
      let s = digit_small c i in
      lt-ltb (digit c i) 3 (let k = eqb-false (digit c i) 3 b in omega arith))

  pub legal_test : eqb threes 0 ≡ legal n c
  legal_test = go (list_all (λ d. ltb d 3) (cells n c)) refl
    where
      go : (b : Bool) → list_all (λ d. ltb d 3) (cells n c) ≡ b → eqb threes 0 ≡ legal n c
      go true e = rw (lt-ltb c (4 ^ n) below, e) (eq-eqb threes 0 (all_legal e))
      go false e = rw (lt-ltb c (4 ^ n) below, e) (ne_eqb threes 0 (λ z. clash (sym (legal_all z) ∙ e)))
        where
          clash : true ≡ false → ⊥
          clash e = let z : ◌≡◌ {A = ℕ} 0 1 = cc in omega arith

pub limit_is : (n : ℕ) → n ≤ 12 → (1 * 2 ^ (2 * n)) % 18446744073709551616 ≡ 4 ^ n
limit_is n few =
    let twice : 2 * n ≡ n + n = omega arith in
    one_shl_64 (2 * n) (omega arith) ∙ ap (λ k. 2 ^ k) twice ∙ sym (four_pow n)

-- the places of the movers are twice their cells
module _ (n c : ℕ) (s : Side) (w : ℕ) (few : n ≤ 12) (marked : Marks w (can_move n c s)) where
  beyond : (i : ℕ) → n ≤ i → can_move n c s i ≡ false
  beyond i h = rw (le-ltb i n h)

  mover_places : places 64 (bit w) ≡ map (λ i. i + i) (places n (can_move n c s))
  mover_places = marked_places 32 w (can_move n c s) marked ∙ ap (map (λ i. i + i)) (places_more n 32 (can_move n c s) (omega arith) (λ i l h. beyond i l))

  pub mover_count : legal n c ≡ true → length (places 64 (bit w)) ≡ length ((toads n).moves s c)
  mover_count ok =
      ap length mover_places ∙ length-map (places n (can_move n c s)) (λ i. i + i) ∙ sym (length-map (places n (can_move n c s)) (after n c s))
      ∙ ap (λ b. length (cond b (map (after n c s) (places n (can_move n c s))) [])) (sym ok)

  -- the mover at an index: its place is twice its cell, and the successor is what it leads to
  pub record MoverAt (index place : ℕ) : Type 0 where
    pub moves : can_move n c s (place / 2) ≡ true
    pub leads : Some (after n c s (place / 2)) ≡ slice_get ((toads n).moves s c) index

  pub mover_at : legal n c ≡ true → (index place : ℕ) → Some place ≡ slice_get (places 64 (bit w)) index → MoverAt index place
  mover_at ok index place e = found (slice_get (places n (can_move n c s)) index) refl
    where
      ps : List ℕ
      ps = places n (can_move n c s)

      found : (o : Option ℕ) → slice_get (places n (can_move n c s)) index ≡ o → MoverAt index place
      found None f = let z : ◌≡◌ {A = ℕ} 0 1 = (let g : Some place ≡ None = e ∙ ap (λ xs. slice_get xs index) mover_places ∙ slice_get-map (λ i. i + i) (places n (can_move n c s)) index ∙ ap (option_map (λ i. i + i)) f in cc) in absurd (omega arith)
      found (Some i) f =
          let g : Some place ≡ Some (i + i) = e ∙ ap (λ xs. slice_get xs index) mover_places ∙ slice_get-map (λ i. i + i) (places n (can_move n c s)) index ∙ ap (option_map (λ i. i + i)) f in
          let p : place ≡ i + i = cc in
          let half : place / 2 ≡ i = omega arith in
          let (h, k) = nth_some (places n (can_move n c s)) index i (sym f) in
          let m = All-get_or (λ i. (i < n) × (can_move n c s i ≡ true)) (places n (can_move n c s)) index 0 h (all_places n (can_move n c s)) in
          record {
            moves = rw half (rw k at m.1);
            leads = rw half (sym (ap (λ b. slice_get (cond b (map (after n c s) (places n (can_move n c s))) []) index) ok ∙ slice_get-map (after n c s) (places n (can_move n c s)) index ∙ ap (option_map (after n c s)) f));
          }

  pub mover_none : legal n c ≡ true → (index : ℕ) → None ≡ slice_get (places 64 (bit w)) index → None ≡ slice_get ((toads n).moves s c) index
  mover_none ok index e = found (slice_get (places n (can_move n c s)) index) refl
    where
      found : (o : Option ℕ) → slice_get (places n (can_move n c s)) index ≡ o → None ≡ slice_get ((toads n).moves s c) index
      found None f = sym (ap (λ b. slice_get (cond b (map (after n c s) (places n (can_move n c s))) []) index) ok ∙ slice_get-map (after n c s) (places n (can_move n c s)) index ∙ ap (option_map (after n c s)) f)
      found (Some i) f = let z : ◌≡◌ {A = ℕ} 0 1 = (let g : None ≡ Some (i + i) = e ∙ ap (λ xs. slice_get xs index) mover_places ∙ slice_get-map (λ i. i + i) (places n (can_move n c s)) index ∙ ap (option_map (λ i. i + i)) f in cc) in absurd (omega arith)
