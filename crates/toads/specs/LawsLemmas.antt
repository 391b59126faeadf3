-- The strip keeps the laws of a ruleset.
-- Assumes nothing.
use Rattle.std.specs.Prelude.{◌≡◌, ℕ, suc, ◌+◌, ◌-◌, ◌*◌, ◌%◌, ◌^◌, ◌<◌, ◌≤◌, Bool, true, false, cond, ◌&&◌, ◌||◌, ltb, ◌≢◌, List, [], ◌++◌, map, length, count_by, ◌==◌, nat_lt, refl}
use Rattle.std.proofs.Common.{sym, ◌∙◌, ap, ap₂, inl, inr, arith}
use Rattle.std.proofs.Math.Nat.{pow-le-pow_right}
use Rattle.std.specs.List.{range_with_len, AllByRecursion}
use Rattle.std.proofs.lemmas.List.FromFn.{length-map-range_with_len}
use Rattle.std.proofs.ByRecursion.{All-map, All-weaker}
use Rattle.std.proofs.lemmas.List.{length-map}
use Rattle.std.proofs.lemmas.Bool.{cases_eq, and_parts, and_from, eqb-true, eq-eqb, ltb-true, lt-ltb}
use Rattle.bits.specs.Bits.{places}
use Rattle.bits.specs.Digits.{digit}
use Rattle.bits.proofs.Digits.{digit_within, four_pow}
use Rattle.bits.proofs.Places.{all_places, length_places}
use Rattle.std.proofs.lemmas.Nat.{shl_whole}
use Rattle.games.specs.Sides.{other}
use Rattle.games.specs.declared.side.Side.{Side}
use Rattle.games.specs.declared.side.Side.TheVariants.{Left, Right}
use Rattle.rulesets.specs.Rules.{Lawful}
use Rattle.toads.specs.Cells.{Cell, Empty, Toad, Frog, digit_of}
use Rattle.toads.specs.Toads.{cells, legal, holds, piece, ahead, steps, leaps, can_move, target, shifted, after, pairs, toads}
use Rattle.toads.specs.Laws.{MoveReads}
use Rattle.toads.specs.Moves.{every_cell, every_from, left_empty, now_there, others_stay, still_below}
use Rattle.toads.specs.Ranks.{window_falls, two_less, three_less, two_same, three_same, toad_step, frog_step, toad_leap, frog_leap, pairs_small}

pub holds_is : (n c : ℕ) (x : Cell) (i : ℕ) → holds n c x i ≡ true → (i < n) × (digit c i ≡ digit_of x)
holds_is n c x i e = let p = and_parts (nat_lt i n) (digit c i == digit_of x) e in (ltb-true i n p.0, eqb-true (digit c i) (digit_of x) p.1)

pub legal_below : (n c : ℕ) → legal n c ≡ true → c < 4 ^ n
legal_below n c e = ltb-true c (4 ^ n) (and_parts (nat_lt c (4 ^ n)) _ e).0

-- a legal code after digit d, 1 or 2, has left cell i for the empty cell j
module _ (n c d i j : ℕ) (ok : legal n c ≡ true) (small : d < 3) (from : digit c i ≡ d) (free : digit c j ≡ 0) (apart : i ≢ j) (on : j < n) where
  moved_legal : legal n (shifted d i j c) ≡ true
  moved_legal =
      and_from (nat_lt (shifted d i j c) (4 ^ n)) _ (lt-ltb _ _ (still_below c d i j (omega arith) from free apart n (legal_below n c ok) on))
      (every_from (λ x. ltb x 3) (shifted d i j c) 0 n (λ k l h. elim (cases_eq k i) [
        | inl e ↦ rw (e, left_empty c d i j (omega arith) from free apart)
        | inr p ↦ elim (cases_eq k j) [
          | inl e ↦ rw (e, now_there c d i j (omega arith) from free apart) (lt-ltb d 3 small)
          | inr q ↦ rw (others_stay c d i j (omega arith) from free apart k p q) (every_cell (λ x. ltb x 3) c 0 n k (and_parts (nat_lt c (4 ^ n)) _ ok).1 l h)
        ]
      ]))

-- what a move leads to
pub record Moved (n c e : ℕ) : Type 0 where
  pub still_legal : legal n e ≡ true
  pub one_less : suc (pairs (cells n e)) ≡ pairs (cells n c)

module _ (n c : ℕ) (ok : legal n c ≡ true) where
  -- a move within the window of m cells from cell a, whose cells then count one pair less
  goes : (d i j a m : ℕ) → d < 3 → digit c i ≡ d → digit c j ≡ 0 → i ≢ j → a ≤ i → i < a + m → a ≤ j → j < a + m → a + m ≤ n
      → ((p : ℕ → Bool) → count_by p (map (digit (shifted d i j c)) (range_with_len a m)) ≡ count_by p (map (digit c) (range_with_len a m)))
      → ((post : List ℕ) → suc (pairs (map (digit (shifted d i j c)) (range_with_len a m) ++ post)) ≡ pairs (map (digit c) (range_with_len a m) ++ post))
      → Moved n c (shifted d i j c)
  goes d i j a m small from free apart li hi lj hj on same less = record {
    still_legal = moved_legal n c d i j ok small from free apart (omega arith);
    one_less = window_falls n a m c (shifted d i j c) on (λ k w. others_stay c d i j (omega arith) from free apart k (λ q. elim w [ inl l ↦ omega arith | inr l ↦ omega arith ]) (λ q. elim w [ inl l ↦ omega arith | inr l ↦ omega arith ])) same less;
  }

  left_step : (i : ℕ) → steps n c Left i ≡ true → Moved n c (shifted 1 i (i + 1) c)
  left_step i h =
      let p = and_parts (holds n c Toad i) (holds n c Empty (i + 1)) h in
      let a = holds_is n c Toad i p.0 in
      let b = holds_is n c Empty (i + 1) p.1 in
      let apart : i ≢ i + 1 = λ e. omega arith in
      let x = left_empty c 1 i (i + 1) (omega arith) a.1 b.1 apart in
      let y = now_there c 1 i (i + 1) (omega arith) a.1 b.1 apart in
      goes 1 i (i + 1) i 2 (omega arith) a.1 b.1 apart (omega arith) (omega arith) (omega arith) (omega arith) (omega (arith, b.0))
      (two_same i c (shifted 1 i (i + 1) c) (x ∙ sym b.1) (y ∙ sym a.1))
      (two_less 0 1 (digit (shifted 1 i (i + 1) c) i) (digit (shifted 1 i (i + 1) c) (i + 1)) (digit c i) (digit c (i + 1)) x y a.1 b.1 toad_step)

  left_leap : (i : ℕ) → leaps n c Left i ≡ true → Moved n c (shifted 1 i (i + 2) c)
  left_leap i h =
      let p = and_parts (holds n c Toad i) (holds n c Frog (i + 1) && holds n c Empty (i + 2)) h in
      let q = and_parts (holds n c Frog (i + 1)) (holds n c Empty (i + 2)) p.1 in
      let a = holds_is n c Toad i p.0 in
      let m = holds_is n c Frog (i + 1) q.0 in
      let b = holds_is n c Empty (i + 2) q.1 in
      let two : i + 1 + 1 ≡ i + 2 = omega arith in
      let apart : i ≢ i + 2 = λ e. omega arith in
      let e = shifted 1 i (i + 2) c in
      let x = left_empty c 1 i (i + 2) (omega arith) a.1 b.1 apart in
      let z : digit e (i + 1 + 1) ≡ 1 = ap (digit e) two ∙ now_there c 1 i (i + 2) (omega arith) a.1 b.1 apart in
      let b' : digit c (i + 1 + 1) ≡ 0 = ap (digit c) two ∙ b.1 in
      let y : digit e (i + 1) ≡ digit c (i + 1) = others_stay c 1 i (i + 2) (omega arith) a.1 b.1 apart (i + 1) (λ r. omega arith) (λ r. omega arith) in
      goes 1 i (i + 2) i 3 (omega arith) a.1 b.1 apart (omega arith) (omega arith) (omega arith) (omega arith) (omega (arith, b.0))
      (three_same i c e (x ∙ sym b') y (z ∙ sym a.1))
      (three_less 0 2 1 (digit e i) (digit e (i + 1)) (digit e (i + 1 + 1)) (digit c i) (digit c (i + 1)) (digit c (i + 1 + 1)) x (y ∙ m.1) z a.1 m.1 b' toad_leap)

  right_step : (i : ℕ) → steps n c Right i ≡ true → Moved n c (shifted 2 i (i - 1) c)
  right_step i h =
      let p = and_parts (holds n c Frog i) (holds n c Empty (i - 1)) h in
      let a = holds_is n c Frog i p.0 in
      let b = holds_is n c Empty (i - 1) p.1 in
      let apart : i ≢ i - 1 = λ e. let d = sym a.1 ∙ ap (digit c) e ∙ b.1 in omega arith in
      let one : i - 1 + 1 ≡ i = omega arith in
      let e = shifted 2 i (i - 1) c in
      let x = now_there c 2 i (i - 1) (omega arith) a.1 b.1 apart in
      let y : digit e (i - 1 + 1) ≡ 0 = ap (digit e) one ∙ left_empty c 2 i (i - 1) (omega arith) a.1 b.1 apart in
      let a' : digit c (i - 1 + 1) ≡ 2 = ap (digit c) one ∙ a.1 in
      goes 2 i (i - 1) (i - 1) 2 (omega arith) a.1 b.1 apart (omega arith) (omega arith) (omega arith) (omega arith) (omega (arith, a.0))
      (two_same (i - 1) c e (x ∙ sym a') (y ∙ sym b.1))
      (two_less 2 0 (digit e (i - 1)) (digit e (i - 1 + 1)) (digit c (i - 1)) (digit c (i - 1 + 1)) x y b.1 a' frog_step)

  right_leap : (i : ℕ) → leaps n c Right i ≡ true → Moved n c (shifted 2 i (i - 2) c)
  right_leap i h =
      let p = and_parts (holds n c Frog i) (holds n c Toad (i - 1) && holds n c Empty (i - 2)) h in
      let q = and_parts (holds n c Toad (i - 1)) (holds n c Empty (i - 2)) p.1 in
      let a = holds_is n c Frog i p.0 in
      let m = holds_is n c Toad (i - 1) q.0 in
      let b = holds_is n c Empty (i - 2) q.1 in
      let first : i ≢ i - 1 = λ e. let d = sym a.1 ∙ ap (digit c) e ∙ m.1 in omega arith in
      let second : i - 1 ≢ i - 2 = λ e. let d = sym m.1 ∙ ap (digit c) e ∙ b.1 in omega arith in
      let apart : i ≢ i - 2 = λ e. omega arith in
      let one : i - 2 + 1 ≡ i - 1 = omega arith in
      let two : i - 2 + 1 + 1 ≡ i = omega arith in
      let e = shifted 2 i (i - 2) c in
      let x = now_there c 2 i (i - 2) (omega arith) a.1 b.1 apart in
      let z : digit e (i - 2 + 1 + 1) ≡ 0 = ap (digit e) two ∙ left_empty c 2 i (i - 2) (omega arith) a.1 b.1 apart in
      let m' : digit c (i - 2 + 1) ≡ 1 = ap (digit c) one ∙ m.1 in
      let a' : digit c (i - 2 + 1 + 1) ≡ 2 = ap (digit c) two ∙ a.1 in
      let y : digit e (i - 2 + 1) ≡ digit c (i - 2 + 1) = others_stay c 2 i (i - 2) (omega arith) a.1 b.1 apart (i - 2 + 1) (λ r. omega arith) (λ r. omega arith) in
      goes 2 i (i - 2) (i - 2) 3 (omega arith) a.1 b.1 apart (omega arith) (omega arith) (omega arith) (omega arith) (omega (arith, a.0))
      (three_same (i - 2) c e (x ∙ sym a') y (z ∙ sym b.1))
      (three_less 2 1 0 (digit e (i - 2)) (digit e (i - 2 + 1)) (digit e (i - 2 + 1 + 1)) (digit c (i - 2)) (digit c (i - 2 + 1)) (digit c (i - 2 + 1 + 1)) x (y ∙ m') z b.1 m' a' frog_leap)

  -- a move of either side
  pub move_falls : (s : Side) (i : ℕ) → can_move n c s i ≡ true → Moved n c (after n c s i)
  move_falls s i h = go s (steps n c s i) refl h
    where
      go : (s : Side) (b : Bool) → steps n c s i ≡ b → (steps n c s i || leaps n c s i) ≡ true → Moved n c (after n c s i)
      go Left true e k = rw e (left_step i e)
      go Left false e k = rw e (left_leap i (sym (ap (λ b. b || leaps n c Left i) e) ∙ k))
      go Right true e k = rw e (right_step i e)
      go Right false e k = rw e (right_leap i (sym (ap (λ b. b || leaps n c Right i) e) ∙ k))

-- all the laws
pub toads_lawful : (n : ℕ) → n ≤ 12 → Lawful (toads n)
toads_lawful n few = record {
  limit_low = pow-le-pow_right {n = 4} (omega arith) {i = 0} {j = n} (omega arith);
  limit_high = let k = pow-le-pow_right {n = 4} (omega arith) {i = n} {j = 12} few in omega arith;
  width_high = omega arith;
  depth_high = omega arith;
  below = legal_below n;
  narrow = λ s c. narrow s c (legal n c);
  shallow = λ c. shallow c (legal n c);
  falls = λ s c. falls s c (legal n c) refl;
  no_moves = λ s c e. ap (λ b. cond b (map (after n c s) (places n (can_move n c s))) []) e;
  no_rank = λ c e. ap (λ b. cond b (pairs (cells n c)) 0) e;
}
  where
    narrow : (s : Side) (c : ℕ) (b : Bool) → length (cond b (map (after n c s) (places n (can_move n c s))) []) ≤ 12
    narrow s c true = let k = length_places n (can_move n c s) in let m = length-map (places n (can_move n c s)) (after n c s) in omega arith
    narrow s c false = omega arith

    shallow : (c : ℕ) (b : Bool) → cond b (pairs (cells n c)) 0 ≤ 48
    shallow c true = pairs_small (cells n c) (let k = length-map-range_with_len (digit c) 0 n in omega arith)
    shallow c false = omega arith

    ranks : (c e : ℕ) → legal n c ≡ true → Moved n c e → (legal n e ≡ true) × (cond (legal n e) (pairs (cells n e)) 0 < cond (legal n c) (pairs (cells n c)) 0)
    ranks c e ok m = (m.still_legal, rw (m.still_legal, ok) (let k = m.one_less in omega arith))

    falls : (s : Side) (c : ℕ) (b : Bool) → legal n c ≡ b → AllByRecursion (λ e. (legal n e ≡ true) × (cond (legal n e) (pairs (cells n e)) 0 < cond (legal n c) (pairs (cells n c)) 0)) (cond b (map (after n c s) (places n (can_move n c s))) [])
    falls s c true ok = All-map _ (after n c s) (places n (can_move n c s)) (All-weaker _ _ (λ i h. ranks c (after n c s i) ok (move_falls n c ok s i h.1)) (places n (can_move n c s)) (all_places n (can_move n c s)))
    falls s c false ok = tt

-- what a move asks: the piece stands in its cell, and the cell that it moves into is another one and empty
pub record Goes (n c : ℕ) (s : Side) (i : ℕ) : Type 0 where
  pub off : i < n
  pub on : target n c s i < n
  pub from : digit c i ≡ digit_of (piece s)
  pub free : digit c (target n c s i) ≡ 0

pub move_goes : (n c : ℕ) (s : Side) (i : ℕ) → can_move n c s i ≡ true → Goes n c s i
move_goes n c s i h = go (steps n c s i) refl h
  where
    go : (b : Bool) → steps n c s i ≡ b → (steps n c s i || leaps n c s i) ≡ true → Goes n c s i
    go true e k =
        let p = and_parts (holds n c (piece s) i) (holds n c Empty (ahead s i 1)) e in
        let a = holds_is n c (piece s) i p.0 in
        let b = holds_is n c Empty (ahead s i 1) p.1 in
        let to : target n c s i ≡ ahead s i 1 = ap (λ b. cond b (ahead s i 1) (ahead s i 2)) e in
        record { off = a.0; on = rw to b.0; from = a.1; free = rw to b.1 }
    go false e k =
        let l : leaps n c s i ≡ true = sym (ap (λ b. b || leaps n c s i) e) ∙ k in
        let p = and_parts (holds n c (piece s) i) (holds n c (piece (other s)) (ahead s i 1) && holds n c Empty (ahead s i 2)) l in
        let q = and_parts (holds n c (piece (other s)) (ahead s i 1)) (holds n c Empty (ahead s i 2)) p.1 in
        let a = holds_is n c (piece s) i p.0 in
        let b = holds_is n c Empty (ahead s i 2) q.1 in
        let to : target n c s i ≡ ahead s i 2 = ap (λ b. cond b (ahead s i 1) (ahead s i 2)) e in
        record { off = a.0; on = rw to b.0; from = a.1; free = rw to b.1 }

-- a digit moved up to its place in a word of 64 bits
pub digit_up : (d i : ℕ) → d < 3 → i < 12 → d * 2 ^ (2 * i) % 18446744073709551616 ≡ d * 4 ^ i
digit_up d i small few =
    let twice : 2 * i ≡ i + i = omega arith in
    let e : 2 ^ (2 * i) ≡ 4 ^ i = ap (λ k. 2 ^ k) twice ∙ sym (four_pow i) in
    shl_whole d 2 (2 * i) 64 (omega arith) (omega arith) ∙ ap (λ x. d * x) e

piece_small : (s : Side) → digit_of (piece s) < 3
piece_small Left = omega arith
piece_small Right = omega arith

-- so the words hold a move
module _ (n c : ℕ) (s : Side) (i : ℕ) (few : n ≤ 12) (ok : legal n c ≡ true) (h : can_move n c s i ≡ true) where
  up_from : digit_of (piece s) * 2 ^ (2 * i) % 18446744073709551616 ≡ digit_of (piece s) * 4 ^ i
  up_from = let g = (move_goes n c s i h).off in digit_up (digit_of (piece s)) i (piece_small s) (omega arith)

  up_to : digit_of (piece s) * 2 ^ (2 * target n c s i) % 18446744073709551616 ≡ digit_of (piece s) * 4 ^ target n c s i
  up_to = let g = (move_goes n c s i h).on in digit_up (digit_of (piece s)) (target n c s i) (piece_small s) (omega arith)

  pub word_leaves : digit_of (piece s) * 2 ^ (2 * i) % 18446744073709551616 ≤ c
  word_leaves = rw (up_from, ← (move_goes n c s i h).from) (digit_within c i)

  pub word_moves : c - digit_of (piece s) * 2 ^ (2 * i) % 18446744073709551616 + digit_of (piece s) * 2 ^ (2 * target n c s i) % 18446744073709551616 ≡ after n c s i
  word_moves = ap₂ (λ x y. c - x + y) up_from up_to

  pub word_fits : c - digit_of (piece s) * 2 ^ (2 * i) % 18446744073709551616 + digit_of (piece s) * 2 ^ (2 * target n c s i) % 18446744073709551616 < 2 ^ 24
  word_fits =
      let below = legal_below n (after n c s i) (move_falls n c ok s i h).still_legal in
      let most = pow-le-pow_right {n = 4} (omega arith) {i = n} {j = 12} few in
      let e = word_moves in
      omega arith

  -- the same of any number that is the piece's digit
  pub digit_leaves : (d : ℕ) → d ≡ digit_of (piece s) → d * 2 ^ (2 * i) % 18446744073709551616 ≤ c
  digit_leaves d is = rw is word_leaves

  pub digit_moves : (d : ℕ) → d ≡ digit_of (piece s) → c - d * 2 ^ (2 * i) % 18446744073709551616 + d * 2 ^ (2 * target n c s i) % 18446744073709551616 ≡ after n c s i
  digit_moves d is = rw is word_moves

  pub digit_fits : (d : ℕ) → d ≡ digit_of (piece s) → c - d * 2 ^ (2 * i) % 18446744073709551616 + d * 2 ^ (2 * target n c s i) % 18446744073709551616 < 2 ^ 24
  digit_fits d is = rw is word_fits

-- what a move does to the cells
pub move_reads : (n : ℕ) → MoveReads n
move_reads n c s i h =
    let g = move_goes n c s i h in
    let d = digit_of (piece s) in
    let t = target n c s i in
    let small : d < 3 = piece_small s in
    let apart : i ≢ t = λ e. not_empty s (sym g.from ∙ ap (digit c) e ∙ g.free) in
    record {
      stood = and_from (nat_lt i n) _ (lt-ltb i n g.off) (eq-eqb (digit c i) d g.from);
      was_empty = and_from (nat_lt t n) _ (lt-ltb t n g.on) (eq-eqb (digit c t) 0 g.free);
      left_empty = and_from (nat_lt i n) _ (lt-ltb i n g.off) (eq-eqb (digit (after n c s i) i) 0 (left_empty c d i t (omega arith) g.from g.free apart));
      now_there = and_from (nat_lt t n) _ (lt-ltb t n g.on) (eq-eqb (digit (after n c s i) t) d (now_there c d i t (omega arith) g.from g.free apart));
      others = others_stay c d i t (omega arith) g.from g.free apart;
    }
  where
    not_empty : (s : Side) → digit_of (piece s) ≢ 0
    not_empty Left e = omega arith
    not_empty Right e = omega arith
