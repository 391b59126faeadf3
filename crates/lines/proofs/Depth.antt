-- How many brackets of a text are open: as many as the symbols of texts that are still to come.
-- Assumes nothing.
use Rattle.std.proofs.Common.{◌≡◌, ℕ, suc, ◌+◌, ◌≤◌, Bool, true, false, cond, not, ◌&&◌, eqb, List, [], ◌∷◌, ◌++◌, refl, ap, subst, ap₂, arith}
use mathlib.Core.Option.{Option, none, some}
use Rattle.calls.specs.Texts.{times, nesting}
use Rattle.lines.specs.Machine.{Symbol, just, line, line_word, subject, subject_word, board, board_word, side, squares, more_squares, cells, more_cells, from, from_digits, to, to_digits, colour, more_edges, text, in_left, after_left, in_right, after_right, rules, pick, onto, next, run}
use Rattle.lines.specs.Machine.{weight, depth}
use Rattle.lines.proofs.Machine.{never_some, Each, picked}

abbrev opens : ℕ → ℕ
opens b = cond (eqb 123 b) 1 0

abbrev closes : ℕ → ℕ
closes b = cond (eqb 125 b) 1 0

-- no bracket of a text is asked for as a byte by itself
abbrev quiet : Symbol → Bool
quiet (just b) = not (eqb 123 b) && not (eqb 125 b)
quiet line = true
quiet line_word = true
quiet subject = true
quiet subject_word = true
quiet board = true
quiet board_word = true
quiet side = true
quiet squares = true
quiet more_squares = true
quiet cells = true
quiet more_cells = true
quiet from = true
quiet from_digits = true
quiet to = true
quiet to_digits = true
quiet colour = true
quiet more_edges = true
quiet text = true
quiet in_left = true
quiet after_left = true
quiet in_right = true
quiet after_right = true

abbrev all_quiet : List Symbol → Bool
all_quiet [] = true
all_quiet (x ∷ k) = quiet x && all_quiet k

pub depth_++ : (s k : List Symbol) → depth (s ++ k) ≡ depth s + depth k
depth_++ [] k = omega arith
depth_++ (x ∷ s) k = let e = depth_++ s k in omega arith

both : (a b : Bool) → a && b ≡ true → (a ≡ true) × (b ≡ true)
both true b e = (refl, e)
both false b e = let z : ◌≡◌ {A = ℕ} 0 1 = cc in absurd (omega arith)

quiet_++ : (s k : List Symbol) → all_quiet s ≡ true → all_quiet k ≡ true → all_quiet (s ++ k) ≡ true
quiet_++ [] k p q = q
quiet_++ (x ∷ s) k p q = let (a, b) = both (quiet x) (all_quiet s) p in ap₂ ◌&&◌ a (quiet_++ s k b q)

abbrev Balanced : Symbol → ℕ → List Symbol → Type 0
Balanced x b s = (all_quiet s ≡ true) × (weight x + opens b ≡ depth s + closes b)

same : {n : ℕ} → (true ≡ true) × (n ≡ n)
same = (refl, refl)

balanced : (x : Symbol) → quiet x ≡ true → Each (Balanced x) (rules x)
balanced (just b) q = ((refl, go (eqb 123 b) (eqb 125 b) q), tt)
  where
    go : (m n : Bool) → not m && not n ≡ true → 0 + cond m 1 0 ≡ 0 + cond n 1 0
    go true n e = let z : ◌≡◌ {A = ℕ} 0 1 = cc in absurd (omega arith)
    go false true e = let z : ◌≡◌ {A = ℕ} 0 1 = cc in absurd (omega arith)
    go false false e = refl
balanced line q = (same, tt)
balanced line_word q = (same, (same, (same, tt)))
balanced subject q = (same, tt)
balanced subject_word q = (same, (same, (same, (same, (same, (same, tt))))))
balanced board q = (same, tt)
balanced board_word q = (same, (same, (same, tt)))
balanced side q = (same, (same, tt))
balanced squares q = (same, (same, tt))
balanced more_squares q = (same, (same, (same, (same, tt))))
balanced cells q = (same, (same, (same, tt)))
balanced more_cells q = (same, (same, (same, (same, tt))))
balanced from q = (same, (same, (same, (same, (same, (same, (same, (same, (same, (same, tt))))))))))
balanced from_digits q = (same, (same, (same, (same, (same, (same, (same, (same, (same, (same, (same, tt)))))))))))
balanced to q = (same, (same, (same, (same, (same, (same, (same, (same, (same, (same, tt))))))))))
balanced to_digits q = (same, (same, (same, (same, (same, (same, (same, (same, (same, (same, (same, (same, (same, tt)))))))))))))
balanced colour q = (same, (same, (same, tt)))
balanced more_edges q = (same, (same, tt))
balanced text q = (same, tt)
balanced in_left q = (same, (same, tt))
balanced after_left q = (same, (same, tt))
balanced in_right q = (same, (same, tt))
balanced after_right q = (same, (same, tt))

next_balanced : (s s' : List Symbol) (b : ℕ) → all_quiet s ≡ true → next s b ≡ some s' → (all_quiet s' ≡ true) × (depth s + opens b ≡ depth s' + closes b)
next_balanced [] s' b q e = let z : ◌≡◌ {A = ℕ} 0 1 = cc in absurd (omega arith)
next_balanced (x ∷ k) s' b q e = go (pick b (rules x)) refl e
  where
    go : (o : Option (List Symbol)) → pick b (rules x) ≡ o → onto o k ≡ some s' → (all_quiet s' ≡ true) × (depth (x ∷ k) + opens b ≡ depth s' + closes b)
    go none p d = let z : ◌≡◌ {A = ℕ} 0 1 = cc in absurd (omega arith)
    go (some r) p d =
        let (qx, qk) = both (quiet x) (all_quiet k) q in
        let (qr, er) = picked (Balanced x) (rules x) b r (balanced x qx) p in
        let y : r ++ k ≡ s' = cc in
        let f = depth_++ r k in
        let g = ap depth y in
        (subst (λ v. all_quiet v ≡ true) y (quiet_++ r k qr qk), omega arith)

times_opens : (b : ℕ) (t : List ℕ) (x : ℕ) → times x (b ∷ t) ≡ cond (eqb x b) 1 0 + times x t
times_opens b t x = go (eqb x b)
  where
    go : (c : Bool) → cond c (suc (times x t)) (times x t) ≡ cond c 1 0 + times x t
    go true = omega arith
    go false = omega arith

run_balanced : (t : List ℕ) (s s' : List Symbol) → all_quiet s ≡ true → run (some s) t ≡ some s' → (all_quiet s' ≡ true) × (depth s + times 123 t ≡ depth s' + times 125 t)
run_balanced [] s s' q e = let y : s ≡ s' = cc in (subst (λ v. all_quiet v ≡ true) y q, ap (λ v. depth v + 0) y)
run_balanced (b ∷ t) s s' q e = go (λ r. run_balanced t r s') (next s b) refl e
  where
    go : ((r : List Symbol) → all_quiet r ≡ true → run (some r) t ≡ some s' → (all_quiet s' ≡ true) × (depth r + times 123 t ≡ depth s' + times 125 t)) → (o : Option (List Symbol)) → next s b ≡ o → run o t ≡ some s' → (all_quiet s' ≡ true) × (depth s + times 123 (b ∷ t) ≡ depth s' + times 125 (b ∷ t))
    go later none p d = absurd (never_some t d)
    go later (some r) p d =
        let (qr, er) = next_balanced s r b q p in
        let (qs, f) = later r qr d in
        let g = times_opens b t 123 in
        let h = times_opens b t 125 in
        (qs, omega arith)

pub nesting_is : (t : List ℕ) (s : List Symbol) → run (some (line ∷ [])) t ≡ some s → nesting t ≡ depth s
nesting_is t s e = let (q, f) = run_balanced t (line ∷ []) s refl e in omega arith

-- one byte opens one bracket at most
pub one_deeper : (t : List ℕ) (s s' : List Symbol) (b : ℕ) → run (some (line ∷ [])) t ≡ some s → next s b ≡ some s' → depth s' ≤ depth s + 1
one_deeper t s s' b e d =
    let (q, f) = run_balanced t (line ∷ []) s refl e in
    let (q', g) = next_balanced s s' b q d in
    let h = most (eqb 123 b) in
    omega arith
  where
    most : (c : Bool) → cond c 1 0 ≤ 1
    most true = omega arith
    most false = omega arith
