-- The machine: running on, below other symbols, and to an end.
-- Assumes nothing.
use Rattle.std.proofs.Common.{◌≡◌, ℕ, Bool, true, false, cond, eqb, List, [], ◌∷◌, ◌++◌, codes, sym, refl, ap, ◌∙◌, subst, append_assoc, arith}
use mathlib.Core.Option.{Option, none, some}
use Rattle.std.proofs.lemmas.Bool.{eqb-true, eq-eqb}
use Rattle.lines.specs.Machine.{Symbol, just, line, line_word, subject, subject_word, board, board_word, side, squares, more_squares, cells, more_cells, from, from_digits, to, to_digits, colour, more_edges, text, in_left, after_left, in_right, after_right, letters, rules, pick, onto, next, step, run}

pub run_++ : (q : Option (List Symbol)) (a b : List ℕ) → run q (a ++ b) ≡ run (run q a) b
run_++ q [] b = refl
run_++ q (x ∷ a) b = run_++ (step q x) a b

pub run_none : (t : List ℕ) → run none t ≡ none
run_none [] = refl
run_none (b ∷ t) = run_none t

pub never_some : {s : List Symbol} (t : List ℕ) → run none t ≡ some s → ⊥
never_some t e = let d = run_none t in let z : ◌≡◌ {A = ℕ} 0 1 = cc in omega arith

-- what holds of each rule holds of the one that is picked
abbrev pub Each : (ℕ → List Symbol → Type 0) → List (ℕ × List Symbol) → Type 0
Each P [] = Unit {0}
Each P (r ∷ rs) = P r.0 r.1 × Each P rs

pub picked : (P : ℕ → List Symbol → Type 0) (rs : List (ℕ × List Symbol)) (b : ℕ) (s : List Symbol) → Each P rs → pick b rs ≡ some s → P b s
picked P [] b s h e = let z : ◌≡◌ {A = ℕ} 0 1 = cc in absurd (omega arith)
picked P (r ∷ rs) b s h e = go (picked P rs b s h.1) (eqb b r.0) refl e
  where
    go : (pick b rs ≡ some s → P b s) → (c : Bool) → eqb b r.0 ≡ c → cond c (some r.1) (pick b rs) ≡ some s → P b s
    go later true q d = let x : r.0 ≡ b = sym (eqb-true b r.0 q) in let y : r.1 ≡ s = cc in subst (λ v. P b v) y (subst (λ v. P v r.1) x h.0)
    go later false q d = later d

-- the symbols below others do not matter
pub next_under : (s s' k : List Symbol) (b : ℕ) → next s b ≡ some s' → next (s ++ k) b ≡ some (s' ++ k)
next_under [] s' k b e = let z : ◌≡◌ {A = ℕ} 0 1 = cc in absurd (omega arith)
next_under (x ∷ s) s' k b e = go (pick b (rules x)) e
  where
    go : (q : Option (List Symbol)) → onto q s ≡ some s' → onto q (s ++ k) ≡ some (s' ++ k)
    go none d = let z : ◌≡◌ {A = ℕ} 0 1 = cc in absurd (omega arith)
    go (some r) d = let y : r ++ s ≡ s' = cc in ap some (sym (append_assoc r s k) ∙ ap (λ v. v ++ k) y)

pub run_under : (t : List ℕ) (s s' k : List Symbol) → run (some s) t ≡ some s' → run (some (s ++ k)) t ≡ some (s' ++ k)
run_under [] s s' k e = let y : s ≡ s' = cc in ap (λ v. some (v ++ k)) y
run_under (b ∷ t) s s' k e = go (λ r. run_under t r s' k) (next s b) refl e
  where
    go : ((r : List Symbol) → run (some r) t ≡ some s' → run (some (r ++ k)) t ≡ some (s' ++ k)) → (q : Option (List Symbol)) → next s b ≡ q → run q t ≡ some s' → run (next (s ++ k) b) t ≡ some (s' ++ k)
    go later none p d = absurd (never_some t d)
    go later (some r) p d = ap (λ v. run v t) (next_under s r k b p) ∙ later r d

-- a text that the first symbols take whole
pub run_through : (t u : List ℕ) (s k : List Symbol) → run (some s) t ≡ some [] → run (some (s ++ k)) (t ++ u) ≡ run (some k) u
run_through t u s k e = run_++ (some (s ++ k)) t u ∙ ap (λ v. run v u) (run_under t s [] k e)

-- every stack has a text that empties it
abbrev sample : Symbol → List ℕ
sample (just b) = b ∷ []
sample line = codes "(value (toads T))"
sample line_word = codes "value (toads T))"
sample subject = codes "(toads T)"
sample subject_word = codes "toads T)"
sample board = codes "(toads T)"
sample board_word = codes "toads T)"
sample side = codes "L"
sample squares = codes ".)"
sample more_squares = codes ")"
sample cells = codes "T)"
sample more_cells = codes ")"
sample from = codes "0-0L)"
sample from_digits = codes "-0L)"
sample to = codes "0L)"
sample to_digits = codes "L)"
sample colour = codes "L)"
sample more_edges = codes ")"
sample text = codes "{|}"
sample in_left = codes "|}"
sample after_left = codes "|}"
sample in_right = codes "}"
sample after_right = codes "}"

pub run_just : (b : ℕ) (k : List Symbol) → next (just b ∷ k) b ≡ some k
run_just b k = ap (λ c. onto (cond c (some []) none) k) (eq-eqb b b refl)

sample_runs : (x : Symbol) → run (some (x ∷ [])) (sample x) ≡ some []
sample_runs (just b) = run_just b []
sample_runs line = refl
sample_runs line_word = refl
sample_runs subject = refl
sample_runs subject_word = refl
sample_runs board = refl
sample_runs board_word = refl
sample_runs side = refl
sample_runs squares = refl
sample_runs more_squares = refl
sample_runs cells = refl
sample_runs more_cells = refl
sample_runs from = refl
sample_runs from_digits = refl
sample_runs to = refl
sample_runs to_digits = refl
sample_runs colour = refl
sample_runs more_edges = refl
sample_runs text = refl
sample_runs in_left = refl
sample_runs after_left = refl
sample_runs in_right = refl
sample_runs after_right = refl

pub completes : (s : List Symbol) → (t : List ℕ) × (run (some s) t ≡ some [])
completes [] = ([], refl)
completes (x ∷ k) = let (t, e) = completes k in (sample x ++ t, run_through (sample x) t (x ∷ []) k (sample_runs x) ∙ e)

-- a word
pub run_word : (w u : List ℕ) (k : List Symbol) → run (some (letters w ++ k)) (w ++ u) ≡ run (some k) u
run_word [] u k = refl
run_word (b ∷ w) u k = ap (λ q. run q (w ++ u)) (run_just b (letters w ++ k)) ∙ run_word w u k
