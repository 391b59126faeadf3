-- What a draft holds once it is emptied, and once a number is put.
-- Assumes nothing.
use Rattle.std.proofs.Common.{◌≡◌, ℕ, zero, suc, ◌<◌, ◌≤◌, Bool, true, false, cond, ◌&&◌, ◌||◌, eqb, ltb, ◌⊎◌, ◌↔◌, List, [], ◌∷◌, sym, refl, ap, ◌∙◌, subst, inl, inr, ⊎_elim, arith, lt-ltb, eq-eqb, eqb-true}
use Rattle.games.specs.declared.side.Side.{Side}
use Rattle.games.specs.declared.side.Side.TheVariants.{Left, Right}
use Rattle.games.specs.Numbered.{Lists, list_of}
use Rattle.games.specs.Sides.{other}
use Rattle.std.proofs.lemmas.Bool.{cases_eq, cases_lt}
use Rattle.nodesets.specs.Pairs.{Sets, by}
use Rattle.nodesets.proofs.Words.{mem_past}
use Rattle.calls.specs.Rows.{◌among◌, first, later, no_numbers}
use Rattle.calls.specs.Runs.{put}
use Rattle.dictionary.specs.Kept.{ListsOf}
use Rattle.drafts.specs.Holding.{DraftsHold}

-- nothing is in an empty set
pub lists_none : (o : Sets) → ((s : Side) (k : ℕ) → o s k ≡ false) → ListsOf o no_numbers
lists_none o e Left k = (λ i. elim i [ ], λ h. let f = e Left k in let z : ◌≡◌ {A = ℕ} 0 1 = cc in absurd (omega arith))
lists_none o e Right k = (λ i. elim i [ ], λ h. let f = e Right k in let z : ◌≡◌ {A = ℕ} 0 1 = cc in absurd (omega arith))

-- a list with one number more, and the set with it
module _ (n : ℕ) (few : n ≤ 383) (ns : List ℕ) (was is : ℕ → Bool) (has : (k : ℕ) → is k ≡ ((eqb k n && ltb k 384) || was k)) (held : (k : ℕ) → (k among ns) ↔ (was k ≡ true)) where
  into : (k : ℕ) → k among (n ∷ ns) → is k ≡ true
  into k first = let e = eq-eqb k k refl in let l = lt-ltb k 384 (omega arith) in has k ∙ simp (e, l)
  into k (later i) = has k ∙ or_true (eqb k n && ltb k 384) ((held k).0 i)
    where
      or_true : (b : Bool) {c : Bool} → c ≡ true → (b || c) ≡ true
      or_true true e = refl
      or_true false e = e

  out_of : (k : ℕ) → is k ≡ true → k among (n ∷ ns)
  out_of k e = go (eqb k n) (ltb k 384) (was k) refl refl (sym (has k) ∙ e)
    where
      go : (b c d : Bool) → eqb k n ≡ b → was k ≡ d → ((b && c) || d) ≡ true → k among (n ∷ ns)
      go true c d p q h = subst (λ m. k among (m ∷ ns)) (eqb-true k n p) first
      go false c true p q h = later ((held k).1 q)
      go false c false p q h = let z : ◌≡◌ {A = ℕ} 0 1 = cc in absurd (omega arith)

  pub one_more : (k : ℕ) → (k among (n ∷ ns)) ↔ (is k ≡ true)
  one_more k = (into k, out_of k)

same : (ns : List ℕ) (was is : ℕ → Bool) → ((k : ℕ) → is k ≡ was k) → ((k : ℕ) → (k among ns) ↔ (was k ≡ true)) → (k : ℕ) → (k among ns) ↔ (is k ≡ true)
same ns was is e held k = (λ i. e k ∙ (held k).0 i, λ h. (held k).1 (sym (e k) ∙ h))

-- one more number on a side
pub lists_put : (s : Side) (n : ℕ) → n ≤ 383 → (o o' : Sets) → ((k : ℕ) → o' s k ≡ ((eqb k n && ltb k 384) || o s k)) → ((k : ℕ) → o' (other s) k ≡ o (other s) k)
    → (l : Lists) → ListsOf o l → ListsOf o' (put s n l)
lists_put Left n few o o' own theirs l held Left k = one_more n few l.left (o Left) (o' Left) own (held Left) k
lists_put Left n few o o' own theirs l held Right k = same l.right (o Right) (o' Right) theirs (held Right) k
lists_put Right n few o o' own theirs l held Left k = same l.left (o Left) (o' Left) theirs (held Left) k
lists_put Right n few o o' own theirs l held Right k = one_more n few l.right (o Right) (o' Right) own (held Right) k

-- the numbers below n that pass a test
passing : (ℕ → Bool) → ℕ → List ℕ
passing p zero = []
passing p (suc n) = cond (p n) (n ∷ passing p n) (passing p n)

passes_case : (p : ℕ → Bool) (n k : ℕ) (xs : List ℕ) (b : Bool) → p n ≡ b → (k among xs → p k ≡ true) → k among cond b (n ∷ xs) xs → p k ≡ true
passes_case p n k xs true e lower first = e
passes_case p n k xs true e lower (later j) = lower j
passes_case p n k xs false e lower j = lower j

passes : (p : ℕ → Bool) (n k : ℕ) → k among passing p n → p k ≡ true
unfolding passing
passes p zero k i = elim i [ ]
passes p (suc n) k i = passes_case p n k (passing p n) (p n) refl (passes p n k) i

found : (p : ℕ → Bool) (n k : ℕ) → k < n → p k ≡ true → k among passing p n
unfolding passing
found p zero k h e = absurd (omega arith)
found p (suc n) k h e = go (cases_eq k n) (λ l. found p n k l e)
  where
    more : (b : Bool) → k among passing p n → k among cond b (n ∷ passing p n) (passing p n)
    more true i = later i
    more false i = i

    go : (k ≡ n) ⊎ (k ≡ n → ⊥) → (k < n → k among passing p n) → k among cond (p n) (n ∷ passing p n) (passing p n)
    go (inl same) lower = subst (λ b. k among cond b (n ∷ passing p n) (passing p n)) (sym (ap p (sym same) ∙ e)) (subst (λ m. k among (m ∷ passing p n)) same first)
    go (inr apart) lower = more (p n) (lower (omega arith))

-- two sets of numbers below 384 have lists
pub lists_some : (o : Sets) → ((s : Side) (k : ℕ) → 384 ≤ k → o s k ≡ false) → (l : Lists) × ListsOf o l
lists_some o past = (record { left = passing (o Left) 384; right = passing (o Right) 384 }, both)
  where
    below : (s : Side) (k : ℕ) → o s k ≡ true → k < 384
    below s k e = ⊎_elim (λ h. h) (λ h. let f = past s k h in let z : ◌≡◌ {A = ℕ} 0 1 = cc in absurd (omega arith)) (cases_lt k 384)

    both : (s : Side) (k : ℕ) → (k among list_of s (record { left = passing (o Left) 384; right = passing (o Right) 384 })) ↔ (o s k ≡ true)
    both Left k = (passes (o Left) 384 k, λ e. found (o Left) 384 k (below Left k e) e)
    both Right k = (passes (o Right) 384 k, λ e. found (o Right) 384 k (below Right k e) e)

pub drafts_hold : DraftsHold
drafts_hold d = lists_some (by d.numbers) past
  where
    past : (s : Side) (k : ℕ) → 384 ≤ k → by d.numbers s k ≡ false
    past Left k h = mem_past d.numbers.left.words k d.numbers.left.six h
    past Right k h = mem_past d.numbers.right.words k d.numbers.right.six h
