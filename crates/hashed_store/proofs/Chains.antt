-- How the chains of the table are walked, and how one grows.
-- Assumes nothing.
use Rattle.std.proofs.Common.{◌≡◌, ℕ, zero, suc, ◌<◌, ◌≤◌, Bool, true, false, cond, ◌&&◌, ◌||◌, eqb, ltb, ◌⊎◌, List, [], ◌∷◌, ◌++◌, length, get_or, set, replicate, Some, None, Option, sym, refl, ap, ◌∙◌, subst, inl, inr, add-one, arith}
use Rattle.std.proofs.lemmas.List.{get_or_append_left, get_or_push, length_push, get_or-set_same, get_or-set_other, get_or-replicate, get_or_read}
use Rattle.std.proofs.lemmas.Bool.{cases_Bool, cases_lt, cases_eq, eqb-true, eqb-false, eq-eqb, ne_eqb, cond-true, cond-false, and_left, lt-ltb, le-ltb, true≢false}
use Rattle.std.proofs.lemmas.Bool.Decides.{not_from_Decides, nat_tests}
use Rattle.games.specs.Numbered.{Lists}
use Rattle.stores.specs.Rows.{Rows, row_at, bare, same_lists, lowest}
use Rattle.hashed_store.specs.Chains.{chain_of, latest, Begins, GoesOn, walk, meets, OneChain}
use Rattle.stores.proofs.Appends.{Taken}
use Rattle.stores.proofs.Lowest.{NoneAt, LowestFrom, lowest_down, lowest_here, lowest_is, same_decides}

-- how many numbers are still to be looked at, when a number is next
abbrev pub reach : Option ℕ → ℕ
reach None = 0
reach (Some n) = suc n

-- what `latest` gives
pub record Latest (rows : Rows) (h n : ℕ) (r : Option ℕ) : Type 0 where
  pub within : reach r ≤ n
  pub again : r ≡ latest rows h (reach r)
  pub gap : (k : ℕ) → reach r ≤ k → k < n → chain_of (row_at rows k) ≡ h → ⊥

pub latest_is : (rows : Rows) (h n : ℕ) → Latest rows h n (latest rows h n)
latest_is rows h zero = record { within = omega arith; again = refl; gap = λ k a b _. omega arith }
latest_is rows h (suc n) = go (latest_is rows h n) (cases_Bool (eqb (chain_of (row_at rows n)) h))
  where
    go : Latest rows h n (latest rows h n) → (eqb (chain_of (row_at rows n)) h ≡ true) ⊎ (eqb (chain_of (row_at rows n)) h ≡ false) → Latest rows h (suc n) (latest rows h (suc n))
    go p (inl t) =
        let e : Some n ≡ latest rows h (suc n) = sym (cond-true (eqb (chain_of (row_at rows n)) h) (Some n) (latest rows h n) t) in
        subst (Latest rows h (suc n)) e (record { within = omega arith; again = e; gap = λ k a b _. omega arith })
    go p (inr t) =
        let e : latest rows h n ≡ latest rows h (suc n) = sym (cond-false (eqb (chain_of (row_at rows n)) h) (Some n) (latest rows h n) t) in
        subst (Latest rows h (suc n)) e (record {
          within = omega (arith, p.within);
          again = p.again;
          gap = λ k a b c. elim (cases_lt k n) [ inl lt ↦ p.gap k a lt c | inr ge ↦ last t k (omega arith) c ];
        })
      where
        last : eqb (chain_of (row_at rows n)) h ≡ false → (k : ℕ) → k ≡ n → chain_of (row_at rows k) ≡ h → ⊥
        last t k e c = eqb-false (chain_of (row_at rows n)) h t (ap (λ m. chain_of (row_at rows m)) (sym e) ∙ c)

-- a number in a chain is of that chain
pub in_chain : (rows : Rows) (h n : ℕ) → Some n ≡ latest rows h (suc n) → chain_of (row_at rows n) ≡ h
in_chain rows h n e = go (cases_Bool (eqb (chain_of (row_at rows n)) h))
  where
    go : (eqb (chain_of (row_at rows n)) h ≡ true) ⊎ (eqb (chain_of (row_at rows n)) h ≡ false) → chain_of (row_at rows n) ≡ h
    go (inl t) = eqb-true (chain_of (row_at rows n)) h t
    go (inr t) =
        let p : Some n ≡ latest rows h n = e ∙ cond-false (eqb (chain_of (row_at rows n)) h) (Some n) (latest rows h n) t in
        let q : suc n ≤ n = subst (λ r. reach r ≤ n) (sym p) (latest_is rows h n).within in
        absurd (omega arith)

-- the walk along the chain of the lists l: the next number, and the lowest found above what is still to come
pub record Walk (rows : Rows) (l : Lists) (next found : Option ℕ) : Type 0 where
  pub place : next ≡ latest rows (chain_of l) (reach next)
  pub within : reach next ≤ length rows
  pub lowest_so_far : LowestFrom rows l (reach next) found

module _ (rows : Rows) (l : Lists) where
  -- the numbers that the chain passes over have other lists
  passed_over : (n : ℕ) → NoneAt rows l (reach (latest rows (chain_of l) n)) n
  passed_over n k a b e = (latest_is rows (chain_of l) n).gap k a b (ap chain_of e)

  pub walk_from : (n : ℕ) (next found : Option ℕ) → next ≡ latest rows (chain_of l) n → n ≤ length rows → LowestFrom rows l n found → Walk rows l next found
  walk_from n next found e h f =
      let p = latest_is rows (chain_of l) n in
      let w : Walk rows l (latest rows (chain_of l) n) found =
      record { place = p.again; within = omega (arith, p.within); lowest_so_far = lowest_down rows l (reach (latest rows (chain_of l) n)) n found p.within (passed_over n) f } in
      subst (λ r. Walk rows l r found) (sym e) w

  pub walk_start : (next : Option ℕ) → next ≡ latest rows (chain_of l) (length rows) → Walk rows l next None
  walk_start next e = walk_from (length rows) next None e (omega arith) (λ k a b _. omega arith)

  -- the step to the next number of the chain, where the row is found or passed
  module _ (n : ℕ) (next found : Option ℕ) (w : Walk rows l (Some n) found) (goes : next ≡ latest rows (chain_of (row_at rows n)) n) where
    onward : next ≡ latest rows (chain_of l) n
    onward = goes ∙ ap (λ h. latest rows h n) (in_chain rows (chain_of l) n w.place)

    pub walk_found : row_at rows n ≡ l → Walk rows l next (Some n)
    walk_found e = walk_from n next (Some n) onward (omega (arith, w.within)) (lowest_here rows l n (omega (arith, w.within)) e)

    pub walk_passed : (row_at rows n ≡ l → ⊥) → Walk rows l next found
    walk_passed no_match =
        walk_from n next found onward (omega (arith, w.within))
        (lowest_down rows l n (suc n) found (omega arith) (λ k a b e. let same : k ≡ n = omega arith in no_match (ap (row_at rows) (sym same) ∙ e)) w.lowest_so_far)

-- the same step, of what the code holds
module _ (rows : Rows) (l : Lists) (lowers : List (Option ℕ)) (level : length lowers ≡ length rows) (goes : GoesOn rows lowers)
    (n : ℕ) (next found next' : Option ℕ) (w : Walk rows l next found) (is : next ≡ Some n) (read : next' ≡ get_or lowers n next') where
  here : Walk rows l (Some n) found
  here = subst (λ x. Walk rows l x found) is w

  lower : next' ≡ latest rows (chain_of (row_at rows n)) n
  lower =
      let k : n < length rows = omega (arith, here.within) in
      get_or_read lowers n next' (omega arith) read None ∙ goes n k

  pub walk_falls : reach next' < reach next
  walk_falls =
      let p = subst (λ x. reach x ≤ n) (sym lower) (latest_is rows (chain_of (row_at rows n)) n).within in
      let q = subst (λ x. reach next' < reach x) (sym is) in
      q (omega arith)

  module _ (same : Bool) (told : same ≡ same_lists (row_at rows n) l) where
    pub walk_then : (found' : Option ℕ) → same ≡ true → found' ≡ Some n → Walk rows l next' found'
    walk_then found' t e = subst (Walk rows l next') (sym e) (walk_found rows l n next' found here lower ((same_decides (row_at rows n) l).0 (sym told ∙ t)))

    pub walk_else : (found' : Option ℕ) → same ≡ false → found' ≡ found → Walk rows l next' found'
    walk_else found' t e =
        subst (Walk rows l next') (sym e)
        (walk_passed rows l n next' found here lower (not_from_Decides (same_lists (row_at rows n) l) (same_decides (row_at rows n) l) (sym told ∙ t)))

-- where the chain ends, the lowest has been found
pub walk_ends : (rows : Rows) (l : Lists) (next found : Option ℕ) → Walk rows l next found → next ≡ None → found ≡ lowest rows l
walk_ends rows l next found w e = lowest_is rows l found (subst (λ x. LowestFrom rows l (reach x) found) e w.lowest_so_far)

-- ---- one row more

module _ (rows : Rows) (l : Lists) where
  pub latest_push : (h n : ℕ) → n ≤ length rows → latest (rows ++ l ∷ []) h n ≡ latest rows h n
  latest_push h zero k = refl
  latest_push h (suc n) k =
      let e : row_at (rows ++ l ∷ []) n ≡ row_at rows n = get_or_append_left rows (l ∷ []) bare n (omega arith) in
      ap (λ r. cond (eqb (chain_of r) h) (Some n) (latest (rows ++ l ∷ []) h n)) e
      ∙ ap (λ t. cond (eqb (chain_of (row_at rows n)) h) (Some n) t) (latest_push h n (omega arith))

  -- the last of its chain, and of no other
  last_row : (h : ℕ) → latest (rows ++ l ∷ []) h (suc (length rows)) ≡ cond (eqb (chain_of l) h) (Some (length rows)) (latest rows h (length rows))
  last_row h =
      let e : row_at (rows ++ l ∷ []) (length rows) ≡ l = get_or_push rows l bare (length rows) refl in
      ap (λ r. cond (eqb (chain_of r) h) (Some (length rows)) (latest (rows ++ l ∷ []) h (length rows))) e
      ∙ ap (λ t. cond (eqb (chain_of l) h) (Some (length rows)) t) (latest_push h (length rows) (omega arith))

  one_more : (h : ℕ) → latest (rows ++ l ∷ []) h (length (rows ++ l ∷ [])) ≡ cond (eqb (chain_of l) h) (Some (length rows)) (latest rows h (length rows))
  one_more h = ap (latest (rows ++ l ∷ []) h) (length_push rows l ∙ add-one (length rows)) ∙ last_row h

  pub begins_push : (firsts : List (Option ℕ)) → length firsts ≡ 128 → Begins rows firsts → chain_of l < 128 → Begins (rows ++ l ∷ []) (set firsts (chain_of l) (Some (length rows)))
  begins_push firsts full b c h k = go (cases_eq h (chain_of l))
    where
      go : (h ≡ chain_of l) ⊎ (h ≡ chain_of l → ⊥) → get_or (set firsts (chain_of l) (Some (length rows))) h None ≡ latest (rows ++ l ∷ []) h (length (rows ++ l ∷ []))
      go (inl e) =
          ap (λ m. get_or (set firsts (chain_of l) (Some (length rows))) m None) e ∙ get_or-set_same firsts (chain_of l) (Some (length rows)) None (omega arith)
          ∙ sym (one_more h ∙ cond-true (eqb (chain_of l) h) (Some (length rows)) (latest rows h (length rows)) (eq-eqb (chain_of l) h (sym e)))
      go (inr f) =
          get_or-set_other firsts (chain_of l) h (Some (length rows)) None f ∙ b h k
          ∙ sym (one_more h ∙ cond-false (eqb (chain_of l) h) (Some (length rows)) (latest rows h (length rows)) (ne_eqb (chain_of l) h (λ e. f (sym e))))

  pub goes_on_push : (lowers : List (Option ℕ)) (x : Option ℕ) → length lowers ≡ length rows → GoesOn rows lowers → x ≡ latest rows (chain_of l) (length rows) → GoesOn (rows ++ l ∷ []) (lowers ++ x ∷ [])
  goes_on_push lowers x level g e n k = go (cases_lt n (length rows))
    where
      go : (n < length rows) ⊎ (length rows ≤ n) → get_or (lowers ++ x ∷ []) n None ≡ latest (rows ++ l ∷ []) (chain_of (row_at (rows ++ l ∷ []) n)) n
      go (inl lt) =
          get_or_append_left lowers (x ∷ []) None n (omega arith) ∙ g n lt
          ∙ sym (ap (λ r. latest (rows ++ l ∷ []) (chain_of r) n) (get_or_append_left rows (l ∷ []) bare n lt) ∙ latest_push (chain_of (row_at rows n)) n (omega arith))
      go (inr ge) =
          let same : length rows ≡ n = omega (arith, length_push rows l) in
          get_or_push lowers x None n (level ∙ same) ∙ e ∙ ap (latest rows (chain_of l)) same
          ∙ sym (ap (λ r. latest (rows ++ l ∷ []) (chain_of r) n) (get_or_push rows l bare n same) ∙ latest_push (chain_of l) n (omega arith))

-- the same of what the code holds: the row is taken as the last, with the number n
module _ (rows after : Rows) (room n : ℕ) (l : Lists) (t : Taken rows after room n l) (chain : ℕ) (of_row : chain ≡ chain_of l) (small : chain < 128) where
  pub begins_kept : (firsts : List (Option ℕ)) → length firsts ≡ 128 → Begins rows firsts → Begins after (set firsts chain (Some n))
  begins_kept firsts full b =
      let p = begins_push rows l firsts full b (rw of_row at small) in
      let q = subst (λ m. Begins (rows ++ l ∷ []) (set firsts (chain_of l) (Some m))) (sym t.number) p in
      let r = subst (λ m. Begins (rows ++ l ∷ []) (set firsts m (Some n))) (sym of_row) q in
      subst (λ m. Begins m (set firsts chain (Some n))) (sym t.last) r

  pub goes_on_kept : (firsts lowers lowers' : List (Option ℕ)) → length lowers ≡ length rows → Begins rows firsts → GoesOn rows lowers →
      lowers' ≡ lowers ++ get_or firsts chain None ∷ [] → GoesOn after lowers'
  goes_on_kept firsts lowers lowers' level b g e =
      let p = goes_on_push rows l lowers (get_or firsts chain None) level g (b chain small ∙ ap (λ h. latest rows h (length rows)) of_row) in
      let q = subst (GoesOn (rows ++ l ∷ [])) (sym e) p in
      subst (λ m. GoesOn m lowers') (sym t.last) q

-- ---- no row

pub begins_none : (rows : Rows) (firsts : List (Option ℕ)) → rows ≡ [] → firsts ≡ replicate 128 None → Begins rows firsts
begins_none rows firsts e f h k =
    ap (λ l. get_or l h None) f ∙ get_or-replicate 128 h None None k ∙ ap (λ (r : Rows). latest r h (length r)) (sym e)

pub goes_on_none : (rows : Rows) (lowers : List (Option ℕ)) → rows ≡ [] → GoesOn rows lowers
goes_on_none rows lowers e n k = let z : length rows ≡ 0 = ap length e in absurd (omega arith)

-- ---- each row is on its chain, and on no other

on_chain : (n k : ℕ) (c : Bool) → (n ≡ k → c ≡ true) → (eqb n k || (ltb k n && c)) ≡ (ltb k (suc n) && c)
on_chain n k true f = grind (arith, nat_tests)
on_chain n k false f = let ne : n ≡ k → ⊥ = (λ (e : n ≡ k). true≢false (sym (f e))) in grind (arith, nat_tests)

off_chain : (n k : ℕ) (c : Bool) → (n ≡ k → c ≡ false) → (ltb k n && c) ≡ (ltb k (suc n) && c)
off_chain n k true f = let ne : n ≡ k → ⊥ = (λ (e : n ≡ k). true≢false (f e)) in grind (arith, nat_tests)
off_chain n k false f = grind (arith, nat_tests)

module _ (rows : Rows) (lowers : List (Option ℕ)) (goes : GoesOn rows lowers) (h : ℕ) where
  -- a walk from the latest number of the chain below n meets the numbers of the chain below n
  abbrev Meets : ℕ → ℕ → Type 0
  Meets n steps = (next : Option ℕ) → n ≤ steps → n ≤ length rows → next ≡ latest rows h n → (k : ℕ) → meets (walk lowers steps next) k ≡ (ltb k n && eqb (chain_of (row_at rows k)) h)

  meets_none : (steps k : ℕ) → meets (walk lowers steps None) k ≡ (ltb k 0 && eqb (chain_of (row_at rows k)) h)
  meets_none zero k = sym (and_left (ltb k 0) (eqb (chain_of (row_at rows k)) h) (le-ltb k 0 (omega arith)))
  meets_none (suc steps) k = sym (and_left (ltb k 0) (eqb (chain_of (row_at rows k)) h) (le-ltb k 0 (omega arith)))

  meets_more : (n steps : ℕ) → Meets n steps → Meets n (suc steps) → Meets (suc n) (suc steps)
  meets_more n steps shorter longer next a b e k = go (cases_Bool (eqb (chain_of (row_at rows n)) h))
    where
      at_n : (c : Bool) → eqb (chain_of (row_at rows n)) h ≡ c → n ≡ k → eqb (chain_of (row_at rows k)) h ≡ c
      at_n c t q = ap (λ m. eqb (chain_of (row_at rows m)) h) (sym q) ∙ t

      go : (eqb (chain_of (row_at rows n)) h ≡ true) ⊎ (eqb (chain_of (row_at rows n)) h ≡ false) → meets (walk lowers (suc steps) next) k ≡ (ltb k (suc n) && eqb (chain_of (row_at rows k)) h)
      go (inl t) =
          let here_is : next ≡ Some n = e ∙ cond-true (eqb (chain_of (row_at rows n)) h) (Some n) (latest rows h n) t in
          let then_is : get_or lowers n None ≡ latest rows h n = goes n (omega arith) ∙ ap (λ m. latest rows m n) (eqb-true (chain_of (row_at rows n)) h t) in
          ap (λ x. meets (walk lowers (suc steps) x) k) here_is
          ∙ ap (λ x. eqb n k || x) (shorter (get_or lowers n None) (omega arith) (omega arith) then_is k)
          ∙ on_chain n k (eqb (chain_of (row_at rows k)) h) (at_n true t)
      go (inr t) =
          longer next (omega arith) (omega arith) (e ∙ cond-false (eqb (chain_of (row_at rows n)) h) (Some n) (latest rows h n) t) k
          ∙ off_chain n k (eqb (chain_of (row_at rows k)) h) (at_n false t)

  meets_below : (n steps : ℕ) → Meets n steps
  meets_below zero steps next a b e k = ap (λ x. meets (walk lowers steps x) k) e ∙ meets_none steps k
  meets_below (suc n) zero next a b e k = absurd (omega arith)
  meets_below (suc n) (suc steps) next a b e k = meets_more n steps (meets_below n steps) (meets_below n (suc steps)) next a b e k

pub one_chain : OneChain
one_chain rows firsts lowers begins goes h n small has =
    meets_below rows lowers goes h (length rows) (length rows) (get_or firsts h None) (omega arith) (omega arith) (begins h small) n
    ∙ ap (λ t. t && eqb (chain_of (row_at rows n)) h) (lt-ltb n (length rows) has)
