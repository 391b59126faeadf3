-- How the ordered list finds a row and takes one in.
-- Assumes nothing.
use Rattle.std.proofs.Common.{◌≡◌, ℕ, zero, suc, ◌+◌, ◌-◌, ◌<◌, ◌≤◌, Bool, true, false, eqb, ◌⊎◌, List, [], ◌∷◌, ◌++◌, length, get_or, Some, None, Ordering, Less, Equal, Greater, sym, refl, ap, ◌∙◌, subst, inl, inr, arith}
use Rattle.std.specs.Ordering.{ordering_then, ordering_reverse, is_lt, nat_cmp}
use Rattle.std.specs.Cmp.{IsTotalOrder, nat_cmp_total, then_total, on_total}
use Rattle.std.specs.List.{insert}
use Rattle.std.specs.List.Sorted.{IsPartitionedBy, IsPartitionPoint}
use Rattle.std.proofs.lemmas.List.{get_or_append_left, get_or_push, length_push, get_or_read, get_or_default}
use Rattle.std.proofs.lemmas.List.Edits.{length-insert, get_or-insert_below, get_or-insert_at, get_or-insert_above}
use Rattle.std.specs.Bool.{then_some}
use Rattle.std.proofs.lemmas.Bool.{cases_Bool, cases_lt, cases_eq, cases_order, eqb-true, eq-eqb, or_cases, or_left, or_right, true≢false}
use Rattle.std.proofs.lemmas.Bool.Decides.{not_from_Decides}
use Rattle.games.specs.Numbered.{Lists}
use Rattle.stores.specs.Rows.{Rows, row_at, bare, same_lists, lowest}
use Rattle.stores.specs.Order.{number_order, row_order}
use Rattle.stores.proofs.Order.{not_less, cases_ordering, then_equal, number_equal, number_less, row_equal, row_itself}
use Rattle.ordered_store.specs.Rising.{entry_order, holds, HaveRows, HoldsAll, Rises, ComesFirst, Belongs}
use Rattle.stores.proofs.Appends.{Taken}
use Rattle.stores.proofs.Lowest.{NoneAt, lowest_is, same_decides}
use Rattle.std.specs.Cmp.Lexicographic.{slice_cmp, nat_list_cmp_total}

-- a row with its number, as a key of a total order of std
abbrev Key : Type 0
Key = (List ℕ × List ℕ) × ℕ

abbrev key : Lists → ℕ → Key
key l n = ((l.left, l.right), n)

abbrev order : Key → Key → Ordering
order = (λ x y. ordering_then (ordering_then ((slice_cmp nat_cmp) x.0.0 y.0.0) ((slice_cmp nat_cmp) x.0.1 y.0.1)) (nat_cmp x.1 y.1))

order_total : IsTotalOrder order
order_total = then_total (then_total (on_total (λ (p : Key). p.0.0) nat_list_cmp_total) (on_total (λ (p : Key). p.0.1) nat_list_cmp_total)) (on_total (λ (p : Key). p.1) nat_cmp_total)

pub entry_flip : (a : Lists) (m : ℕ) (b : Lists) (n : ℕ) → entry_order a m b n ≡ ordering_reverse (entry_order b n a m)
entry_flip a m b n = order_total.antisymm (key a m) (key b n)

pub entry_trans : (a : Lists) (m : ℕ) (b : Lists) (n : ℕ) (c : Lists) (k : ℕ) → entry_order a m b n ≡ Less → entry_order b n c k ≡ Less → entry_order a m c k ≡ Less
entry_trans a m b n c k = order_total.trans (key a m) (key b n) (key c k)

-- of the same row, the lower number comes first
same_row_less : (a b : Lists) (m n : ℕ) → a ≡ b → entry_order a m b n ≡ Less → m < n
same_row_less a b m n e h =
    let p : row_order a b ≡ Equal = ap (row_order a) (sym e) ∙ row_itself a in
    number_less m n (ap (λ o. ordering_then o (number_order m n)) (sym p) ∙ h)

-- ---- numbers in rising order

-- what stands at a place: the row and its number
abbrev EntryLess : Rows → List ℕ → ℕ → ℕ → Type 0
EntryLess rows xs j k = entry_order (row_at rows (get_or xs j 0)) (get_or xs j 0) (row_at rows (get_or xs k 0)) (get_or xs k 0) ≡ Less

less_from : (o : Ordering) → is_lt o ≡ true → o ≡ Less
less_from Less e = refl
less_from Equal e = absurd (true≢false (sym e))
less_from Greater e = absurd (true≢false (sym e))

next_less : (rows : Rows) (xs : List ℕ) → Rises rows xs → (k : ℕ) → k + 1 < length xs → EntryLess rows xs k (k + 1)
next_less rows xs up k h = less_from (entry_order (row_at rows (get_or xs k 0)) (get_or xs k 0) (row_at rows (get_or xs (k + 1) 0)) (get_or xs (k + 1) 0)) (up k h)

-- not only neighbours rise
pub rises_far : (rows : Rows) (xs : List ℕ) → Rises rows xs → (d j : ℕ) → j + suc d < length xs → EntryLess rows xs j (j + suc d)
rises_far rows xs up zero j h = next_less rows xs up j h
rises_far rows xs up (suc d) j h =
    let p = rises_far rows xs up d j (omega arith) in
    let e : j + suc (suc d) ≡ j + suc d + 1 = omega arith in
    let q : EntryLess rows xs (j + suc d) (j + suc d + 1) = next_less rows xs up (j + suc d) (omega arith) in
    let r = entry_trans (row_at rows (get_or xs j 0)) (get_or xs j 0) (row_at rows (get_or xs (j + suc d) 0)) (get_or xs (j + suc d) 0) (row_at rows (get_or xs (j + suc d + 1) 0)) (get_or xs (j + suc d + 1) 0) p q in
    subst (EntryLess rows xs j) (sym e) r

pub rises_all : (rows : Rows) (xs : List ℕ) → Rises rows xs → (j k : ℕ) → j < k → k < length xs → EntryLess rows xs j k
rises_all rows xs up j k h l =
    let e : j + suc (k - suc j) ≡ k = omega arith in
    subst (EntryLess rows xs j) e (rises_far rows xs up (k - suc j) j (omega arith))

-- ---- where a row belongs

module _ (rows : Rows) (xs : List ℕ) (up : Rises rows xs) (l : Lists) (n : ℕ) where
  abbrev First : ℕ → Type 0
  First = ComesFirst rows xs l n

  -- all before one that comes first come first too
  firsts : (j k : ℕ) → j ≤ k → k < length xs → First k → First j
  firsts j k h lt f = go (cases_eq j k)
    where
      go : (j ≡ k) ⊎ (j ≡ k → ⊥) → First j
      go (inl e) = subst (ComesFirst rows xs l n) (sym e) f
      go (inr ne) =
          let jk : j < k = omega arith in
          entry_trans (row_at rows (get_or xs j 0)) (get_or xs j 0) (row_at rows (get_or xs k 0)) (get_or xs k 0) l n (rises_all rows xs up j k jk lt) f

  -- whether a number of the list comes first
  abbrev pub comes_first : ℕ → Bool
  comes_first x = is_lt (entry_order (row_at rows x) x l n)

  -- so none that comes first stands behind one that does not
  pub parted : IsPartitionedBy comes_first xs
  parted i j d h lt t =
      let f : First j = less_from _ (ap comes_first (get_or_default xs j 0 d lt) ∙ t) in
      ap comes_first (get_or_default xs i d 0 (omega arith)) ∙ ap is_lt (firsts i j h lt f)

  pub belongs : (place : ℕ) → place ≤ length xs → IsPartitionPoint (λ x. comes_first x ≡ true) (λ x. comes_first x ≡ false) xs place → Belongs rows xs l n place
  belongs place h p = record {
    within = h;
    first = λ k lt. less_from _ (p.0 k 0 (omega arith) lt);
    then = λ k ge lt f. true≢false (sym (ap is_lt f) ∙ p.1 k 0 ge lt);
  }

-- a number that was read from the list has a row
pub number_has_row : (rows : Rows) (xs : List ℕ) → HaveRows rows xs → (i x : ℕ) → i < length xs → x ≡ get_or xs i x → x < length rows
number_has_row rows xs have i x h e = subst (λ m. m < length rows) (sym (get_or_read xs i x h e 0)) (have i h)

-- ---- the list holds every number

holds_at : (xs : List ℕ) (n : ℕ) → holds xs n ≡ true → (k : ℕ) × (k < length xs) × (get_or xs k 0 ≡ n)
holds_at [] n h = absurd (true≢false (sym h))
holds_at (x ∷ xs) n h = go (holds_at xs n) (or_cases (eqb x n) (holds xs n) h)
  where
    go : (holds xs n ≡ true → (k : ℕ) × (k < length xs) × (get_or xs k 0 ≡ n)) → (eqb x n ≡ true) ⊎ (holds xs n ≡ true) → (k : ℕ) × (k < length (x ∷ xs)) × (get_or (x ∷ xs) k 0 ≡ n)
    go rec (inl e) = (0, omega arith, eqb-true x n e)
    go rec (inr t) = let (k, lt, e) = rec t in (suc k, omega arith, e)

at_holds : (xs : List ℕ) (n k : ℕ) → k < length xs → get_or xs k 0 ≡ n → holds xs n ≡ true
at_holds [] n k h e = absurd (omega arith)
at_holds (x ∷ xs) n zero h e = or_left (eqb x n) (holds xs n) (eq-eqb x n e)
at_holds (x ∷ xs) n (suc k) h e = or_right (eqb x n) (holds xs n) (at_holds xs n k (omega arith) e)

-- ---- what a search finds

module _ (rows : Rows) (xs : List ℕ) (all : HoldsAll rows xs) (up : Rises rows xs) (l : Lists) (place : ℕ) (b : Belongs rows xs l 0 place) where
  -- a number whose row has the lists l does not stand before the place
  not_before : (n : ℕ) → row_at rows n ≡ l → (k : ℕ) → get_or xs k 0 ≡ n → place ≤ k
  not_before n e k at = go (cases_lt k place)
    where
      go : (k < place) ⊎ (place ≤ k) → place ≤ k
      go (inr ge) = ge
      go (inl lt) =
          let low : get_or xs k 0 < 0 = same_row_less (row_at rows (get_or xs k 0)) l (get_or xs k 0) 0 (ap (row_at rows) at ∙ e) (b.first k lt) in
          absurd (omega arith)

  finds_here : (x : ℕ) → place < length xs → x ≡ get_or xs place 0 → x < length rows → row_at rows x ≡ l → Some x ≡ lowest rows l
  finds_here x within is has same = lowest_is rows l (Some x) (has, same, omega arith, none)
    where
      none : NoneAt rows l 0 x
      none n z below e = go (holds_at xs n (all n (omega arith)))
        where
          go : ((k : ℕ) × (k < length xs) × (get_or xs k 0 ≡ n)) → ⊥
          go (k, lt, at) =
              let p : place ≤ k = not_before n e k at in
              let ne : place ≡ k → ⊥ = (λ (q : place ≡ k). let r : x ≡ n = is ∙ ap (λ m. get_or xs m 0) q ∙ at in omega arith) in
              let f = rises_all rows xs up place k (omega arith) lt in
              let g : get_or xs place 0 < get_or xs k 0 =
              same_row_less (row_at rows (get_or xs place 0)) (row_at rows (get_or xs k 0)) (get_or xs place 0) (get_or xs k 0)
              (ap (row_at rows) (sym is) ∙ same ∙ sym e ∙ ap (row_at rows) (sym at)) f in
              omega arith

  pub finds_end : length xs ≤ place → None ≡ lowest rows l
  finds_end end = lowest_is rows l None (λ n z has e. gone n e (holds_at xs n (all n has)))
    where
      gone : (n : ℕ) → row_at rows n ≡ l → ((k : ℕ) × (k < length xs) × (get_or xs k 0 ≡ n)) → ⊥
      gone n e (k, lt, at) = let p = not_before n e k at in omega arith

  -- the row at the place is later, so are all after it
  finds_none : (x : ℕ) → place < length xs → x ≡ get_or xs place 0 → (row_at rows x ≡ l → ⊥) → None ≡ lowest rows l
  finds_none x within is other = lowest_is rows l None (λ n z has e. gone n e (holds_at xs n (all n has)))
    where
      later : row_order (row_at rows (get_or xs place 0)) l ≡ Greater
      later = go (cases_ordering (row_order (row_at rows (get_or xs place 0)) l))
        where
          go : (row_order (row_at rows (get_or xs place 0)) l ≡ Less) ⊎ ((row_order (row_at rows (get_or xs place 0)) l ≡ Equal) ⊎ (row_order (row_at rows (get_or xs place 0)) l ≡ Greater)) →
              row_order (row_at rows (get_or xs place 0)) l ≡ Greater
          go (inl p) = absurd (b.then place (omega arith) within (ap (λ o. ordering_then o (number_order (get_or xs place 0) 0)) p))
          go (inr (inl p)) = absurd (other (ap (row_at rows) is ∙ row_equal (row_at rows (get_or xs place 0)) l p))
          go (inr (inr p)) = p

      gone : (n : ℕ) → row_at rows n ≡ l → ((k : ℕ) × (k < length xs) × (get_or xs k 0 ≡ n)) → ⊥
      gone n e (k, lt, at) = go (cases_eq place k)
        where
          here_is : row_at rows (get_or xs k 0) ≡ l
          here_is = ap (row_at rows) at ∙ e

          go : (place ≡ k) ⊎ (place ≡ k → ⊥) → ⊥
          go (inl q) = other (ap (row_at rows) (is ∙ ap (λ m. get_or xs m 0) q) ∙ here_is)
          go (inr ne) =
              let p : place ≤ k = not_before n e k at in
              let f = rises_all rows xs up place k (omega arith) lt in
              let g : row_order (row_at rows (get_or xs place 0)) (row_at rows (get_or xs k 0)) ≡ Greater = ap (row_order (row_at rows (get_or xs place 0))) here_is ∙ later in
              not_less (entry_order (row_at rows (get_or xs place 0)) (get_or xs place 0) (row_at rows (get_or xs k 0)) (get_or xs k 0)) f
              (inr (ap (λ o. ordering_then o (number_order (get_or xs place 0) (get_or xs k 0))) g))

-- the same of what the code holds: the number x at the place, and whether its row has the lists l
pub finds : (rows : Rows) (xs : List ℕ) → HaveRows rows xs → HoldsAll rows xs → Rises rows xs → (l : Lists) (place : ℕ) → Belongs rows xs l 0 place →
    (x : ℕ) → place < length xs → x ≡ get_or xs place x → then_some (same_lists (row_at rows x) l) x ≡ lowest rows l
finds rows xs have all up l place b x within read = elim (cases_Bool (same_lists (row_at rows x) l)) [
  | inl t ↦ ap (λ s. then_some s x) t ∙ finds_here rows xs all up l place b x within (get_or_read xs place x within read 0) (number_has_row rows xs have place x within read) ((same_decides (row_at rows x) l).0 t)
  | inr f ↦ ap (λ s. then_some s x) f ∙ finds_none rows xs all up l place b x within (get_or_read xs place x within read 0) (not_from_Decides (same_lists (row_at rows x) l) (same_decides (row_at rows x) l) f)
]

-- ---- one row more

module _ (rows : Rows) (xs : List ℕ) (l : Lists) (have : HaveRows rows xs) (up : Rises rows xs) (place : ℕ) (b : Belongs rows xs l (length rows) place) where
  abbrev more : Rows
  more = rows ++ l ∷ []

  abbrev grown : List ℕ
  grown = insert xs place (length rows)

  -- what stands in the grown list at a place: before, at, or after the new number
  at_below : (k : ℕ) → k < place → get_or grown k 0 ≡ get_or xs k 0
  at_below k h = get_or-insert_below xs place (length rows) 0 k h b.within

  at_place : get_or grown place 0 ≡ length rows
  at_place = get_or-insert_at xs place (length rows) 0 b.within

  at_above : (k : ℕ) → place ≤ k → get_or grown (k + 1) 0 ≡ get_or xs k 0
  at_above k h = get_or-insert_above xs place (length rows) 0 k h b.within

  longer : length grown ≡ length xs + 1
  longer = length-insert xs place (length rows) b.within

  old_row : (k : ℕ) → k < length xs → row_at more (get_or xs k 0) ≡ row_at rows (get_or xs k 0)
  old_row k h = get_or_append_left rows (l ∷ []) bare (get_or xs k 0) (have k h)

  new_row : row_at more (length rows) ≡ l
  new_row = get_or_push rows l bare (length rows) refl

  -- the entries of two numbers of the new rows, by what they were
  entries : (a c m n : ℕ) (p q : Lists) → a ≡ m → c ≡ n → row_at more m ≡ p → row_at more n ≡ q → entry_order p m q n ≡ Less → entry_order (row_at more a) a (row_at more c) c ≡ Less
  entries a c m n p q e f g h k =
      ap (λ x. entry_order (row_at more x) x (row_at more c) c) e ∙ ap (λ x. entry_order (row_at more m) m (row_at more x) x) f
      ∙ ap (λ r. entry_order r m (row_at more n) n) g ∙ ap (λ r. entry_order p m r n) h ∙ k

  -- what does not come before the new row comes after it
  comes_after : (k : ℕ) → place ≤ k → k < length xs → entry_order l (length rows) (row_at rows (get_or xs k 0)) (get_or xs k 0) ≡ Less
  comes_after k h lt = go (cases_ordering (entry_order (row_at rows (get_or xs k 0)) (get_or xs k 0) l (length rows)))
    where
      go : (entry_order (row_at rows (get_or xs k 0)) (get_or xs k 0) l (length rows) ≡ Less)
          ⊎ ((entry_order (row_at rows (get_or xs k 0)) (get_or xs k 0) l (length rows) ≡ Equal) ⊎ (entry_order (row_at rows (get_or xs k 0)) (get_or xs k 0) l (length rows) ≡ Greater)) →
          entry_order l (length rows) (row_at rows (get_or xs k 0)) (get_or xs k 0) ≡ Less
      go (inl p) = absurd (b.then k h lt p)
      go (inr (inl p)) =
          let q = then_equal (row_order (row_at rows (get_or xs k 0)) l) (number_order (get_or xs k 0) (length rows)) p in
          let r = number_equal (get_or xs k 0) (length rows) q.1 in
          absurd (omega (arith, have k lt))
      go (inr (inr p)) = entry_flip l (length rows) (row_at rows (get_or xs k 0)) (get_or xs k 0) ∙ ap ordering_reverse p

  pub have_more : HaveRows more grown
  have_more k h = go (cases_order k place)
    where
      go : (k ≡ place) ⊎ ((k < place) ⊎ (place < k)) → get_or grown k 0 < length more
      go (inl e) = let p = ap (λ m. get_or grown m 0) e ∙ at_place in omega (arith, length_push rows l)
      go (inr (inl lt)) = omega (arith, at_below k lt, have k (omega (arith, b.within)), length_push rows l)
      go (inr (inr gt)) =
          let e : k - 1 + 1 ≡ k = omega arith in
          let p = ap (λ m. get_or grown m 0) (sym e) ∙ at_above (k - 1) (omega arith) in
          omega (arith, have (k - 1) (omega (arith, longer)), length_push rows l)

  pub holds_more : HoldsAll rows xs → HoldsAll more grown
  holds_more all n h = go (cases_lt n (length rows))
    where
      moved : ((k : ℕ) × (k < length xs) × (get_or xs k 0 ≡ n)) → holds grown n ≡ true
      moved (k, lt, at) = elim (cases_lt k place) [
        | inl below ↦ at_holds grown n k (omega (arith, longer)) (at_below k below ∙ at)
        | inr above ↦ at_holds grown n (k + 1) (omega (arith, longer)) (at_above k above ∙ at)
      ]

      go : (n < length rows) ⊎ (length rows ≤ n) → holds grown n ≡ true
      go (inl lt) = moved (holds_at xs n (all n lt))
      go (inr ge) =
          let e : length rows ≡ n = omega (arith, length_push rows l) in
          at_holds grown n place (omega (arith, longer, b.within)) (at_place ∙ e)

  next_more : (k : ℕ) → k + 1 < length grown → EntryLess more grown k (k + 1)
  next_more k h = go (cases_order (k + 1) place)
    where
      go : (k + 1 ≡ place) ⊎ ((k + 1 < place) ⊎ (place < k + 1)) → EntryLess more grown k (k + 1)
      go (inl e) =
          let i : k < length xs = omega (arith, b.within) in
          entries (get_or grown k 0) (get_or grown (k + 1) 0) (get_or xs k 0) (length rows) (row_at rows (get_or xs k 0)) l
          (at_below k (omega arith)) (ap (λ m. get_or grown m 0) e ∙ at_place) (old_row k i) new_row (b.first k (omega arith))
      go (inr (inl lt)) =
          let i : k + 1 < length xs = omega (arith, b.within) in
          entries (get_or grown k 0) (get_or grown (k + 1) 0) (get_or xs k 0) (get_or xs (k + 1) 0) (row_at rows (get_or xs k 0)) (row_at rows (get_or xs (k + 1) 0))
          (at_below k (omega arith)) (at_below (k + 1) lt) (old_row k (omega arith)) (old_row (k + 1) i) (next_less rows xs up k i)
      go (inr (inr gt)) = past (cases_eq k place)
        where
          past : (k ≡ place) ⊎ (k ≡ place → ⊥) → EntryLess more grown k (k + 1)
          past (inl e) =
              let i : k < length xs = omega (arith, longer) in
              entries (get_or grown k 0) (get_or grown (k + 1) 0) (length rows) (get_or xs k 0) l (row_at rows (get_or xs k 0))
              (ap (λ m. get_or grown m 0) e ∙ at_place) (at_above k (omega arith)) new_row (old_row k i) (comes_after k (omega arith) i)
          past (inr ne) =
              let i : k < length xs = omega (arith, longer) in
              let e : k - 1 + 1 ≡ k = omega arith in
              let f : k - 1 < length xs = omega arith in
              let g : EntryLess rows xs (k - 1) k = subst (EntryLess rows xs (k - 1)) e (next_less rows xs up (k - 1) (omega arith)) in
              entries (get_or grown k 0) (get_or grown (k + 1) 0) (get_or xs (k - 1) 0) (get_or xs k 0) (row_at rows (get_or xs (k - 1) 0)) (row_at rows (get_or xs k 0))
              (ap (λ m. get_or grown m 0) (sym e) ∙ at_above (k - 1) (omega arith)) (at_above k (omega arith)) (old_row (k - 1) f) (old_row k i) g

  pub rises_more : Rises more grown
  rises_more k h = ap is_lt (next_more k h)

-- the same of what the code holds: the row is taken as the last, with the number n, and n is inserted at its place
module _ (rows after : Rows) (room n : ℕ) (l : Lists) (t : Taken rows after room n l) (xs ys : List ℕ) (place count : ℕ) (is : count ≡ length rows)
    (b : Belongs rows xs l count place) (e : ys ≡ insert xs place n) (have : HaveRows rows xs) (up : Rises rows xs) where
  belongs_last : Belongs rows xs l (length rows) place
  belongs_last = subst (λ m. Belongs rows xs l m place) is b

  ys_are : insert xs place (length rows) ≡ ys
  ys_are = ap (insert xs place) (sym t.number) ∙ sym e

  moved_to : (P : Rows → List ℕ → Type 0) → P (rows ++ l ∷ []) (insert xs place (length rows)) → P after ys
  moved_to P h = subst (λ r. P r ys) (sym t.last) (subst (P (rows ++ l ∷ [])) ys_are h)

  pub have_kept : HaveRows after ys
  have_kept = moved_to HaveRows (have_more rows xs l have up place belongs_last)

  pub holds_kept : HoldsAll rows xs → HoldsAll after ys
  holds_kept all = moved_to HoldsAll (holds_more rows xs l have up place belongs_last all)

  pub rises_kept : Rises after ys
  rises_kept = moved_to Rises (rises_more rows xs l have up place belongs_last)
