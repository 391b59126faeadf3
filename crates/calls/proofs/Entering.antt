-- What sealing in turn does to the rows, and what its entries are.
-- Assumes nothing.
use Rattle.std.proofs.Common.{◌≡◌, ℕ, ◌<◌, ◌≤◌, ◌⊎◌, List, [], ◌∷◌, ◌++◌, length, get_or, None, Option, refl, ◌∙◌, inl, inr, arith}
use native.Mathlib.Decide.{dec_lt}
use Rattle.std.specs.List.{AllByRecursion}
use Rattle.std.proofs.lemmas.List.{length-append}
use Rattle.games.specs.Form.{Form, Forms, form, ∅, ◌&◌}
use Rattle.games.specs.Numbered.{each}
use Rattle.games.proofs.Order.{≈_trans}
use Rattle.calls.specs.Rows.{Rows, no_numbers, node, ◌among◌, first, later}
use Rattle.calls.specs.Answers.{Answer, told, refused, refused_at}
use Rattle.calls.specs.Sealing.{Seals, found, added, too_wide, no_place}
use Rattle.calls.specs.Entering.{Entry, entry, made, parts, parts_of_all, SealsInTurn, done, next, stop, Enters, accepted, ended}
use Rattle.calls.specs.Sound.{Sound}
use Rattle.calls.specs.Reading.{Listed}
use Rattle.calls.specs.Laws.{Correct}
use Rattle.calls.proofs.Rows.{node_new, node_law}
use Rattle.calls.proofs.Sealing.{≡_≈, Extends, extends_refl, extends_trans, Node, extends_known, seals_sound, seals_extends, seals_found}

pub among_either : {A : Type 0} {x : A} (xs ys : List A) → x among (xs ++ ys) → (x among xs) ⊎ (x among ys)
among_either [] ys m = inr m
among_either (z ∷ xs) ys first = inl first
among_either (z ∷ xs) ys (later m) = elim (among_either xs ys m) [ inl a ↦ inl (later a) | inr b ↦ inr b ]

pub among_front : {A : Type 0} {x : A} (xs ys : List A) → x among xs → x among (xs ++ ys)
among_front [] ys m = elim m [ ]
among_front (x ∷ xs) ys first = first
among_front (y ∷ xs) ys (later m) = later (among_front xs ys m)

pub among_back : {A : Type 0} {x : A} (xs ys : List A) → x among ys → x among (xs ++ ys)
among_back [] ys m = m
among_back (y ∷ xs) ys m = later (among_back xs ys m)

abbrev pub right_known : {rows : Rows} {e : Entry} → Correct rows e → Node rows e.game
right_known r = record { at = _; inside = r.inside; equals = r.equals }

pub extends_right : {a b : Rows} {e : Entry} → Extends a b → Correct a e → Correct b e
extends_right x r = let k = extends_known x (right_known r) in record { inside = k.inside; equals = k.equals }

-- an entry that answered n
pub record Answered (es : List Entry) (n : ℕ) : Type 0 where
  pub by : Entry
  pub stands : by among es
  pub with_number : by.number ≡ n

-- rows become others while entries are made
pub record Grows (a : Rows) (es : List Entry) (b : Rows) : Type 0 where
  pub sound : Sound a → Sound b
  pub extends : Extends a b
  pub right : (e : Entry) → e among es → Correct b e
  pub covers : (n : ℕ) → n < length b → (n < length a) ⊎ Answered es n

pub grows_not : (a : Rows) → Grows a [] a
grows_not a = record { sound = λ s. s; extends = extends_refl a; right = λ e m. elim m [ ]; covers = λ n k. inl k }

pub grows_then : {a b d : Rows} {es fs : List Entry} → Grows a es b → Grows b fs d → Grows a (fs ++ es) d
grows_then {a} {b} {d} {es} {fs} g h = record { sound = λ s. h.sound (g.sound s); extends = extends_trans g.extends h.extends; right = right; covers = covers }
  where
    right : (e : Entry) → e among (fs ++ es) → Correct d e
    right e m = elim (among_either fs es m) [ inl i ↦ h.right e i | inr i ↦ extends_right h.extends (g.right e i) ]

    covers : (n : ℕ) → n < length d → (n < length a) ⊎ Answered (fs ++ es) n
    covers n k = go (h.covers n k)
      where
        back : (n < length a) ⊎ Answered es n → (n < length a) ⊎ Answered (fs ++ es) n
        back (inl l) = inl l
        back (inr e) = inr (record { by = e.by; stands = among_back fs es e.stands; with_number = e.with_number })

        go : (n < length b) ⊎ Answered fs n → (n < length a) ⊎ Answered (fs ++ es) n
        go (inl l) = back (g.covers n l)
        go (inr e) = inr (record { by = e.by; stands = among_front fs es e.stands; with_number = e.with_number })

-- a seal
seals_right : {c : ℕ} {a b : Rows} {g : Form} {n : ℕ} → Seals c a g (told n) b → Correct b (entry n g)
seals_right (found n k e) = record { inside = k; equals = e }
seals_right {a = a} (added new r b c w k) = record { inside = let l = length-append a (r ∷ []) in omega arith; equals = ≈_trans (≡_≈ (node_new a r)) c.same_value }

seals_covers : {c : ℕ} {a b : Rows} {g : Form} {r : Answer ℕ} → Seals c a g r b → (n : ℕ) → n < length b → (n < length a) ⊎ Answered (made r g) n
seals_covers (found m l e) n k = inl k
seals_covers {a = a} (added new r b c w m) n k =
    let l = length-append a (r ∷ []) in
    elim (dec_lt n (length a)) [ yes p ↦ inl p | no f ↦ inr (record { by = _; stands = first; with_number = omega arith }) ]
seals_covers (too_wide new h c w) n k = inl k
seals_covers (no_place new h c w l) n k = inl k

only_right : {c : ℕ} {a b : Rows} {g : Form} {r : Answer ℕ} → Seals c a g r b → (e : Entry) → e among made r g → Correct b e
only_right {r = told n} s e first = seals_right s
only_right {r = told n} s e (later m) = elim m [ ]
only_right {r = refused k} s e m = elim m [ ]
only_right {r = refused_at k i} s e m = elim m [ ]

pub seals_grows : {c : ℕ} {a b : Rows} {g : Form} {r : Answer ℕ} → Seals c a g r b → Grows a (made r g) b
seals_grows s = record { sound = λ x. seals_sound x s; extends = seals_extends s; right = only_right s; covers = seals_covers s }

-- seals in turn
pub turn_grows : {c : ℕ} {a b : Rows} {gs : List Form} {end : Option ℕ} {es : List Entry} → SealsInTurn c a gs end b es → Grows a es b
turn_grows (done {rows = a}) = grows_not a
turn_grows (next s t) = grows_then (seals_grows s) (turn_grows t)
turn_grows (stop {rows = a} s) = grows_not a

pub enters_grows : {c : ℕ} {a b : Rows} {g : Form} {ps : List ℕ} {r : Answer ℕ} {es : List Entry} → Enters c a g ps r b es → Grows a es b
enters_grows (accepted t) = turn_grows t
enters_grows (ended t) = turn_grows t

-- all forms of a list that was sealed are nodes
pub turn_known : {c : ℕ} {a b : Rows} {gs : List Form} {es : List Entry} → SealsInTurn c a gs None b es → (x : Form) → x among gs → Node b x
turn_known done x m = elim m [ ]
turn_known (next s t) x first = extends_known (turn_grows t).extends (right_known (seals_right s))
turn_known (next s t) x (later m) = turn_known t x m

-- where all forms of a list are nodes, nothing is added or refused
pub turn_found : {c : ℕ} {a b : Rows} {gs : List Form} {end : Option ℕ} {es : List Entry} → Sound a → ((x : Form) → x among gs → Node a x) → SealsInTurn c a gs end b es
    → (end ≡ None) × (b ≡ a)
turn_found s k done = (refl, refl)
turn_found s k (next p t) =
    let (e, f) = turn_found (seals_sound s p) (λ x m. extends_known (seals_extends p) (k x (later m))) t in
    (e, f ∙ (seals_found s (k _ first) p).1)
turn_found s k (stop p) = let e = (seals_found s (k _ first) p).0 in (cc, refl)

pub turn_again : {c : ℕ} (a : Rows) (gs : List Form) → ((x : Form) → x among gs → Node a x) → (es : List Entry) × SealsInTurn c a gs None a es
turn_again a [] k = ([], done)
turn_again a (g ∷ gs) k =
    let n = k g first in
    let (es, t) = turn_again a gs (λ x m. k x (later m)) in
    (es ++ entry n.at g ∷ [], next (found n.at n.inside n.equals) t)

pub turn_snoc : {c : ℕ} {a b d : Rows} {gs : List Form} {es : List Entry} {g : Form} {n : ℕ} → SealsInTurn c a gs None b es → Seals c b g (told n) d
    → SealsInTurn c a (gs ++ g ∷ []) None d (entry n g ∷ es)
turn_snoc done s = next s done
turn_snoc (next p t) s = next p (turn_snoc t s)

either : {A B C : Type 0} → A ⊎ B → (A → C) → (B → C) → C
either (inl a) f g = f a
either (inr b) f g = g b

pub all_less : (n k : ℕ) → n ≤ k → (ns : List ℕ) → AllByRecursion (λ m. m < n) ns → AllByRecursion (λ m. m < k) ns
all_less n k l [] a = tt
all_less n k l (m ∷ ns) a = let h = a.0 in (omega arith, all_less n k l ns a.1)

only_listed : {rows : Rows} {g x : Form} → Listed rows g → x among (g ∷ []) → Listed rows x
only_listed k first = k
only_listed k (later i) = elim i [ ]

part : {rows : Rows} {ls rs : Forms} {x : Form} → Listed rows (form ls rs) → x among parts (form ls rs)
    → (x among parts_of_all ls → Listed rows x) → (x among parts_of_all rs → Listed rows x) → Listed rows x
part {ls = ls} {rs = rs} k m f h =
    let g = form ls rs in
    either (among_either (parts_of_all ls) (parts_of_all rs ++ g ∷ []) m) f (λ i. either (among_either (parts_of_all rs) (g ∷ []) i) h (only_listed k))

-- the parts of a node's form are nodes' forms
mutual
  pub parts_listed : (g : Form) (rows : Rows) → Sound rows → (n : ℕ) → n < length rows → node rows n ≡ g → (x : Form) → x among parts g → Listed rows x
  parts_listed (form ls rs) rows s n k e x m =
      let r = get_or rows n no_numbers in
      let b = s.lower n k in
      let law = node_law rows n k b in
      let l : each (node rows) r.left ≡ ls = cc in
      let q : each (node rows) r.right ≡ rs = cc in
      part (record { at = n; stands = record { inside = k; as_written = e } }) m
      (all_parts_listed ls rows s r.left (all_less n _ (omega arith) r.left b.on_left) l x) (all_parts_listed rs rows s r.right (all_less n _ (omega arith) r.right b.on_right) q x)

  all_parts_listed : (gs : Forms) (rows : Rows) → Sound rows → (ns : List ℕ) → AllByRecursion (λ m. m < length rows) ns → each (node rows) ns ≡ gs → (x : Form) → x among parts_of_all gs → Listed rows x
  all_parts_listed ∅ rows s ns k e x m = elim m [ ]
  all_parts_listed (g & gs) rows s [] k e x m = let z : ◌≡◌ {A = ℕ} 0 1 = cc in absurd (omega arith)
  all_parts_listed (g & gs) rows s (n ∷ ns) k e x m =
      let p : node rows n ≡ g = cc in
      let q : each (node rows) ns ≡ gs = cc in
      either (among_either (parts g) (parts_of_all gs) m) (parts_listed g rows s n k.0 p x) (all_parts_listed gs rows s ns k.1 q x)

pub parts_known : (g : Form) (rows : Rows) → Sound rows → (n : ℕ) → n < length rows → node rows n ≡ g → (x : Form) → x among parts g → Node rows x
parts_known g rows s n k e x m = let y = parts_listed g rows s n k e x m in record { at = y.at; inside = y.stands.inside; equals = ≡_≈ y.stands.as_written }
