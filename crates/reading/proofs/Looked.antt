-- What is found where each bracket of a form's text is looked for as it closes.
-- Assumes nothing.
use Rattle.std.proofs.Common.{◌≡◌, ℕ, ◌<◌, List, [], length, take, Some, None, Ok, Err, Option, Result, sym, refl, ap, ◌∙◌, subst, ap₂, arith}
use Rattle.std.specs.Option.{ok_or}
use Rattle.std.specs.Prelude.{IfOk}
use Rattle.games.specs.Form.{Form}
use Rattle.games.specs.Numbered.{Lists}
use Rattle.games.specs.Text.{close_mark}
use Rattle.games.specs.Reader.{State, next, outside}
use Rattle.stores.specs.Rows.{Lawful, Finds, lowest}
use Rattle.stores.proofs.Lowest.{lowest_finds}
use Rattle.calls.specs.Answers.{told}
use Rattle.calls.specs.Reading.{LooksUp}
use Rattle.calls.specs.Rows.{Rows, node}
use Rattle.calls.specs.Sound.{Sound}
use Rattle.calls.specs.Texts.{Written, Fault}
use Rattle.calls.specs.Brackets.{put_outside}
use Rattle.calls.proofs.LookUp.{looking_up_has_one_outcome, look_up_finds_the_nodes}
use Rattle.calls.proofs.LookedUp.{LookedUp, look_begins, look_opens, look_bars, look_commas, look_closes, look_ends, look_misses}
use Rattle.calls.proofs.Texts.{no_fault}
use Rattle.reading.specs.declared.fault.FormFault.TheVariants.{Text}
use Rattle.calls.specs.declared.fault.TextFault.{TextFault}
use Rattle.calls.specs.Faults.{number_of, place_of}
use Rattle.reading.specs.Faults.{LookUpFault, look_up_answer}
use Rattle.reading.specs.Found.{Found, FindsNodes, missing}
use Rattle.reading.specs.Walked.{Walk, Walked}
use Rattle.reading.proofs.Cut.{lists, cut_found}

-- what the store answers of the first 17 numbers of a side it answers of them all
module _ (rows : Rows) (room : ℕ) (law : Lawful rows room) where
  pub finds : (l : Lists) (x y : List ℕ) → x ≡ take 17 l.left → y ≡ take 17 l.right → (r : Option ℕ) → r ≡ lowest rows (record { left = x; right = y }) → r ≡ lowest rows l
  finds l x y p q r h = h ∙ (ap₂ (λ a b. lowest rows (lists a b)) p q ∙ cut_found rows room law l)

  pub found_small : (l : Lists) (n : ℕ) → Some n ≡ lowest rows l → n < 384
  found_small l n e =
      let i : Finds rows l (Some n) = subst (Finds rows l) (sym e) (lowest_finds rows l) in
      let a = i.0 in
      let f = law.fits in
      let m = law.most_room in
      omega arith

-- a bracket is found
pub found_at : (rows : Rows) (room : ℕ) → Lawful rows room → (l : Lists) (p : ℕ) (o : Option ℕ) (r : Result ℕ LookUpFault) → o ≡ lowest rows l → r ≡ ok_or o (missing p) → Sound rows → Found rows l p r rows × IfOk r (λ n. n < 384)
found_at rows room law l p o r e is s = (record { is = is ∙ ap (λ x. ok_or x (missing p)) e; rows = refl; sound = s }, subst (λ x. IfOk x (λ n. n < 384)) (sym is) (small o e))
  where
    small : (o : Option ℕ) → o ≡ lowest rows l → IfOk {E = LookUpFault} (ok_or o (missing p)) (λ n. n < 384)
    small (Some n) h = found_small rows room law l n h
    small None h = tt

-- what is found where a number is told, and where there is a fault
module _ (rows : Rows) (l : Lists) (p : ℕ) where
  found_ok : (r : Option ℕ) (n : ℕ) → Ok n ≡ ok_or r (missing p) → r ≡ Some n
  found_ok (Some m) n e = let same : m ≡ n = cc in ap Some same
  found_ok None n e = let z : ◌≡◌ {A = ℕ} 0 1 = cc in absurd (omega arith)

  found_err : (r : Option ℕ) (e : LookUpFault) → Err e ≡ ok_or r (missing p) → (r ≡ None) × (e ≡ missing p)
  found_err (Some m) e h = let z : ◌≡◌ {A = ℕ} 0 1 = cc in absurd (omega arith)
  found_err None e h = (refl, cc)

  finds_one : (n : ℕ) → Ok n ≡ ok_or (lowest rows l) (missing p) → Finds rows l (Some n)
  finds_one n e = subst (Finds rows l) (found_ok (lowest rows l) n e) (lowest_finds rows l)

  finds_not : (e : LookUpFault) → Err e ≡ ok_or (lowest rows l) (missing p) → Finds rows l None × (e ≡ missing p)
  finds_not e h = let (a, b) = found_err (lowest rows l) e h in (subst (Finds rows l) a (lowest_finds rows l), b)

-- closing goes by the rows of what is closed with
module _ {C : Type 0} (rows_of : C → Rows) where
  abbrev pub Finding : C → Lists → ℕ → Result ℕ LookUpFault → C → Type 0
  Finding b l p r a = Found (rows_of b) l p r (rows_of a)

  -- the rows stay, and each bracket closed so far is a node's
  pub record LookIn (start : C) (q : State) (ls : List Lists) (b : C) : Type 0 where
    pub rows : rows_of b ≡ rows_of start
    pub looked : LookedUp (rows_of b) q ls

  look_in : {start : C} {q : State} {ls : List Lists} {b : C} → Walk Finding start q ls b → LookIn start q ls b
  look_in {start} Walk.begins = record { rows = refl; looked = look_begins (rows_of start) }
  look_in (Walk.opens q ls c a w) = let x = look_in w in record { rows = x.rows; looked = look_opens (rows_of c) q ls a x.looked }
  look_in (Walk.bars q ls c a w) = let x = look_in w in record { rows = x.rows; looked = look_bars (rows_of c) q ls a x.looked }
  look_in (Walk.commas q ls c a w) = let x = look_in w in record { rows = x.rows; looked = look_commas (rows_of c) q ls a x.looked }
  look_in (Walk.shuts q l ls b c place n a w s) =
      let x = look_in w in
      let f = finds_one (rows_of b) l place n s.is in
      let y = look_closes (rows_of b) s.sound q l ls a x.looked n f.0 f.1 in
      record { rows = s.rows ∙ x.rows; looked = subst (λ r. LookedUp r (next q close_mark) (put_outside n (outside q) ls)) (sym s.rows) y }

  pub record LookText (start : C) (t : List ℕ) (r : Result ℕ LookUpFault) : Type 0 where
    pub looks : LooksUp (rows_of start) t (look_up_answer r)
    pub sound : Sound (rows_of start)

  pub look_text : {start after : C} {g : Form} {r : Result ℕ LookUpFault} (t : List ℕ) → Written t g → Walked Finding start g r after → LookText start t r
  look_text {start} {after} {g} t v (Walked.ends q l b c place n e w s) =
      let x = look_in w in
      let f = finds_one (rows_of b) l place n s.is in
      record { looks = subst (λ r. LooksUp r t (told n)) x.rows (look_ends (rows_of b) q l [] t g n s.sound v e x.looked f.0 f.1); sound = subst Sound x.rows s.sound }
  look_text {start} {after} {g} t v (Walked.stops ms rest l ls b c e split w s) =
      let x = look_in w in
      let (f, named) = finds_not (rows_of b) l (length ms) e s.is in
      record {
        looks = subst (λ h. LooksUp (rows_of start) t (look_up_answer (Err h))) (sym named)
            (subst (λ r. LooksUp r t (look_up_answer (Err (missing (length ms))))) x.rows (look_misses (rows_of b) t g ms rest l ls s.sound v split x.looked f));
        sound = subst Sound x.rows s.sound;
      }

pub look_faulty : (t : List ℕ) (rows : Rows) (r : Result ℕ LookUpFault) (f : TextFault) → r ≡ Err (Text f) → Fault t (number_of f) (place_of f) → LooksUp rows t (look_up_answer r)
look_faulty t rows r f e x = subst (λ s. LooksUp rows t (look_up_answer s)) (sym e) (LooksUp.faulty x)

-- what is found is a node's text
told_ok : (r : Result ℕ LookUpFault) (n : ℕ) → look_up_answer r ≡ told n → r ≡ Ok n
told_ok (Ok m) n e = let same : m ≡ n = cc in ap Ok same
told_ok (Err f) n e = let z : ◌≡◌ {A = ℕ} 0 1 = cc in absurd (omega arith)

pub finds_nodes : {rows : Rows} {t : List ℕ} (r : Result ℕ LookUpFault) → Sound rows → LooksUp rows t (look_up_answer r) → FindsNodes rows t r
finds_nodes {rows} {t} r s x h n =
    let one = looking_up_has_one_outcome rows t s in (
      λ e. (look_up_finds_the_nodes rows t n h).0 (subst (λ y. LooksUp rows t (look_up_answer y)) e x),
      λ y. told_ok r n (one.only (look_up_answer r) x ∙ sym (one.only (told n) ((look_up_finds_the_nodes rows t n h).1 y))),
    )

-- a text with a fault is no node's
pub finds_none : (rows : Rows) (t : List ℕ) (r : Result ℕ LookUpFault) (f : TextFault) → r ≡ Err (Text f) → Fault t (number_of f) (place_of f) → FindsNodes rows t r
finds_none rows t r f e x h n = (λ d. let z : ◌≡◌ {A = ℕ} 0 1 = cc in absurd (omega arith), λ y. absurd (no_fault (node rows n) (record { by_form = y.1; shallow = h }) x))
