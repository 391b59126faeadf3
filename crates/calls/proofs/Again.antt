-- What equals nodes already is entered again without a change.
-- Assumes nothing.
use Rattle.std.proofs.Common.{◌≡◌, ℕ, ◌<◌, true, List, [], ◌∷◌, ◌++◌, length, sym, ap, ◌∙◌, append_assoc, arith}
use Rattle.games.specs.Form.{Form, form}
use Rattle.games.specs.Order.{◌≈◌}
use Rattle.games.specs.Text.{bytes}
use Rattle.games.proofs.Order.{≈_sym, ≈_trans}
use Rattle.games.proofs.Text.{bytes_injective}
use Rattle.rulesets.specs.Rules.{Rules, game}
use Rattle.calls.specs.Rows.{Rows, node, ◌among◌, first}
use Rattle.calls.specs.Answers.{Answer, told}
use Rattle.calls.specs.Sealing.{found}
use Rattle.calls.specs.Entering.{Entry, entry, parts, parts_of_all, Enters, accepted, ended}
use Rattle.calls.specs.Texts.{Shallow}
use Rattle.calls.specs.Positions.{Values}
use Rattle.calls.specs.Reading.{Reads}
use Rattle.calls.specs.Sound.{Sound}
use Rattle.calls.proofs.Texts.{no_fault}
use Rattle.calls.proofs.Sealing.{≡_≈, Node}
use Rattle.calls.proofs.Entering.{turn_grows, turn_known, turn_found, turn_again, turn_snoc, parts_known, among_front}

-- a form's parts end with the form
pub parts_end : (g : Form) → (front : List Form) × (parts g ≡ front ++ g ∷ [])
parts_end (form ls rs) = (parts_of_all ls ++ parts_of_all rs, sym (append_assoc (parts_of_all ls) (parts_of_all rs) (form ls rs ∷ [])))

-- a form whose parts are nodes is entered without a change
pub enters_again : {c : ℕ} (rows : Rows) (g : Form) (ps : List ℕ) → ((x : Form) → x among parts g → Node rows x) → (n : ℕ) → n < length rows → node rows n ≈ g → (es : List Entry) × Enters c rows g ps (told n) rows es
enters_again {c} rows g ps k n i e =
    let (front, pe) = parts_end g in
    let (es, t) = turn_again {c = c} rows front (λ x m. k x (rw pe (among_front front (g ∷ []) m))) in
    (entry n g ∷ es, accepted (rw pe (turn_snoc t (found n i e))))

pub enters_found : {c : ℕ} {a b : Rows} {g : Form} {ps : List ℕ} {r : Answer ℕ} {es : List Entry} (n : ℕ) → Sound a → ((x : Form) → x among parts g → Node a x) → n < length a → node a n ≈ g → Enters c a g ps r b es
    → (r ≡ told n) × (b ≡ a)
enters_found {a = a} {b = b} n s k i e (accepted {n = m} t) =
    let q = (turn_found s k t).1 in
    let z = (turn_grows t).right _ first in
    let l : m < length a = rw q at z.inside in
    let v = rw q at z.equals in
    (ap told (s.unlike m n l i (≈_trans v (≈_sym e))), q)
enters_found n s k i e (ended t) = let x = (turn_found s k t).0 in let z : ◌≡◌ {A = ℕ} 0 1 = cc in absurd (omega arith)

pub reads_found : {c : ℕ} {a b : Rows} {t : List ℕ} {r : Answer ℕ} {es : List Entry} (n : ℕ) → Sound a → n < length a → bytes (node a n) ≡ t → Shallow t → Reads c a t r b es → (r ≡ told n) × (b ≡ a)
reads_found {a = a} n s i e h (Reads.faulty x) = absurd (no_fault (node a n) (record { by_form = e; shallow = h }) x)
reads_found {c} {a} {b} {r = r} {es = es} n s i e h (Reads.well g w x) =
    let same : node a n ≡ g = bytes_injective (node a n) g (e ∙ sym w.by_form) in
    enters_found n s (parts_known g a s n i same) i (≡_≈ same) x

-- a position valued again
pub values_known : {R : Rules} {c code n : ℕ} {a b : Rows} {es : List Entry} → Values R c a code (told n) b es
    → ((x : Form) → x among parts (game R code) → Node b x) × (n < length b) × (node b n ≈ game R code) × (R.legal code ≡ true)
values_known (Values.legal l (accepted t)) = let z = (turn_grows t).right _ first in (turn_known t, z.inside, z.equals, l)

pub values_found : {R : Rules} {c code : ℕ} {a b : Rows} {r : Answer ℕ} {es : List Entry} (n : ℕ) → Sound a → R.legal code ≡ true → ((x : Form) → x among parts (game R code) → Node a x) → n < length a → node a n ≈ game R code
    → Values R c a code r b es → (r ≡ told n) × (b ≡ a)
values_found n s l k i e (Values.illegal f) = let z : ◌≡◌ {A = ℕ} 0 1 = cc in absurd (omega arith)
values_found n s l k i e (Values.legal f t) = enters_found n s k i e t
