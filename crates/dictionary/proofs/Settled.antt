-- A pair of sets that was sealed to a node is sealed to it again, however many rows are added behind.
-- Assumes nothing.
use Rattle.std.proofs.Common.{◌≡◌, ℕ, Bool, true, false, cond, is_ok, ◌<◌, ◌⊎◌, [], ◌∷◌, ◌++◌, length, sym, refl, ◌∙◌, subst, inl, inr, arith}
use Rattle.games.specs.Numbered.{Lists, form_by}
use Rattle.games.specs.Order.{◌≈◌}
use Rattle.nodesets.specs.Pairs.{Sets}
use Rattle.sealing.specs.Remembering.{Remembers, Same}
use Rattle.sealing.specs.declared.recent.Recent.{Recent}
use Rattle.stores.specs.Rows.{append_answer, append_rows}
use Rattle.calls.specs.Answers.{Answer, told}
use Rattle.calls.specs.Rows.{Below, Rows, node, first}
use Rattle.calls.specs.Sealing.{Seals, SealsNumbers, found}
use Rattle.calls.proofs.Entering.{all_less, seals_grows}
use Rattle.calls.proofs.Rows.{form_by_same}
use Rattle.calls.proofs.Sealing.{Extends, extends_length, extends_node, extends_refl}
use Rattle.dictionary.specs.Kept.{ListsOf}
use Rattle.dictionary.specs.Settled.{Settled, Sure}

-- the rows behind change no form
stays_below : {rows after : Rows} {d : Lists} → Extends rows after → Below (length rows) d → Below (length after) d
stays_below {rows} {after} {d} e b =
    let l = extends_length e in record { on_left = all_less (length rows) (length after) l d.left b.on_left; on_right = all_less (length rows) (length after) l d.right b.on_right }

same_form : {rows after : Rows} (d : Lists) → Extends rows after → Below (length rows) d → form_by (node rows) d ≡ form_by (node after) d
same_form {rows} {after} d e b = form_by_same (length rows) (node rows) (node after) (λ n k. sym (extends_node n e k)) d b

pub settled_stays : {rows after : Rows} {d : Lists} {n : ℕ} → Extends rows after → Settled rows d n → Settled after d n
settled_stays {rows} {after} {d} {n} e s = record {
  below = stays_below e s.below;
  inside = let l = extends_length e in let i = s.inside in omega arith;
  equals = subst (λ g. node after n ≈ g) (same_form d e s.below) (subst (λ g. g ≈ form_by (node rows) d) (sym (extends_node n e s.inside)) s.equals);
}

-- it is sealed to the node
pub settled_seals : {rows : Rows} {d : Lists} {n : ℕ} (c : ℕ) → Settled rows d n → SealsNumbers c rows d (told n) rows
settled_seals c s = SealsNumbers.known s.below (found _ s.inside s.equals)

-- what was told is settled
told_settled : {c n : ℕ} {rows after : Rows} {d : Lists} (a : Answer ℕ) → a ≡ told n → SealsNumbers c rows d a after → Settled after d n
told_settled a e (SealsNumbers.unknown f) = let z : ◌≡◌ {A = ℕ} 0 1 = cc in absurd (omega arith)
told_settled {c} {n} {rows} {after} {d} a e (SealsNumbers.known b s) =
    let g = seals_grows (subst (λ x. Seals c rows (form_by (node rows) d) x after) e s) in
    let right = g.right _ first in
    record { below = stays_below g.extends b; inside = right.inside; equals = subst (λ h. node after n ≈ h) (same_form d g.extends b) right.equals }

pub seals_settled : {c n : ℕ} {rows after : Rows} {d : Lists} → SealsNumbers c rows d (told n) after → Settled after d n
seals_settled {n = n} s = told_settled (told n) refl s

-- what is remembered stays right
pub sure_stays : {rows after : Rows} {r : Recent} → Extends rows after → Sure rows r → Sure after r
sure_stays e s o n m = let (small, all) = s o n m in (small, λ d lists. settled_stays e (all d lists))

pub sure_nothing : (rows : Rows) (r : Recent) → ((o : Sets) (n : ℕ) → Remembers r o n → ⊥) → Sure rows r
sure_nothing rows r f o n m = absurd (f o n m)

-- and so does what is noted
same_lists : {o p : Sets} {d : Lists} → Same p o → ListsOf o d → ListsOf p d
same_lists e l s k = let (to, from) = l s k in (λ i. e s k ∙ to i, λ t. from (sym (e s k) ∙ t))

pub sure_noted : {rows : Rows} {r later : Recent} {p : Sets} {n : ℕ} → Sure rows r → n < 384 → ((d : Lists) → ListsOf p d → Settled rows d n) → ((o : Sets) (k : ℕ) → Remembers later o k → (Same p o × (k ≡ n)) ⊎ Remembers r o k) → Sure rows later
sure_noted {rows} s small settled noted o k m = elim (noted o k m) [
  | inl (same, is) ↦ (subst (λ j. j < 384) (sym is) small, λ d lists. subst (λ j. Settled rows d j) (sym is) (settled d (same_lists same lists)))
  | inr old ↦ s o k old
]

-- a store that takes a row, or is full, has its rows at the front of those after
pub append_extends : (rows : Rows) (room : ℕ) (r : Lists) (after : Rows) → after ≡ append_rows rows room r → Extends rows after
append_extends rows room r after e = subst (Extends rows) (sym e) (go (is_ok (append_answer rows room r)))
  where
    go : (b : Bool) → Extends rows (cond b (rows ++ r ∷ []) rows)
    go true = record { rest = r ∷ []; is = refl }
    go false = extends_refl rows
