-- What every list of calls keeps.
-- Assumes nothing.
use Rattle.std.proofs.Common.{◌≡◌, ℕ, ◌<◌, Bool, true, false, cond, T, eqb, ◌⊎◌, List, [], ◌∷◌, ◌++◌, length, sym, refl, ap, ◌∙◌, inl, inr, arith, eqb→eq}
use lib.Dec.{eqb_refl}
use Rattle.std.specs.List.{AllByRecursion}
use Rattle.games.specs.declared.side.Side.{Side}
use Rattle.games.specs.declared.side.Side.TheVariants.{Left, Right}
use Rattle.games.specs.Form.{Form, here, there}
use Rattle.games.specs.Order.{◌≈◌}
use Rattle.games.specs.Sides.{options}
use Rattle.games.specs.Text.{bytes}
use Rattle.games.specs.Laws.{Alike}
use Rattle.games.specs.Numbered.{Lists, each, form_by}
use Rattle.games.proofs.Order.{≈_sym, ≈_trans}
use Rattle.games.proofs.Value.{replace_≈}
use Rattle.calls.specs.Rows.{Rows, no_numbers, node, Below, ◌among◌, first, later}
use Rattle.calls.specs.Answers.{Answer, told}
use Rattle.calls.specs.Sealing.{SealsNumbers, unknown, known}
use Rattle.calls.specs.Entering.{Entry, made}
use Rattle.calls.specs.Asking.{Prints}
use Rattle.calls.specs.Runs.{Printed, Past, new, grown, holding, latest, Call, Calls, none_yet, one_more, Reached}
use Rattle.calls.specs.Sound.{Sound}
use Rattle.calls.specs.Laws.{Correct}
use Rattle.calls.proofs.Sealing.{≡_≈, Extends, extends_refl, extends_trans, extends_length, extends_node, sound_empty, seals_≈}
use Rattle.calls.proofs.Entering.{extends_right, Answered, Grows, grows_not, among_either, among_front, among_back, seals_grows}
use Rattle.calls.proofs.Calls.{values_grows, moves_grows, reads_grows}

-- what holds after any list of calls
pub record Kept (p : Past) : Type 0 where
  pub sound : Sound p.rows
  pub correct : (e : Entry) → e among p.entries → Correct p.rows e
  pub covered : (n : ℕ) → n < length p.rows → Answered p.entries n
  pub texts : (w : Printed) → w among p.printed → (w.number < length p.rows) × (w.text ≡ bytes (node p.rows w.number))

kept_new : Kept new
kept_new = record { sound = sound_empty; correct = λ e m. elim m [ ]; covered = λ n k. absurd (omega arith); texts = λ w m. elim m [ ] }

pub kept_grown : {p : Past} {b : Rows} {es : List Entry} → Kept p → Grows p.rows es b → Kept (grown p b es)
kept_grown {p} {b} {es} k g = record { sound = g.sound k.sound; correct = correct; covered = covered; texts = texts }
  where
    correct : (e : Entry) → e among (es ++ p.entries) → Correct b e
    correct e m = elim (among_either es p.entries m) [ inl i ↦ g.right e i | inr i ↦ extends_right g.extends (k.correct e i) ]

    covered : (n : ℕ) → n < length b → Answered (es ++ p.entries) n
    covered n l = go (g.covers n l)
      where
        go : (n < length p.rows) ⊎ Answered es n → Answered (es ++ p.entries) n
        go (inl i) = let a = k.covered n i in record { by = a.by; stands = among_back es p.entries a.stands; with_number = a.with_number }
        go (inr a) = record { by = a.by; stands = among_front es p.entries a.stands; with_number = a.with_number }

    texts : (w : Printed) → w among p.printed → (w.number < length b) × (w.text ≡ bytes (node b w.number))
    texts w m =
        let (i, e) = k.texts w m in
        let l = extends_length g.extends in
        (omega arith, e ∙ ap bytes (sym (extends_node w.number g.extends i)))

kept_holding : {p : Past} (i : ℕ) (d : Lists) (slips : ℕ) → Kept p → Kept (holding p i d slips)
kept_holding i d slips k = record { sound = k.sound; correct = k.correct; covered = k.covered; texts = k.texts }

-- a draft: the games of the numbers equal their nodes, so the draft's game equals the form that is sealed
each_alike : (k : ℕ) (f h : ℕ → Form) → ((n : ℕ) → n < k → h n ≈ f n) → (ns : List ℕ) → AllByRecursion (λ n. n < k) ns → Alike (each f ns) (each h ns)
each_alike k f h e [] a x m = elim m [ ]
each_alike k f h e (n ∷ ns) a x here = (h n, here, e n a.0)
each_alike k f h e (n ∷ ns) a x (there m) = let (y, i, v) = each_alike k f h e ns a.1 x m in (y, there i, v)

pub form_by_≈ : (k : ℕ) (f h : ℕ → Form) → ((n : ℕ) → n < k → f n ≈ h n) → (d : Lists) → Below k d → form_by f d ≈ form_by h d
form_by_≈ k f h e d b = replace_≈ (form_by f d) (form_by h d) to from
  where
    to : (s : Side) → Alike (options s (form_by f d)) (options s (form_by h d))
    to Left = each_alike k f h (λ n l. ≈_sym (e n l)) d.left b.on_left
    to Right = each_alike k f h (λ n l. ≈_sym (e n l)) d.right b.on_right

    from : (s : Side) → Alike (options s (form_by h d)) (options s (form_by f d))
    from Left = each_alike k h f e d.left b.on_left
    from Right = each_alike k h f e d.right b.on_right

pick : (b : Bool) (v x y : Form) → (T b → v ≈ x) → (¬ T b → v ≈ y) → v ≈ cond b x y
pick true v x y f g = f tt
pick false v x y f g = g (λ t. t)

not_first : {es : List Entry} {e f : Entry} {n : ℕ} → f among (e ∷ es) → f.number ≡ n → ¬ T (eqb n e.number) → Answered es n
not_first {e = e} first q d = absurd (d (rw (← q) (eqb_refl e.number)))
not_first {f = f} (later m) q d = record { by = f; stands = m; with_number = q }

latest_≈ : (rows : Rows) (es : List Entry) (n : ℕ) → ((e : Entry) → e among es → Correct rows e) → Answered es n → node rows n ≈ latest es n
latest_≈ rows [] n c a = elim a.stands [ ]
latest_≈ rows (e ∷ es) n c a =
    pick (eqb n e.number) (node rows n) e.game (latest es n)
    (λ t. ≈_trans (≡_≈ (ap (node rows) (eqb→eq n e.number t))) (c e first).equals)
    (λ d. latest_≈ rows es n (λ f m. c f (later m)) (not_first a.stands a.with_number d))

numbers_grows : {c : ℕ} {p : Past} {d : Lists} {a : Answer ℕ} {b : Rows} → Kept p → SealsNumbers c p.rows d a b → Grows p.rows (made a (form_by (latest p.entries) d)) b
numbers_grows {p = p} k (unknown f) = grows_not p.rows
numbers_grows {p = p} {d = d} k (known b s) =
    seals_grows (seals_≈ (form_by_≈ (length p.rows) (node p.rows) (latest p.entries) (λ n l. latest_≈ p.rows p.entries n k.correct (k.covered n l)) d b) s)

kept_printed : {p : Past} {n room l : ℕ} {t : List ℕ} → Kept p → Prints p.rows n room (told l) t
    → (w : Printed) → w among (record { number = n; text = t } ∷ p.printed) → (w.number < length p.rows) × (w.text ≡ bytes (node p.rows w.number))
kept_printed k (Prints.written i f g) w first = (i, refl)
kept_printed k x w (later m) = k.texts w m

pub call_kept : {c : ℕ} {p q : Past} → Kept p → Call c p q → Kept q
call_kept k (Call.value R l code v) = kept_grown k (values_grows v)
call_kept k (Call.first_move R l s code v) = kept_grown k (moves_grows v)
call_kept k (Call.read t r) = kept_grown k (reads_grows r)
call_kept k (Call.open_draft i) = kept_holding i no_numbers _ k
call_kept k (Call.put_number i s n l m) = kept_holding i _ _ k
call_kept k (Call.put_refused i s n l m) = k
call_kept k (Call.abandon i slips e) = kept_holding i no_numbers slips k
call_kept k (Call.seal i slips e s) = kept_holding i no_numbers slips (kept_grown k (numbers_grows k s))
call_kept k (Call.print n room w) = record { sound = k.sound; correct = k.correct; covered = k.covered; texts = kept_printed k w }
call_kept k (Call.print_refused n room w) = k

pub calls_kept : {c : ℕ} {p q : Past} → Kept p → Calls c p q → Kept q
calls_kept k none_yet = k
calls_kept k (one_more cs call) = call_kept (calls_kept k cs) call

pub reached_kept : {c : ℕ} {p : Past} → Reached c p → Kept p
reached_kept r = calls_kept kept_new r

-- rows are only ever added to
pub call_extends : {c : ℕ} {p q : Past} → Kept p → Call c p q → Extends p.rows q.rows
call_extends k (Call.value R l code v) = (values_grows v).extends
call_extends k (Call.first_move R l s code v) = (moves_grows v).extends
call_extends k (Call.read t r) = (reads_grows r).extends
call_extends {p = p} k (Call.open_draft i) = extends_refl p.rows
call_extends {p = p} k (Call.put_number i s n l m) = extends_refl p.rows
call_extends {p = p} k (Call.put_refused i s n l m) = extends_refl p.rows
call_extends {p = p} k (Call.abandon i slips e) = extends_refl p.rows
call_extends k (Call.seal i slips e s) = (numbers_grows k s).extends
call_extends {p = p} k (Call.print n room w) = extends_refl p.rows
call_extends {p = p} k (Call.print_refused n room w) = extends_refl p.rows

pub calls_extends : {c : ℕ} {p q : Past} → Kept p → Calls c p q → Extends p.rows q.rows
calls_extends {p = p} k none_yet = extends_refl p.rows
calls_extends k (one_more cs call) = extends_trans (calls_extends k cs) (call_extends (calls_kept k cs) call)
