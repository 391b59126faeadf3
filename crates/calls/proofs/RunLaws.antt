-- The theorems on all lists of calls.
-- Assumes nothing.
use Rattle.std.proofs.Common.{◌≡◌, ℕ, List, sym, refl, ap, ◌∙◌, subst}
use Rattle.games.specs.Form.{Form}
use Rattle.games.specs.Order.{◌≈◌}
use Rattle.games.specs.Text.{bytes}
use Rattle.games.proofs.Order.{≈_refl, ≈_sym, ≈_trans}
use Rattle.games.proofs.Play.{≈_by_play}
use Rattle.games.proofs.Unique.{unique}
use Rattle.games.proofs.Text.{bytes_injective}
use Rattle.rulesets.specs.Rules.{Rules, game}
use Rattle.calls.specs.Rows.{Rows, node, ◌among◌, first}
use Rattle.calls.specs.Answers.{told}
use Rattle.calls.specs.Sealing.{CanonicalFormOf}
use Rattle.calls.specs.Entering.{Entry, entry, Enters, accepted}
use Rattle.calls.specs.Positions.{Values}
use Rattle.calls.specs.Texts.{closings, Written}
use Rattle.calls.specs.Runs.{Past, Reached}
use Rattle.calls.specs.Reading.{Reads}
use Rattle.calls.specs.Asking.{Prints}
use Rattle.calls.specs.RunLaws.{EntriesAreCanonical, RowsAreSound, ToldNumbersAreEntries, NumbersTellGames, TextsTellGames, TextsAreCanonical, PrintedReadsBack, ValuedStays}
use Rattle.calls.specs.Laws.{Correct}
use Rattle.calls.proofs.Again.{enters_again, reads_found, values_known, values_found}
use Rattle.calls.proofs.Sealing.{≡_≈, extends_known}
use Rattle.calls.proofs.Entering.{parts_known}
use Rattle.calls.proofs.Calls.{values_grows}
use Rattle.calls.proofs.Kept.{reached_kept, calls_kept, kept_grown, calls_extends}

pub rows_are_sound : RowsAreSound
rows_are_sound c p r = (reached_kept r).sound

-- an entry's node equals its game
entry_node : {c : ℕ} {p : Past} {e : Entry} → Reached c p → e among p.entries → Correct p.rows e
entry_node {e = e} r m = (reached_kept r).correct e m

pub numbers_tell_games : NumbersTellGames
numbers_tell_games c p e f r m n =
    let x = entry_node r m in
    let y = entry_node r n in (
      λ s. (≈_by_play _ _).0 (≈_trans (≈_sym x.equals) (≈_trans (≡_≈ (ap (node p.rows) s)) y.equals)),
      λ w. (reached_kept r).sound.unlike _ _ x.inside y.inside (≈_trans x.equals (≈_trans ((≈_by_play _ _).1 w) (≈_sym y.equals))),
    )

-- what is printed is the node's text
prints_text : {rows : Rows} {n room l : ℕ} {t : List ℕ} → Prints rows n room (told l) t → t ≡ bytes (node rows n)
prints_text (Prints.written i f g) = refl

pub entry_canonical : {c : ℕ} {p : Past} {e : Entry} → Reached c p → e among p.entries → CanonicalFormOf e.game (node p.rows e.number)
entry_canonical {e = e} r m = let x = entry_node r m in record { is_canonical = (reached_kept r).sound.canonical e.number x.inside; same_value = x.equals }

one_canonical : {g h a b : Form} → CanonicalFormOf g a → CanonicalFormOf h b → g ≈ h → a ≡ b
one_canonical x y e = unique x.is_canonical y.is_canonical (≈_trans x.same_value (≈_trans e (≈_sym y.same_value)))

pub texts_are_canonical : TextsAreCanonical
texts_are_canonical c p e r m room l t w h x = prints_text w ∙ ap bytes (one_canonical (entry_canonical r m) x (≈_refl e.game))

pub texts_tell_games : TextsTellGames
texts_tell_games c d p q e f r s m n room room' k l t u v w =
    let x = entry_canonical r m in
    let y = entry_canonical s n in (
      λ z. (≈_by_play _ _).0 (≈_trans (≈_sym x.same_value) (≈_trans (≡_≈ (bytes_injective _ _ (sym (prints_text v) ∙ (z ∙ prints_text w)))) y.same_value)),
      λ z. prints_text v ∙ (ap bytes (one_canonical x y ((≈_by_play _ _).1 z)) ∙ sym (prints_text w)),
    )

pub printed_reads_back : PrintedReadsBack
printed_reads_back c p w r m s =
    let k = (reached_kept r).sound in
    let (i, e) = (reached_kept r).texts w m in
    let g = node p.rows w.number in
    let (es, x) = enters_again {c = c} p.rows g (closings 0 w.text) (parts_known g p.rows k w.number i refl) w.number i (≈_refl g) in
    ((es, Reads.well g (record { by_form = sym e; shallow = s }) x), λ a after fs y. reads_found w.number k i (sym e) s y)

pub valued_stays : ValuedStays
valued_stays c p q R l r code n b es v cs a d fs w =
    let (k, i, e, x) = values_known v in
    let kept = kept_grown (reached_kept r) (values_grows v) in
    let ext = calls_extends kept cs in
    let here = extends_known ext (record { at = n; inside = i; equals = e }) in
    values_found n (calls_kept kept cs).sound x (λ y m. extends_known ext (k y m)) here.inside here.equals w

pub entries_are_canonical : EntriesAreCanonical
entries_are_canonical c p e r m = entry_canonical r m

entered_first : {c n : ℕ} {rows after : Rows} {g : Form} {ps : List ℕ} {es : List Entry} → Enters c rows g ps (told n) after es → entry n g among es
entered_first (accepted t) = first

value_enters : {R : Rules} {c code n : ℕ} {rows after : Rows} {es : List Entry} → Values R c rows code (told n) after es → entry n (game R code) among es
value_enters (Values.legal l t) = entered_first t

read_enters : {c n : ℕ} {rows after : Rows} {t : List ℕ} {g : Form} {es : List Entry} → Written t g → Reads c rows t (told n) after es → entry n g among es
read_enters {c} {n} {rows} {after} {t} {g} {es} w (Reads.well h v x) =
    let same : h ≡ g = bytes_injective h g (v.by_form ∙ sym w.by_form) in subst (λ z. entry n z among es) same (entered_first x)

pub told_numbers_are_entries : ToldNumbersAreEntries
told_numbers_are_entries = record { value = λ R c rows after code n es v. value_enters v; read = λ c rows after t g n es w r. read_enters w r; seal = λ p i slips n after. first }
