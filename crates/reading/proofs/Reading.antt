-- What is read where each bracket of a form's text is sealed as it closes.
-- Assumes nothing.
use Rattle.std.proofs.Common.{◌≡◌, ℕ, ◌<◌, List, [], ◌∷◌, length, Ok, Err, Result, sym, refl, ap, ◌∙◌, subst, arith}
use Rattle.std.specs.Prelude.{IfOk}
use Rattle.games.specs.Form.{Form}
use Rattle.games.specs.Numbered.{Lists}
use Rattle.games.specs.Text.{bytes}
use Rattle.games.specs.Reader.{State}
use Rattle.calls.specs.Answers.{Answer, told, refused_at}
use Rattle.calls.specs.Entering.{Entry, entry, Enters}
use Rattle.calls.specs.Reading.{Reads}
use Rattle.calls.specs.Runs.{Call}
use Rattle.calls.specs.Rows.{Rows, node}
use Rattle.calls.specs.Sealing.{SealsNumbers}
use Rattle.calls.specs.Sound.{Sound}
use Rattle.calls.specs.Texts.{Written, Fault, closings}
use Rattle.calls.proofs.Again.{reads_found}
use Rattle.calls.proofs.Bracketed.{ReadSoFar, closing, read_begins, read_opens, read_bars, read_commas, read_closes, read_ends, read_refused}
use Rattle.calls.proofs.Texts.{no_fault}
use Rattle.dictionary.specs.declared.fault.DictionaryFault.{DictionaryFault}
use Rattle.dictionary.specs.Faults.{answer_of, number_of}
use Rattle.dictionary.specs.Holding.{Holding}
use Rattle.reading.specs.declared.fault.FormFault.TheVariants.{Text, Bracket}
use Rattle.calls.specs.declared.fault.TextFault.{TextFault}
use Rattle.calls.specs.Faults.{place_of}
use Rattle.reading.specs.Faults.{ReadFault, read_answer}
use Rattle.calls.specs.Faults
use Rattle.reading.specs.Sealed.{Closed, placed}
use Rattle.reading.specs.TextRead.{ReadSteps, ReadsBack, TextRead}
use Rattle.reading.specs.Walked.{Walk, Walked}

-- a bracket is sealed
pub sealed_at : (before after : Holding) (l : Lists) (p : ℕ) (a : Result ℕ DictionaryFault) (r : Result ℕ ReadFault) → SealsNumbers before.room before.rows l (answer_of a) after.rows → r ≡ placed p a → after.room ≡ before.room
    → Sound before.rows → IfOk a (λ n. n < 384) → Closed before l p r after × IfOk r (λ n. n < 384)
sealed_at before after l p a r seals is room sound small = (record { answer = a; seals = seals; is = is; room = room; sound = sound }, subst (λ x. IfOk x (λ n. n < 384)) (sym is) (told a small))
  where
    told : (a : Result ℕ DictionaryFault) → IfOk a (λ n. n < 384) → IfOk {E = ReadFault} (placed p a) (λ n. n < 384)
    told (Ok n) h = h
    told (Err f) h = tt

-- what was sealed where a number is told, and where there is a fault
placed_ok : (p n : ℕ) (r : Result ℕ DictionaryFault) → Ok n ≡ placed p r → r ≡ Ok n
placed_ok p n (Ok m) e = let same : m ≡ n = cc in ap Ok same
placed_ok p n (Err f) e = let z : ◌≡◌ {A = ℕ} 0 1 = cc in absurd (omega arith)

placed_err : (p : ℕ) (e : ReadFault) (r : Result ℕ DictionaryFault) → Err e ≡ placed p r → (f : DictionaryFault) × (r ≡ Err f) × (e ≡ Bracket p f)
placed_err p e (Ok m) h = let z : ◌≡◌ {A = ℕ} 0 1 = cc in absurd (omega arith)
placed_err p e (Err f) h = (f, refl, cc)

told_seals : (c : ℕ) (b d : Holding) (l : Lists) (p n : ℕ) → b.room ≡ c → Closed b l p (Ok n) d → SealsNumbers c b.rows l (told n) d.rows
told_seals c b d l p n room s =
    subst (λ k. SealsNumbers k b.rows l (told n) d.rows) room (subst (λ r. SealsNumbers b.room b.rows l (answer_of r) d.rows) (placed_ok p n s.answer s.is) s.seals)

-- the room and the rows at the start, and what is read so far; if the rows are sound now, they were
pub record ReadIn (start : Holding) (q : State) (ls : List Lists) (b : Holding) : Type 0 where
  pub entries : List Entry
  pub room : b.room ≡ start.room
  pub sound : Sound b.rows → Sound start.rows
  pub read : ReadSoFar start.room start.rows q ls b.rows entries

read_in : {start : Holding} {q : State} {ls : List Lists} {b : Holding} → Walk Closed start q ls b → ReadIn start q ls b
read_in {start} Walk.begins = record { entries = []; room = refl; sound = λ s. s; read = read_begins start.room start.rows }
read_in (Walk.opens q ls c a w) = let x = read_in w in record { entries = x.entries; room = x.room; sound = x.sound; read = read_opens q ls a x.read }
read_in (Walk.bars q ls c a w) = let x = read_in w in record { entries = x.entries; room = x.room; sound = x.sound; read = read_bars q ls a x.read }
read_in (Walk.commas q ls c a w) = let x = read_in w in record { entries = x.entries; room = x.room; sound = x.sound; read = read_commas q ls a x.read }
read_in {start} (Walk.shuts q l ls b c place n a w s) =
    let x = read_in w in
    record {
      entries = entry n (closing q) ∷ x.entries;
      room = s.room ∙ x.room;
      sound = λ _. x.sound s.sound;
      read = read_closes q l ls n c.rows a x.read (told_seals start.room b c l place n x.room s);
    }

pub record ReadText (start : Holding) (t : List ℕ) (r : Result ℕ ReadFault) (after : Holding) : Type 0 where
  pub read : TextRead start.room start.rows t (read_answer r) after.rows
  pub room : after.room ≡ start.room
  pub sound : Sound start.rows

pub read_text : {start after : Holding} {g : Form} {r : Result ℕ ReadFault} (t : List ℕ) → Written t g → Walked Closed start g r after → ReadText start t r after
read_text {start} {after} {g} t v (Walked.ends q l b c place n e w s) =
    let x = read_in w in
    let y = read_ends q l g n c.rows (closings 0 (bytes g)) e x.read (told_seals start.room b c l place n x.room s) in
    record {
      read = record { entries = _; holds = Reads.well g v (subst (λ u. Enters start.room start.rows g (closings 0 u) (told n) c.rows (entry n g ∷ x.entries)) v.by_form y) };
      room = s.room ∙ x.room;
      sound = x.sound s.sound;
    }
read_text {start} {after} {g} t v (Walked.stops ms rest l ls b c e split w s) =
    let x = read_in w in
    let (f, is, named) = placed_err (length ms) e s.answer s.is in
    let z = subst (λ k. SealsNumbers k b.rows l (answer_of (Err f)) c.rows) x.room (subst (λ r. SealsNumbers b.room b.rows l (answer_of r) c.rows) is s.seals) in
    let y = read_refused g ms rest l ls (number_of f) c.rows split x.read z in
    record {
      read = subst (λ h. TextRead start.room start.rows t (read_answer (Err h)) c.rows) (sym named)
          (record { entries = x.entries; holds = Reads.well g v (subst (λ u. Enters start.room start.rows g (closings 0 u) (refused_at (number_of f) (length ms)) c.rows x.entries) v.by_form y) });
      room = s.room ∙ x.room;
      sound = x.sound s.sound;
    }

pub read_faulty : (t : List ℕ) (c : ℕ) (a : Rows) (r : Result ℕ ReadFault) (f : TextFault) → r ≡ Err (Text f) → Fault t (Faults.number_of f) (place_of f) → TextRead c a t (read_answer r) a
read_faulty t c a r f e x = subst (λ s. TextRead c a t (read_answer s) a) (sym e) (record { entries = []; holds = Reads.faulty x })

-- the text of a node is read back
told_ok : (r : Result ℕ ReadFault) (n : ℕ) → read_answer r ≡ told n → r ≡ Ok n
told_ok (Ok m) n e = let same : m ≡ n = cc in ap Ok same
told_ok (Err f) n e = let z : ◌≡◌ {A = ℕ} 0 1 = cc in absurd (omega arith)

pub reads_back : {c : ℕ} {a b : Rows} {t : List ℕ} (r : Result ℕ ReadFault) → Sound a → TextRead c a t (read_answer r) b → ReadsBack a t r b
reads_back r s x n i e h = let (p, q) = reads_found n s i e h x.holds in (told_ok r n p, q)

-- a text with a fault is no node's
pub faulty_back : (a : Rows) (t : List ℕ) (r : Result ℕ ReadFault) (f : TextFault) → Fault t (Faults.number_of f) (place_of f) → ReadsBack a t r a
faulty_back a t r f x n i e h = absurd (no_fault (node a n) (record { by_form = e; shallow = h }) x)

-- what read does makes it a call of a run
pub read_steps : (capacity : ℕ) (rows : Rows) (t : List ℕ) (a : Answer ℕ) (after : Rows) → TextRead capacity rows t a after → ReadSteps capacity rows t a after
read_steps capacity rows t a after r p e = (r.entries, r.holds, Call.read t (subst (λ z. Reads capacity z t a after r.entries) (sym e) r.holds))
