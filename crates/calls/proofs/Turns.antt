-- Sealing in turn, and entering a form, have exactly one outcome.
-- Assumes nothing.
use Rattle.std.proofs.Common.{◌≡◌, ℕ, List, [], ◌∷◌, ◌++◌, Some, None, Option, sym, refl, ap, subst, ap₂, append_assoc, append-nil, arith}
use Rattle.games.specs.declared.side.Side.{Side}
use Rattle.games.specs.declared.side.Side.TheVariants.{Left, Right}
use Rattle.games.specs.Form.{Form, Forms, form, ∅, ◌&◌, ◌∈◌, here, there}
use Rattle.games.specs.Sides.{options}
use Rattle.calls.specs.Rows.{Rows, ◌among◌, first}
use Rattle.calls.specs.Answers.{Answer, told, refused_at}
use Rattle.calls.specs.Sealing.{Seals, found, added, too_wide, no_place}
use Rattle.calls.specs.Entering.{Entry, entry, parts, parts_of_all, place_after, SealsInTurn, done, next, stop, Enters, accepted, ended}
use Rattle.calls.specs.Sound.{Sound}
use Rattle.calls.proofs.Sealing.{Node, extends_known, seals_sound}
use Rattle.calls.proofs.Entering.{turn_grows, turn_known, among_front, among_back}
use Rattle.calls.proofs.Outcomes.{seals_total, seals_one}

pub record TurnOutcome (c : ℕ) (rows : Rows) (gs : List Form) : Type 0 where
  pub end : Option ℕ
  pub after : Rows
  pub entries : List Entry
  pub holds : SealsInTurn c rows gs end after entries

pub turn_then : {c : ℕ} {a b d : Rows} {gs hs : List Form} {end : Option ℕ} {es fs : List Entry} → SealsInTurn c a gs None b es → SealsInTurn c b hs end d fs → SealsInTurn c a (gs ++ hs) end d (fs ++ es)
turn_then {fs = fs} done u = rw (append-nil fs) u
turn_then {fs = fs} (next {g = g} {n = n} {es = es} s t) u = rw (← (append_assoc fs es (entry n g ∷ []))) (next s (turn_then t u))

pub turn_stop : {c k : ℕ} {a b : Rows} {gs : List Form} {es : List Entry} (hs : List Form) → SealsInTurn c a gs (Some k) b es → SealsInTurn c a (gs ++ hs) (Some k) b es
turn_stop hs (next s t) = next s (turn_stop hs t)
turn_stop hs (stop s) = stop s

outcome_then : {c : ℕ} {a : Rows} {gs hs : List Form} → TurnOutcome c a gs → ((b : Rows) (es : List Entry) → SealsInTurn c a gs None b es → TurnOutcome c b hs) → TurnOutcome c a (gs ++ hs)
outcome_then {c} {a} {gs} {hs} o f = go o.end o.holds
  where
    go : (end : Option ℕ) → SealsInTurn c a gs end o.after o.entries → TurnOutcome c a (gs ++ hs)
    go None t = let u = f o.after o.entries t in record { end = u.end; after = u.after; entries = u.entries ++ o.entries; holds = turn_then t u.holds }
    go (Some k) t = record { end = Some k; after = o.after; entries = o.entries; holds = turn_stop hs t }

single : {c : ℕ} {a b : Rows} {g : Form} {r : Answer ℕ} → Seals c a g r b → TurnOutcome c a (g ∷ [])
single (found n k e) = record { end = None; after = _; entries = _; holds = next (found n k e) done }
single (added n r b f w l) = record { end = None; after = _; entries = _; holds = next (added n r b f w l) done }
single (too_wide n h f w) = record { end = Some 2; after = _; entries = _; holds = stop (too_wide n h f w) }
single (no_place n h f w l) = record { end = Some 3; after = _; entries = _; holds = stop (no_place n h f w l) }

itself : (g : Form) → g among parts g
itself (form ls rs) = among_back (parts_of_all ls) _ (among_back (parts_of_all rs) _ first)

all_among : (gs : Forms) (x : Form) → x ∈ gs → x among parts_of_all gs
all_among ∅ x m = elim m [ ]
all_among (g & gs) x here = among_front (parts g) _ (itself g)
all_among (g & gs) x (there m) = among_back (parts g) _ (all_among gs x m)

sound_after : {c : ℕ} {a b : Rows} {gs : List Form} {end : Option ℕ} {es : List Entry} → Sound a → SealsInTurn c a gs end b es → Sound b
sound_after s t = (turn_grows t).sound s

whole : (c : ℕ) (a : Rows) (ls rs : Forms) → Sound a → TurnOutcome c a (parts_of_all ls) → ((b : Rows) → Sound b → TurnOutcome c b (parts_of_all rs)) → TurnOutcome c a (parts (form ls rs))
whole c a ls rs s o f =
    outcome_then o (λ b es t. outcome_then (f b (sound_after s t)) (λ d fs u.
    single (seals_total c d (form ls rs) (sound_after (sound_after s t) u) (known t u)).holds))
  where
    known : {b d : Rows} {es fs : List Entry} → SealsInTurn c a (parts_of_all ls) None b es → SealsInTurn c b (parts_of_all rs) None d fs
        → (z : Side) (x : Form) → x ∈ options z (form ls rs) → Node d x
    known t u Left x m = extends_known (turn_grows u).extends (turn_known t x (all_among ls x m))
    known t u Right x m = turn_known u x (all_among rs x m)

mutual
  pub parts_total : (g : Form) (c : ℕ) (a : Rows) → Sound a → TurnOutcome c a (parts g)
  parts_total (form ls rs) c a s = whole c a ls rs s (parts_all_total ls c a s) (λ b z. parts_all_total rs c b z)

  pub parts_all_total : (gs : Forms) (c : ℕ) (a : Rows) → Sound a → TurnOutcome c a (parts_of_all gs)
  parts_all_total ∅ c a s = record { end = None; after = a; entries = []; holds = done }
  parts_all_total (g & gs) c a s = outcome_then (parts_total g c a s) (λ b es t. parts_all_total gs c b (sound_after s t))

pub turn_one : {c : ℕ} {a b d : Rows} {gs : List Form} {end fin : Option ℕ} {es fs : List Entry} → Sound a → SealsInTurn c a gs end b es → SealsInTurn c a gs fin d fs → (end ≡ fin) × (b ≡ d) × (es ≡ fs)
turn_one s done done = (refl, refl, refl)
turn_one {c} {d = d} {fin = fin} s (next {g = g} {gs = gs} {n = n} p t) (next {n = m} {es = es'} q u) =
    let (x, y) = seals_one s p q in
    let same : n ≡ m = cc in
    let (e, f, h) = turn_one (seals_sound s p) t (subst (λ z. SealsInTurn c z gs fin d es') (sym y) u) in
    (e, f, ap₂ (λ l k. l ++ entry k g ∷ []) h same)
turn_one s (next p t) (stop q) = let x = (seals_one s p q).0 in let z : ◌≡◌ {A = ℕ} 0 1 = cc in absurd (omega arith)
turn_one s (stop p) (next q u) = let x = (seals_one s p q).0 in let z : ◌≡◌ {A = ℕ} 0 1 = cc in absurd (omega arith)
turn_one s (stop {k = k} p) (stop {k = l} q) =
    let x = (seals_one s p q).0 in
    let same : k ≡ l = cc in
    (ap Some same, refl, refl)

-- entering
pub record EnterOutcome (c : ℕ) (rows : Rows) (g : Form) (ps : List ℕ) : Type 0 where
  pub answer : Answer ℕ
  pub after : Rows
  pub entries : List Entry
  pub holds : Enters c rows g ps answer after entries

-- the newest entry is the last form's
newest : (gs : List Form) (g : Form) {c : ℕ} {a b : Rows} {es : List Entry} → SealsInTurn c a (gs ++ g ∷ []) None b es → (n : ℕ) × (fs : List Entry) × (es ≡ entry n g ∷ fs)
newest [] g (next {n = n} s done) = (n, [], refl)
newest (x ∷ gs) g (next {n = m} s t) = let (n, fs, e) = newest gs g t in (n, fs ++ entry m x ∷ [], ap (λ l. l ++ entry m x ∷ []) e)

pub enters_total : (g : Form) (ps : List ℕ) (c : ℕ) (a : Rows) → Sound a → EnterOutcome c a g ps
enters_total (form ls rs) ps c a s = go (parts_total g c a s).end (parts_total g c a s).holds
  where
    g : Form
    g = form ls rs

    o : TurnOutcome c a (parts g)
    o = parts_total g c a s

    go : (end : Option ℕ) → SealsInTurn c a (parts g) end o.after o.entries → EnterOutcome c a g ps
    go None t =
        let u : SealsInTurn c a ((parts_of_all ls ++ parts_of_all rs) ++ g ∷ []) None o.after o.entries = rw (append_assoc (parts_of_all ls) (parts_of_all rs) (g ∷ [])) t in
        let (n, fs, e) = newest (parts_of_all ls ++ parts_of_all rs) g u in
        record { answer = told n; after = o.after; entries = entry n g ∷ fs; holds = accepted (rw e at t) }
    go (Some k) t = record { answer = refused_at k (place_after o.entries ps); after = o.after; entries = o.entries; holds = ended t }

abbrev top : List Entry → ℕ
top [] = 0
top (e ∷ es) = e.number

pub enters_one : {c : ℕ} {a b d : Rows} {g : Form} {ps : List ℕ} {r q : Answer ℕ} {es fs : List Entry} → Sound a → Enters c a g ps r b es → Enters c a g ps q d fs → (r ≡ q) × (b ≡ d) × (es ≡ fs)
enters_one s (accepted t) (accepted u) = let (e, f, h) = turn_one s t u in (ap (λ l. told (top l)) h, f, h)
enters_one s (accepted t) (ended u) = let e = (turn_one s t u).0 in let z : ◌≡◌ {A = ℕ} 0 1 = cc in absurd (omega arith)
enters_one s (ended t) (accepted u) = let e = (turn_one s t u).0 in let z : ◌≡◌ {A = ℕ} 0 1 = cc in absurd (omega arith)
enters_one {ps = ps} s (ended {k = k} t) (ended {k = l} u) =
    let (e, f, h) = turn_one s t u in
    let same : k ≡ l = cc in
    (ap₂ (λ x l. refused_at x (place_after l ps)) same h, f, h)
