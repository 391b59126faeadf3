-- Each call has an outcome, and only one.
-- Assumes nothing.
use Rattle.std.proofs.Common.{◌≡◌, ℕ, suc, ◌<◌, ◌≤◌, Bool, true, false, ◌⊎◌, List, [], ◌∷◌, length, get_or, Some, None, Option, sym, refl, ◌∙◌, subst, ap₂, inl, inr, arith}
use native.Mathlib.Decide.{dec_lt, dec_le}
use Rattle.std.specs.List.{AllByRecursion}
use Rattle.games.specs.declared.outcome.Comparison.{Comparison}
use Rattle.games.specs.declared.outcome.Outcome.{Outcome}
use Rattle.games.specs.declared.side.Side.{Side}
use Rattle.games.specs.declared.side.Side.TheVariants.{Left, Right}
use Rattle.games.specs.Form.{Form, Forms, ◌∈◌, here, there}
use Rattle.games.specs.Order.{◌≈◌}
use Rattle.games.specs.Sides.{options}
use Rattle.games.specs.Text.{bytes}
use Rattle.games.specs.Laws.{Alike}
use Rattle.games.specs.Numbered.{Lists, each, form_by}
use Rattle.games.proofs.Order.{≈_refl, ≈_sym}
use Rattle.games.proofs.Value.{replace_≈}
use Rattle.games.proofs.Text.{bytes_injective}
use Rattle.rulesets.specs.Winning.{mover_wins}
use Rattle.rulesets.specs.Rules.{Rules, game}
use Rattle.calls.specs.Rows.{Rows, node, Below}
use Rattle.calls.specs.Positions.{order, Values, FirstMoves, Winning, index, nowhere}
use Rattle.calls.specs.Answers.{Answer, told, refused, refused_at}
use Rattle.calls.specs.Sealing.{Seals, SealsNumbers, unknown, known}
use Rattle.calls.specs.Entering.{Entry, parts_of_all, SealsInTurn, Enters}
use Rattle.calls.specs.Texts.{Written, Fault, closings}
use Rattle.calls.specs.Reading.{Reads}
use Rattle.calls.specs.Asking.{Compares, TellsOutcome, Prints}
use Rattle.calls.specs.Sound.{Sound}
use Rattle.calls.specs.Drafts.{Puts}
use Rattle.calls.specs.Runs.{put}
use Rattle.calls.specs.Outcomes.{ExactlyOne, Effect, TextsHaveOneVerdict, ComparingHasOneOutcome, TellingHasOneOutcome, SealingHasOneOutcome, ValuingHasOneOutcome, ReadingHasOneOutcome, PrintingHasOneOutcome, FirstMoveHasAnOutcome, PuttingHasOneOutcome}
use Rattle.calls.specs.Laws.{Equal, none_left, SealingGoesByNumbers, equal_next}
use Rattle.calls.proofs.Sealing.{Node, seals_≈}
use Rattle.calls.proofs.Outcomes.{seals_total, seals_one}
use Rattle.calls.proofs.Turns.{parts_all_total, turn_one, enters_total, enters_one}
use Rattle.calls.proofs.Texts.{no_fault, fault_one, Verdict, verdict}

-- whether numbers are below a bound
all_dec : (k : ℕ) (ns : List ℕ) → Dec (AllByRecursion (λ m. m < k) ns)
all_dec k [] = yes tt
all_dec k (n ∷ ns) = go (dec_lt n k) (all_dec k ns)
  where
    go : Dec (n < k) → Dec (AllByRecursion (λ m. m < k) ns) → Dec (AllByRecursion (λ m. m < k) (n ∷ ns))
    go (yes p) (yes q) = yes (p, q)
    go (yes p) (no f) = no (λ h. f h.1)
    go (no f) q = no (λ h. f h.0)

below_dec : (k : ℕ) (d : Lists) → Dec (Below k d)
below_dec k d = go (all_dec k d.left) (all_dec k d.right)
  where
    go : Dec (AllByRecursion (λ m. m < k) d.left) → Dec (AllByRecursion (λ m. m < k) d.right) → Dec (Below k d)
    go (yes p) (yes q) = yes (record { on_left = p; on_right = q })
    go (yes p) (no f) = no (λ h. f h.on_right)
    go (no f) q = no (λ h. f h.on_left)

by_form : {c : ℕ} {rows after : Rows} {a : Answer ℕ} {d : Lists} {g : Form} → Below (length rows) d → form_by (node rows) d ≈ g → SealsNumbers c rows d a after → Seals c rows g a after
by_form b e (unknown f) = absurd (f b)
by_form b e (known k s) = seals_≈ e s

equal_below : {rows : Rows} {ns : List ℕ} {gs : Forms} → Equal rows ns gs → AllByRecursion (λ m. m < length rows) ns
equal_below none_left = tt
equal_below (equal_next k e r) = (k, equal_below r)

equal_to : {rows : Rows} {ns : List ℕ} {gs : Forms} → Equal rows ns gs → Alike (each (node rows) ns) gs
equal_to none_left x m = elim m [ ]
equal_to (equal_next {g = g} k e r) x here = (g, here, ≈_sym e)
equal_to (equal_next k e r) x (there m) = let (y, i, v) = equal_to r x m in (y, there i, v)

equal_from : {rows : Rows} {ns : List ℕ} {gs : Forms} → Equal rows ns gs → Alike gs (each (node rows) ns)
equal_from none_left x m = elim m [ ]
equal_from {rows} (equal_next {n = n} k e r) x here = (node rows n, here, e)
equal_from (equal_next k e r) x (there m) = let (y, i, v) = equal_from r x m in (y, there i, v)

pub sealing_goes_by_numbers : SealingGoesByNumbers
sealing_goes_by_numbers c rows after a d g l r = (by_form below same, λ s. known below (seals_≈ (≈_sym same) s))
  where
    below : Below (length rows) d
    below = record { on_left = equal_below l; on_right = equal_below r }

    to : (s : Side) → Alike (options s (form_by (node rows) d)) (options s g)
    to Left = equal_to l
    to Right = equal_to r

    from : (s : Side) → Alike (options s g) (options s (form_by (node rows) d))
    from Left = equal_from l
    from Right = equal_from r

    same : form_by (node rows) d ≈ g
    same = replace_≈ (form_by (node rows) d) g to from

-- the numbers of a row stand for nodes
named : (rows : Rows) (ns : List ℕ) → AllByRecursion (λ m. m < length rows) ns → (x : Form) → x ∈ each (node rows) ns → Node rows x
named rows [] a x m = elim m [ ]
named rows (n ∷ ns) a x here = record { at = n; inside = a.0; equals = ≈_refl (node rows n) }
named rows (n ∷ ns) a x (there m) = named rows ns a.1 x m

numbers_one : {c : ℕ} {rows b d : Rows} {w : Lists} {r q : Answer ℕ} → Sound rows → SealsNumbers c rows w r b → SealsNumbers c rows w q d → (r ≡ q) × (b ≡ d)
numbers_one s (unknown f) (unknown g) = (refl, refl)
numbers_one s (unknown f) (known k t) = absurd (f k)
numbers_one s (known k t) (unknown f) = absurd (f k)
numbers_one s (known k t) (known l u) = seals_one s t u

pub sealing_has_one_outcome : SealingHasOneOutcome
sealing_has_one_outcome c rows d s = go (below_dec (length rows) d)
  where
    nodes : Below (length rows) d → (z : Side) (x : Form) → x ∈ options z (form_by (node rows) d) → Node rows x
    nodes b Left = named rows d.left b.on_left
    nodes b Right = named rows d.right b.on_right

    one : (a : Answer ℕ) (after : Rows) → SealsNumbers c rows d a after → ExactlyOne (λ (o : Answer ℕ × Rows). SealsNumbers c rows d o.0 o.1)
    one a after t = record { it = (a, after); has = t; only = λ x u. let (p, q) = numbers_one s u t in λ i. (p i, q i) }

    go : Dec (Below (length rows) d) → ExactlyOne (λ (o : Answer ℕ × Rows). SealsNumbers c rows d o.0 o.1)
    go (yes b) = let o = seals_total c rows (form_by (node rows) d) s (nodes b) in one o.answer o.after (known b o.holds)
    go (no f) = one (refused 1) rows (unknown f)

outcome : {a a' : Answer ℕ} {b b' : Rows} {es es' : List Entry} → (a ≡ a') × (b ≡ b') × (es ≡ es') → ◌≡◌ {A = Effect} (record { answer = a; after = b; entries = es }) (record { answer = a'; after = b'; entries = es' })
outcome e = λ i. record { answer = e.0 i; after = e.1 i; entries = e.2 i }

-- value
values_one : {R : Rules} {c code : ℕ} {a b d : Rows} {r q : Answer ℕ} {es fs : List Entry} → Sound a → Values R c a code r b es → Values R c a code q d fs → (r ≡ q) × (b ≡ d) × (es ≡ fs)
values_one s (Values.illegal l) (Values.illegal m) = (refl, refl, refl)
values_one s (Values.illegal l) (Values.legal m t) = let z : ◌≡◌ {A = ℕ} 0 1 = cc in absurd (omega arith)
values_one s (Values.legal l t) (Values.illegal m) = let z : ◌≡◌ {A = ℕ} 0 1 = cc in absurd (omega arith)
values_one s (Values.legal l t) (Values.legal m u) = enters_one s t u

pub valuing_has_one_outcome : ValuingHasOneOutcome
valuing_has_one_outcome R c rows code s = go (R.legal code) refl
  where
    go : (b : Bool) → R.legal code ≡ b → ExactlyOne (λ (o : Effect). Values R c rows code o.answer o.after o.entries)
    go false e = record { it = record { answer = refused 4; after = rows; entries = [] }; has = Values.illegal e; only = λ o u. outcome (values_one s u (Values.illegal e)) }
    go true e =
        let o = enters_total (game R code) (order R code) c rows s in
        record { it = record { answer = o.answer; after = o.after; entries = o.entries }; has = Values.legal e o.holds; only = λ x u. outcome (values_one s u (Values.legal e o.holds)) }

-- read
pub texts_have_one_verdict : TextsHaveOneVerdict
texts_have_one_verdict t = (go (verdict t), λ g f place w x. no_fault g w x)
  where
    go : Verdict t → ((g : Form) × Written t g) ⊎ ExactlyOne (λ (f : ℕ × ℕ). Fault t f.0 f.1)
    go (inl x) = inl x
    go (inr (f, place, x)) = inr (record { it = (f, place); has = x; only = λ y z. let (p, q) = fault_one z x in λ i. (p i, q i) })

reads_one : {c : ℕ} {t : List ℕ} {a b d : Rows} {r q : Answer ℕ} {es fs : List Entry} → Sound a → Reads c a t r b es → Reads c a t q d fs → (r ≡ q) × (b ≡ d) × (es ≡ fs)
reads_one s (Reads.faulty f) (Reads.faulty h) = let (p, q) = fault_one f h in (ap₂ refused_at p q, refl, refl)
reads_one s (Reads.faulty f) (Reads.well g w u) = absurd (no_fault g w f)
reads_one s (Reads.well g w t) (Reads.faulty f) = absurd (no_fault g w f)
reads_one {c} {t} {a} {d = d} {q = q} {fs = fs} s (Reads.well g w x) (Reads.well g' w' y) =
    let same : g' ≡ g = bytes_injective g' g (w'.by_form ∙ sym w.by_form) in
    enters_one s x (subst (λ z. Enters c a z (closings 0 t) q d fs) same y)

pub reading_has_one_outcome : ReadingHasOneOutcome
reading_has_one_outcome c rows t s = go (verdict t)
  where
    go : Verdict t → ExactlyOne (λ (o : Effect). Reads c rows t o.answer o.after o.entries)
    go (inl (g, w)) =
        let o = enters_total g (closings 0 t) c rows s in
        record { it = record { answer = o.answer; after = o.after; entries = o.entries }; has = Reads.well g w o.holds; only = λ x u. outcome (reads_one s u (Reads.well g w o.holds)) }
    go (inr (f, place, x)) = record { it = record { answer = refused_at f place; after = rows; entries = [] }; has = Reads.faulty x; only = λ o u. outcome (reads_one s u (Reads.faulty x)) }

-- print
prints_one : {rows : Rows} {n room : ℕ} {r q : Answer ℕ} {t u : List ℕ} → Prints rows n room r t → Prints rows n room q u → (r ≡ q) × (t ≡ u)
prints_one (Prints.unknown k) (Prints.unknown l) = (refl, refl)
prints_one (Prints.unknown k) (Prints.too_long l x) = absurd (omega arith)
prints_one (Prints.unknown k) (Prints.written l x y) = absurd (omega arith)
prints_one (Prints.too_long l x) (Prints.unknown k) = absurd (omega arith)
prints_one (Prints.too_long l x) (Prints.too_long k y) = (refl, refl)
prints_one (Prints.too_long l x) (Prints.written k y z) = absurd (omega arith)
prints_one (Prints.written l x y) (Prints.unknown k) = absurd (omega arith)
prints_one (Prints.written l x y) (Prints.too_long k z) = absurd (omega arith)
prints_one (Prints.written l x y) (Prints.written k z w) = (refl, refl)

pub printing_has_one_outcome : PrintingHasOneOutcome
printing_has_one_outcome rows n room = go (dec_lt n (length rows)) (dec_le l room) (dec_le l 65535)
  where
    l : ℕ
    l = length (bytes (node rows n))

    one : (a : Answer ℕ) (t : List ℕ) → Prints rows n room a t → ExactlyOne (λ (o : Answer ℕ × List ℕ). Prints rows n room o.0 o.1)
    one a t w = record { it = (a, t); has = w; only = λ x u. let (p, q) = prints_one u w in λ i. (p i, q i) }

    go : Dec (n < length rows) → Dec (l ≤ room) → Dec (l ≤ 65535) → ExactlyOne (λ (o : Answer ℕ × List ℕ). Prints rows n room o.0 o.1)
    go (no f) p q = one (refused 1) [] (Prints.unknown (omega arith))
    go (yes k) (yes p) (yes q) = one (told l) (bytes (node rows n)) (Prints.written k p q)
    go (yes k) (no f) q = one (refused 5) [] (Prints.too_long k (inl (omega arith)))
    go (yes k) (yes p) (no f) = one (refused 5) [] (Prints.too_long k (inr (omega arith)))

-- put
puts_one : {s : Side} {n : ℕ} {d e f : Lists} {a b : Answer (Unit {0})} → Puts s n d a e → Puts s n d b f → (a ≡ b) × (e ≡ f)
puts_one (Puts.taken h) (Puts.taken k) = (refl, refl)
puts_one (Puts.taken h) (Puts.too_large k) = absurd (omega arith)
puts_one (Puts.too_large h) (Puts.taken k) = absurd (omega arith)
puts_one (Puts.too_large h) (Puts.too_large k) = (refl, refl)

pub putting_has_one_outcome : PuttingHasOneOutcome
putting_has_one_outcome s n d = go (dec_le n 383)
  where
    one : (a : Answer (Unit {0})) (e : Lists) → Puts s n d a e → ExactlyOne (λ (o : Answer (Unit {0}) × Lists). Puts s n d o.0 o.1)
    one a e w = record { it = (a, e); has = w; only = λ x u. let (p, q) = puts_one u w in λ i. (p i, q i) }

    go : Dec (n ≤ 383) → ExactlyOne (λ (o : Answer (Unit {0}) × Lists). Puts s n d o.0 o.1)
    go (yes h) = one (told tt) (put s n d) (Puts.taken h)
    go (no f) = one (refused 1) d (Puts.too_large (omega arith))

-- first move
search_list : (p : ℕ → Bool) (ns : List ℕ) → ((i : ℕ) × (i < length ns) × (p (get_or ns i 0) ≡ true)) ⊎ AllByRecursion (λ m. p m ≡ false) ns
search_list p [] = inr tt
search_list p (n ∷ ns) = go (p n) refl (search_list p ns)
  where
    go : (b : Bool) → p n ≡ b → ((i : ℕ) × (i < length ns) × (p (get_or ns i 0) ≡ true)) ⊎ AllByRecursion (λ m. p m ≡ false) ns → ((i : ℕ) × (i < length (n ∷ ns)) × (p (get_or (n ∷ ns) i 0) ≡ true)) ⊎ AllByRecursion (λ m. p m ≡ false) (n ∷ ns)
    go true e r = inl (0, omega arith, e)
    go false e (inl (i, k, t)) = inl (suc i, omega arith, t)
    go false e (inr a) = inr (e, a)

winning : (R : Rules) (s : Side) (code : ℕ) → (w : Option ℕ) × Winning R s code w
winning R s code = elim (search_list (mover_wins R s) (R.moves s code)) [ inl (i, k, e) ↦ (Some i, index i k e) | inr a ↦ (None, nowhere a) ]

moves_one : {R : Rules} {c code : ℕ} {z : Side} {a b d : Rows} {r q : Answer (Option ℕ)} {es fs : List Entry} → Sound a → FirstMoves R c a z code r b es → FirstMoves R c a z code q d fs → (b ≡ d) × (es ≡ fs)
moves_one s (FirstMoves.illegal l) (FirstMoves.illegal m) = (refl, refl)
moves_one s (FirstMoves.illegal l) (FirstMoves.valued m t w) = let z : ◌≡◌ {A = ℕ} 0 1 = cc in absurd (omega arith)
moves_one s (FirstMoves.illegal l) (FirstMoves.ended m t) = let z : ◌≡◌ {A = ℕ} 0 1 = cc in absurd (omega arith)
moves_one s (FirstMoves.valued m t w) (FirstMoves.illegal l) = let z : ◌≡◌ {A = ℕ} 0 1 = cc in absurd (omega arith)
moves_one s (FirstMoves.valued m t w) (FirstMoves.valued l u v) = let (p, q, r) = turn_one s t u in (q, r)
moves_one s (FirstMoves.valued m t w) (FirstMoves.ended l u) = let (p, q, r) = turn_one s t u in (q, r)
moves_one s (FirstMoves.ended m t) (FirstMoves.illegal l) = let z : ◌≡◌ {A = ℕ} 0 1 = cc in absurd (omega arith)
moves_one s (FirstMoves.ended m t) (FirstMoves.valued l u v) = let (p, q, r) = turn_one s t u in (q, r)
moves_one s (FirstMoves.ended m t) (FirstMoves.ended l u) = let (p, q, r) = turn_one s t u in (q, r)

pub first_move_has_an_outcome : FirstMoveHasAnOutcome
first_move_has_an_outcome R c rows s code sound = go (R.legal code) refl
  where
    P : Rows × List Entry → Type 0
    P o = (a : Answer (Option ℕ)) × FirstMoves R c rows s code a o.0 o.1

    one : (a : Answer (Option ℕ)) (after : Rows) (es : List Entry) → FirstMoves R c rows s code a after es → ExactlyOne P
    one a after es t = record { it = (after, es); has = (a, t); only = λ x u. let (p, q) = moves_one sound u.1 t in λ i. (p i, q i) }

    turned : R.legal code ≡ true → (end : Option ℕ) (after : Rows) (es : List Entry) → SealsInTurn c rows (parts_of_all (each (game R) (R.moves s code))) end after es → ExactlyOne P
    turned e None after es t = let (a, w) = winning R s code in one (told a) after es (FirstMoves.valued e t w)
    turned e (Some k) after es t = one _ after es (FirstMoves.ended e t)

    go : (b : Bool) → R.legal code ≡ b → ExactlyOne P
    go false e = one (refused 4) rows [] (FirstMoves.illegal e)
    go true e = let o = parts_all_total (each (game R) (R.moves s code)) c rows sound in turned e o.end o.after o.entries o.holds

-- compare and outcome
compares_one : {rows : Rows} {m n : ℕ} {a b : Answer Comparison} → Compares rows m n a → Compares rows m n b → a ≡ b
compares_one (Compares.unknown k) (Compares.unknown l) = refl
compares_one (Compares.unknown k) (Compares.known i j) = absurd (omega arith)
compares_one (Compares.known i j) (Compares.unknown k) = absurd (omega arith)
compares_one (Compares.known i j) (Compares.known k l) = refl

pub comparing_has_one_outcome : ComparingHasOneOutcome
comparing_has_one_outcome rows m n = go (dec_lt m (length rows)) (dec_lt n (length rows))
  where
    one : (a : Answer Comparison) → Compares rows m n a → ExactlyOne (λ (a : Answer Comparison). Compares rows m n a)
    one a x = record { it = a; has = x; only = λ b y. compares_one y x }

    go : Dec (m < length rows) → Dec (n < length rows) → ExactlyOne (λ (a : Answer Comparison). Compares rows m n a)
    go (yes i) (yes j) = one _ (Compares.known i j)
    go (yes i) (no f) = one _ (Compares.unknown (inr (omega arith)))
    go (no f) d = one _ (Compares.unknown (inl (omega arith)))

tells_one : {rows : Rows} {n : ℕ} {a b : Answer Outcome} → TellsOutcome rows n a → TellsOutcome rows n b → a ≡ b
tells_one (TellsOutcome.unknown k) (TellsOutcome.unknown l) = refl
tells_one (TellsOutcome.unknown k) (TellsOutcome.known i) = absurd (omega arith)
tells_one (TellsOutcome.known i) (TellsOutcome.unknown k) = absurd (omega arith)
tells_one (TellsOutcome.known i) (TellsOutcome.known k) = refl

pub telling_has_one_outcome : TellingHasOneOutcome
telling_has_one_outcome rows n = go (dec_lt n (length rows))
  where
    one : (a : Answer Outcome) → TellsOutcome rows n a → ExactlyOne (λ (a : Answer Outcome). TellsOutcome rows n a)
    one a x = record { it = a; has = x; only = λ b y. tells_one y x }

    go : Dec (n < length rows) → ExactlyOne (λ (a : Answer Outcome). TellsOutcome rows n a)
    go (yes i) = one _ (TellsOutcome.known i)
    go (no f) = one _ (TellsOutcome.unknown (omega arith))
