-- A line of which only the front was kept is answered as the line, and answers are written one behind the other.
-- Assumes nothing.
use Rattle.std.proofs.Common.{◌≡◌, ℕ, ◌<◌, List, [], ◌∷◌, ◌++◌, length, take, Some, None, Option, IfSome, refl, sym, ap, subst, ◌∙◌, arith, append_assoc, append-nil, length-take, take_all, take_at, drop, Bool, true, false, Result, Ok, Err, OnOk}
use native.Mathlib.Decide.{dec_lt}
use Rattle.std.specs.Io.KnownBytes.{Appends, Keeps}
use Rattle.std.proofs.KnownBytes.{Appends-nil, Appends-trans, Appends-kept}
use Rattle.calls.specs.Rows.{Rows}
use Rattle.calculator.specs.Replies.{Answers, long_line, faulty, right}
use Rattle.calculator.specs.Sessions.{Session, over, next}
use Rattle.calculator.specs.Written.{AtFront, Answered, written as is_written}
use Rattle.console.proofs.Lines.{Between, between}
use Rattle.console.specs.Serving.{lines_of, kept, written, Begins, Serves, TakesLine, some, none}

-- a line that is too long has one answer, whatever it holds
too_long : (capacity : ℕ) (rows later : Rows) (line other t : List ℕ) → 1000 < length line → 1000 < length other → Answers capacity rows line t later → Answers capacity rows other t later
too_long capacity rows later line other t long longer (long_line h) = long_line longer
too_long capacity rows later line other t long longer (faulty h f) = absurd (omega arith)
too_long capacity rows later line other t long longer (right h r p) = absurd (omega arith)

-- so what is kept of a line is answered as the line
pub kept_answers : (capacity : ℕ) (rows later : Rows) (line t : List ℕ) → Answers capacity rows (kept line) t later → Answers capacity rows line t later
kept_answers capacity rows later line t a = elim (dec_lt 1000 (length line)) [
  | yes long ↦ too_long capacity rows later (kept line) line t (omega (arith, length-take 1001 line)) long a
  | no short ↦ subst (λ l. Answers capacity rows l t later) (take_all 1001 line (omega arith)) a
]

-- what stands at the front of a buffer
pub at_front : (t before after : List ℕ) (n : ℕ) → AtFront before t after → n ≡ length t → take n after ≡ t
at_front t before after n front is = ap (take n) front ∙ take_at t (drop (length t) before) n (sym is)

-- an answer is taken from the front of a buffer
pub answers_line : (capacity : ℕ) (rows later : Rows) (line before after : List ℕ) (n : ℕ) → Answered capacity rows line before after later (Ok n) → (t : List ℕ) × Answers capacity rows line t later × (take n after ≡ t)
answers_line capacity rows later line before after n (is_written t room a is front) = (t, a, at_front t before after n front is)

-- it is written, and a line break behind it
pub writes_answer : {A E : Type 0} (r : Result A E) (t front : List ℕ) (held grown holds : Option (List ℕ)) → front ≡ t → Appends held grown front → OnOk r (Appends grown holds (10 ∷ [])) → OnOk r (Appends held holds (t ++ (10 ∷ [])))
writes_answer (Err e) t front held grown holds is p q = tt
writes_answer (Ok x) t front held grown holds is p q = Appends-trans held grown holds t (10 ∷ []) (subst (Appends held grown) is p) q

-- ---- answers, one behind the other

written_append : (ts us : List (List ℕ)) → written (ts ++ us) ≡ written ts ++ written us
written_append [] us = refl
written_append (t ∷ ts) us = ap (λ l. t ++ (10 ∷ l)) (written_append ts us) ∙ sym (append_assoc t (10 ∷ written ts) (written us))

session_goes_on : (capacity : ℕ) (rows middle later : Rows) (lines others ts us : List (List ℕ)) → Session capacity rows lines ts middle → Session capacity middle others us later → Session capacity rows (lines ++ others) (ts ++ us) later
session_goes_on capacity rows middle later lines others ts us over s = s
session_goes_on capacity rows middle later lines others ts us (next {rows = _} {between = mid} {after = _} {line = line} {t = t} {lines = ls} {ts = rest} a r) s = next a (session_goes_on capacity mid middle later ls others rest us r s)

-- Some lines are answered. Where the bytes of the input are known, others are left.
pub record Serving (capacity : ℕ) (rows : Rows) (input held : Option (List ℕ)) (middle : Rows) (left holds : Option (List ℕ)) : Type 0 where
  pub lines : List (List ℕ)
  pub answers : List (List ℕ)
  pub session : Session capacity rows lines answers middle
  pub first : Between input left (λ bytes rest. lines_of bytes ≡ lines ++ lines_of rest)
  pub appends : Appends held holds (written answers)

all_left : (input : Option (List ℕ)) → Between input input (λ bytes rest. lines_of bytes ≡ lines_of rest)
all_left None = tt
all_left (Some bytes) = (bytes, refl, refl)

pub serving_begins : (capacity : ℕ) (rows : Rows) (input held : Option (List ℕ)) → Serving capacity rows input held rows input held
serving_begins capacity rows input held = record { lines = []; answers = []; session = over; first = all_left input; appends = Appends-nil held }

-- a line was taken, and as much of it as was kept is answered: so the line is
whole_line : (capacity : ℕ) (rows later : Rows) (left rest : Option (List ℕ)) (line t : List ℕ) → Between left rest (λ bytes others. TakesLine bytes line others true) → Answers capacity rows line t later
    → (whole : List ℕ) × Answers capacity rows whole t later × Between left rest (λ bytes others. lines_of bytes ≡ whole ∷ lines_of others)
whole_line capacity rows later None rest line t p a = (line, a, tt)
whole_line capacity rows later (Some bytes) rest line t p a = at p.2
  where
    at : TakesLine bytes line p.0 true → (whole : List ℕ) × Answers capacity rows whole t later × Between (Some bytes) rest (λ bytes others. lines_of bytes ≡ whole ∷ lines_of others)
    at (some whole first keeps) = (whole, kept_answers capacity rows later whole t (subst (λ l. Answers capacity rows l t later) keeps a), (p.0, p.1, first))

-- one more line is answered
pub serves_one : (capacity room : ℕ) (rows middle later : Rows) (input left rest : Option (List ℕ)) (line t : List ℕ) (held holds grown : Option (List ℕ)) (more : Bool) → Serving capacity rows input held middle left holds
    → Between left rest (λ bytes others. TakesLine bytes line others more) → more ≡ true → room ≡ capacity → Answers room middle line t later → Appends holds grown (t ++ (10 ∷ []))
    → Serving capacity rows input held later rest grown
serves_one capacity room rows middle later input left rest line t held holds grown more s p is same a appends =
    let taken = subst (λ m. Between left rest (λ bytes others. TakesLine bytes line others m)) is p in
    let (whole, b, first) = whole_line capacity middle later left rest line t taken (subst (λ n. Answers n middle line t later) same a) in
    record {
      lines = s.lines ++ (whole ∷ []);
      answers = s.answers ++ (t ∷ []);
      session = session_goes_on capacity rows middle later s.lines (whole ∷ []) s.answers (t ∷ []) s.session (next b over);
      first = between input left rest (λ bytes mid. lines_of bytes ≡ s.lines ++ lines_of mid) (λ mid others. lines_of mid ≡ whole ∷ lines_of others) (λ bytes others. lines_of bytes ≡ (s.lines ++ (whole ∷ [])) ++ lines_of others) s.first first
          (λ bytes mid others e f. e ∙ ap (λ ls. s.lines ++ ls) f ∙ sym (append_assoc s.lines (whole ∷ []) (lines_of others)));
      appends = subst (Appends held grown) (sym (written_append s.answers (t ∷ []))) (Appends-trans held holds grown (written s.answers) (t ++ (10 ∷ [])) s.appends appends);
    }

-- what is held is kept
pub serving_kept : (capacity : ℕ) (rows middle : Rows) (input left held holds after : Option (List ℕ)) → Serving capacity rows input held middle left holds → Keeps holds after → Serving capacity rows input held middle left after
serving_kept capacity rows middle input left held holds after s k = record { lines = s.lines; answers = s.answers; session = s.session; first = s.first; appends = Appends-kept held holds after (written s.answers) s.appends k }

-- no line is left
no_more : (input left rest : Option (List ℕ)) (lines : List (List ℕ)) (line : List ℕ) → Between input left (λ bytes mid. lines_of bytes ≡ lines ++ lines_of mid) → Between left rest (λ bytes others. TakesLine bytes line others false)
    → Between input rest (λ bytes others. (lines_of bytes ≡ lines) × (others ≡ []))
no_more input left rest lines line p q =
    between input left rest (λ bytes mid. lines_of bytes ≡ lines ++ lines_of mid) (λ bytes others. TakesLine bytes line others false) (λ bytes others. (lines_of bytes ≡ lines) × (others ≡ [])) p q at
  where
    at : (bytes mid others : List ℕ) → lines_of bytes ≡ lines ++ lines_of mid → TakesLine mid line others false → (lines_of bytes ≡ lines) × (others ≡ [])
    at bytes mid others e (none empty gone) = (e ∙ ap (λ l. lines ++ lines_of l) empty ∙ append-nil lines, gone)

pub serving_ends : {A E : Type 0} (r : Result A E) (capacity : ℕ) (rows middle : Rows) (input left rest : Option (List ℕ)) (line : List ℕ) (held holds after : Option (List ℕ)) (more : Bool) → Serving capacity rows input held middle left holds
    → Between left rest (λ bytes others. TakesLine bytes line others more) → more ≡ false → Keeps holds after
    → OnOk r (Serves capacity rows input held after middle) × OnOk r (IfSome input (λ _. rest ≡ Some []))
serving_ends (Err e) capacity rows middle input left rest line held holds after more s p is k = (tt, tt)
serving_ends (Ok x) capacity rows middle input left rest line held holds after more s p is k =
    let none_left = no_more input left rest s.lines line s.first (subst (λ m. Between left rest (λ bytes others. TakesLine bytes line others m)) is p) in
    ((s.lines, s.answers, s.session, lines_are input none_left, Appends-kept held holds after (written s.answers) s.appends k), at_end input none_left)
  where
    lines_are : (a : Option (List ℕ)) → Between a rest (λ bytes others. (lines_of bytes ≡ s.lines) × (others ≡ [])) → IfSome a (λ bytes. lines_of bytes ≡ s.lines)
    lines_are None p = tt
    lines_are (Some bytes) p = p.2.0

    at_end : (a : Option (List ℕ)) → Between a rest (λ bytes others. (lines_of bytes ≡ s.lines) × (others ≡ [])) → IfSome a (λ _. rest ≡ Some [])
    at_end None p = tt
    at_end (Some bytes) p = p.1 ∙ ap Some p.2.1

-- what is answered are the first lines
pub begins : (capacity : ℕ) (rows middle : Rows) (input left held holds : Option (List ℕ)) → Serving capacity rows input held middle left holds → Begins capacity rows input middle
begins capacity rows middle None left held holds s = (s.lines, [], s.answers, s.session, tt)
begins capacity rows middle (Some bytes) left held holds s = (s.lines, lines_of s.first.0, s.answers, s.session, s.first.2)

-- also where it is not known what was written for the last one
pub begins_one : (capacity room : ℕ) (rows middle later : Rows) (input left rest : Option (List ℕ)) (line t : List ℕ) (held holds : Option (List ℕ)) (more : Bool) → Serving capacity rows input held middle left holds
    → Between left rest (λ bytes others. TakesLine bytes line others more) → more ≡ true → room ≡ capacity → Answers room middle line t later → Begins capacity rows input later
begins_one capacity room rows middle later input left rest line t held holds more s p is same a =
    let unknown : Serving capacity rows input None middle left None = record { lines = s.lines; answers = s.answers; session = s.session; first = s.first; appends = tt } in
    begins capacity rows later input rest None None (serves_one capacity room rows middle later input left rest line t None None None more unknown p is same a tt)
