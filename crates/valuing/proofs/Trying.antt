-- The steps of a first move: successors are valued in turn, and a winning one is kept. What it is among those that win is for Earliest and Latest to say.
-- Assumes nothing.
use Rattle.std.proofs.Common.{◌≡◌, ℕ, suc, ◌+◌, ◌<◌, ◌≤◌, Bool, true, false, not, List, [], ◌∷◌, ◌++◌, length, get_or, take, drop, Some, None, Err, Option, Result, sym, refl, ap, ◌∙◌, subst, arith, MatchOption}
use Rattle.std.specs.List.{slice_get, AllByRecursion}
use Rattle.std.proofs.lemmas.List.{take_more, take_all}
use Rattle.games.specs.declared.outcome.Outcome.{Outcome}
use Rattle.games.specs.declared.side.Side.{Side}
use Rattle.games.specs.declared.side.Side.TheVariants.{Left, Right}
use Rattle.games.specs.Form.{Form, 𝟎}
use Rattle.games.specs.Order.{ge, ◌≈◌}
use Rattle.games.specs.Outcomes.{against_zero, comparison, outcome}
use Rattle.games.specs.Play.{wins}
use Rattle.games.specs.Sides.{other}
use Rattle.games.specs.Tests.{as_good}
use Rattle.games.proofs.Play.{wins_is}
use Rattle.rulesets.specs.Rules.{Rules, Lawful, game}
use Rattle.rulesets.specs.Winning.{mover_wins}
use Rattle.rulesets.proofs.Positions.{nth_some}
use Rattle.calls.specs.Answers.{told, refused}
use Rattle.calls.specs.Asking.{TellsOutcome}
use Rattle.calls.specs.Entering.{Entry, Enters, accepted}
use Rattle.calls.specs.Positions.{Winning, order}
use Rattle.calls.specs.Rows.{Rows, first, node}
use Rattle.calls.proofs.Entering.{turn_grows}
use Rattle.calls.specs.Valuing.{Valuing}
use Rattle.calls.proofs.Evaluating.{valuing_none, valuing_more}
use Rattle.calls.proofs.Moving.{move_stops, move_told, same_winner}
use Rattle.valuing.specs.declared.fault.ValueFault.{ValueFault}
use Rattle.valuing.specs.declared.fault.ValueFault.TheVariants.{Illegal, Position}
use Rattle.valuing.specs.Answers.{answer_at, refusal}
use Rattle.valuing.specs.Moved.{Moved, won_by}
use Rattle.valuing.specs.Valued.{Entered}
use Rattle.valuing.proofs.Steps.{not_plain, number_in, split}

-- who wins, by the outcome
won_case : (s : Side) (a b : Bool) (g : Form) → ge g 𝟎 ≡ a → ge 𝟎 g ≡ b → won_by s (against_zero (comparison a b)) ≡ as_good s g 𝟎
won_case Left true true g e f = sym e
won_case Left true false g e f = sym e
won_case Left false true g e f = sym e
won_case Left false false g e f = sym e
won_case Right true true g e f = sym f
won_case Right true false g e f = sym f
won_case Right false true g e f = sym f
won_case Right false false g e f = sym f

pub won : (s : Side) (g : Form) → won_by s (outcome g) ≡ as_good s g 𝟎
won s g = won_case s (ge g 𝟎) (ge 𝟎 g) g refl refl

tells_known : {rows : Rows} {n : ℕ} {x : Outcome} → TellsOutcome rows n (told x) → x ≡ outcome (node rows n)
tells_known (TellsOutcome.known h) = refl

tells_refused : {rows : Rows} {n k : ℕ} → TellsOutcome rows n (refused k) → length rows ≤ n
tells_refused (TellsOutcome.unknown h) = h

pub won_told : (rows : Rows) (n : ℕ) (s : Side) (x : Outcome) → TellsOutcome rows n (told x) → won_by s x ≡ as_good s (node rows n) 𝟎
won_told rows n s x t = ap (won_by s) (tells_known t) ∙ won s (node rows n)

pub never_refused : (rows : Rows) (n k : ℕ) → TellsOutcome rows n (refused k) → n < length rows → ⊥
never_refused rows n k t h = let l = tells_refused t in omega arith

twice : (b : Bool) → not (not b) ≡ b
twice true = refl
twice false = refl

turned : (s : Side) (g : Form) → not (wins (other s) g 𝟎) ≡ as_good s g 𝟎
turned Left g = ap not (wins_is Right g 𝟎) ∙ twice (as_good Left g 𝟎)
turned Right g = ap not (wins_is Left g 𝟎) ∙ twice (as_good Right g 𝟎)

number_equals : {R : Rules} {c n m : ℕ} {a b : Rows} → Entered R c a m (told n) b → node b n ≈ game R m
number_equals {R} {c} {n} {m} {a} {b} x = go x.holds
  where
    go : {es : List Entry} → Enters c a (game R m) (order R m) (told n) b es → node b n ≈ game R m
    go (accepted t) = ((turn_grows t).right _ first).equals

-- the node that was told for a position wins as the position does
pub node_wins : (R : Rules) (s : Side) {c n m : ℕ} {a b : Rows} → Entered R c a m (told n) b → as_good s (node b n) 𝟎 ≡ mover_wins R s m
node_wins R s {n = n} {m = m} {b = b} x = sym (turned s (node b n)) ∙ ap not (same_winner (other s) (node b n) (game R m) 𝟎 (number_equals x))

-- what is known of a move k that is kept after i turns: it wins, and of the moves beside i k none does
abbrev pub Best : (ℕ → ℕ → ℕ → Type 0) → Rules → Side → List ℕ → ℕ → Option ℕ → Type 0
Best beside R s ms i w = MatchOption w ((k : ℕ) → k < i → mover_wins R s (get_or ms k 0) ≡ false) (λ k. (k < length ms) × (mover_wins R s (get_or ms k 0) ≡ true) × ((j : ℕ) → beside i k j → mover_wins R s (get_or ms j 0) ≡ false))

pub record Tried (beside : ℕ → ℕ → ℕ → Type 0) (R : Rules) (s : Side) (c : ℕ) (a : Rows) (ms : List ℕ) (i : ℕ) (w : Option ℕ) (b : Rows) : Type 0 where
  pub numbers : List ℕ
  pub entries : List Entry
  pub holds : Valuing R c a (take i ms) numbers b entries
  pub best : Best beside R s ms i w

-- what holds between the state in which the loop began and the state after i turns: ok says that the memory is right
pub record Trying (beside : ℕ → ℕ → ℕ → Type 0) (R : Rules) (s : Side) (ms : List ℕ) (i : ℕ) (w : Option ℕ) (c₀ c : ℕ) (a b : Rows) (ok : Type 0) : Type 0 where
  pub room : c ≡ c₀
  pub kept : ok
  pub so_far : Tried beside R s c₀ a ms i w b

all_from : (P : ℕ → Type 0) (ms : List ℕ) → ((k : ℕ) → k < length ms → P (get_or ms k 0)) → AllByRecursion P ms
all_from P [] h = tt
all_from P (m ∷ ms) h = (h 0 (omega arith), all_from P ms (λ k l. h (suc k) (omega arith)))

winning_at : (beside : ℕ → ℕ → ℕ → Type 0) (R : Rules) (s : Side) (code i : ℕ) (w : Option ℕ) → length (R.moves s code) ≤ i → Best beside R s (R.moves s code) i w → Winning R s code w
winning_at beside R s code i None h b = Winning.nowhere (all_from (λ m. mover_wins R s m ≡ false) (R.moves s code) (λ k l. b k (omega arith)))
winning_at beside R s code i (Some k) h b = Winning.index k b.0 b.1

module _ (beside : ℕ → ℕ → ℕ → Type 0) (R : Rules) (l : Lawful R) (s : Side) where
  pub tries : (ms : List ℕ) (c : ℕ) (a : Rows) (ok : Type 0) → ok → Trying beside R s ms 0 None c c a a ok
  tries ms c a ok k = record { room = refl; kept = k; so_far = record { numbers = []; entries = []; holds = valuing_none R l c a; best = λ k z. absurd (omega arith) } }

  -- one more turn, whose move wins or not; r says which, and v is the move that is kept then
  module _ (ms : List ℕ) (i m n : ℕ) (w : Option ℕ) (c₀ c c' : ℕ) (a b d : Rows) (ok ok' : Type 0) (t : Trying beside R s ms i w c₀ c a b ok) (at : Some m ≡ slice_get ms i) (ce : c' ≡ c) (keeps : ok → ok')
      (x : ok → Entered R c b m (told n) d) (r : Bool) (tells : n < length d → r ≡ as_good s (node d n) 𝟎)
      (v : Option ℕ) (more : i < length ms → r ≡ mover_wins R s (get_or ms i 0) → Best beside R s ms i w → Best beside R s ms (i + 1) v) where
    entered : Entered R c₀ b m (told n) d
    entered = subst (λ z. Entered R z b m (told n) d) t.room (x t.kept)

    is_won : r ≡ mover_wins R s (get_or ms i 0)
    is_won = tells (number_in entered) ∙ node_wins R s entered ∙ ap (mover_wins R s) (sym (nth_some ms i m at).1)

    pub one_tried : Trying beside R s ms (i + 1) v c₀ c' a d ok'
    one_tried = record {
      room = ce ∙ t.room;
      kept = keeps t.kept;
      so_far =
          let (k, e) = nth_some ms i m at in
          record {
            numbers = t.so_far.numbers ++ n ∷ [];
            entries = entered.entries ++ t.so_far.entries;
            holds = rw (take_more ms i 0 k, e) (valuing_more R l c₀ (take i ms) m t.so_far.holds entered.holds);
            best = more k is_won t.so_far.best;
          };
    }

  module _ (code : ℕ) (legal : R.legal code ≡ true) where
    stops : (f : ValueFault) (i m : ℕ) (c : ℕ) (a b d : Rows) (w : Option ℕ) → Some m ≡ slice_get (R.moves s code) i → Tried beside R s c a (R.moves s code) i w b → Entered R c b m (refusal f) d → Moved R c a s code (refusal f) d
    stops Illegal i m c a b d w at v x = absurd (not_plain x)
    stops (Position z f) i m c a b d w at v x =
        let ms = R.moves s code in
        let (k, e) = nth_some ms i m at in
        record { entries = _; holds = move_stops R l c s code legal (take i ms) (drop (suc i) ms) m (subst (λ y. ms ≡ take i ms ++ y ∷ drop (suc i) ms) e (split ms i k)) v.holds x.holds }

    pub broke : (i m : ℕ) (w : Option ℕ) (c₀ c : ℕ) (a b d : Rows) (ok : Type 0) (r : Result (Option ℕ) ValueFault) (f : ValueFault) → r ≡ Err f
        → Trying beside R s (R.moves s code) i w c₀ c a b ok → Some m ≡ slice_get (R.moves s code) i → (ok → Entered R c b m (refusal f) d) → Moved R c₀ a s code (answer_at r) d
    broke i m w c₀ c a b d ok r f e t at x =
        subst (λ y. Moved R c₀ a s code (answer_at y) d) (sym e) (stops f i m c₀ a b d w at t.so_far (subst (λ z. Entered R z b m (refusal f) d) t.room (x t.kept)))

    pub tried : (i : ℕ) (w : Option ℕ) (c₀ c : ℕ) (a b : Rows) (ok : Type 0) → length (R.moves s code) ≤ i → Trying beside R s (R.moves s code) i w c₀ c a b ok → Moved R c₀ a s code (told w) b
    tried i w c₀ c a b ok k t =
        let v = t.so_far in
        let all : Valuing R c₀ a (R.moves s code) v.numbers b v.entries = rw (take_all i (R.moves s code) k) at v.holds in
        record { entries = v.entries; holds = move_told R l c₀ s code legal w all (winning_at beside R s code i w k v.best) }
