-- What the proof of a first move needs: who wins is told by the number of a successor's node, and the successors of one side are valued in turn.
-- Assumes nothing.
use Rattle.std.proofs.Common.{◌≡◌, ℕ, zero, suc, ◌<◌, Bool, true, false, not, T, List, [], ◌∷◌, ◌++◌, length, get_or, Some, Option, sym, refl, ap, ◌∙◌, subst, arith}
use Rattle.std.specs.List.{flat_map}
use Rattle.games.specs.declared.side.Side.{Side}
use Rattle.games.specs.declared.side.Side.TheVariants.{Left, Right}
use Rattle.games.specs.Form.{Form, 𝟎}
use Rattle.games.specs.Numbered.{each}
use Rattle.games.specs.Sides.{other}
use Rattle.games.specs.Order.{ge, ◌≈◌}
use Rattle.games.specs.Play.{wins}
use Rattle.games.specs.Tests.{as_good}
use Rattle.games.proofs.Order.{≥_trans, ≈_sym}
use Rattle.games.proofs.Play.{wins_is}
use Rattle.rulesets.specs.Rules.{Rules, Lawful, game}
use Rattle.rulesets.specs.Winning.{mover_wins}
use Rattle.calls.specs.Rows.{Rows, node}
use Rattle.calls.specs.Answers.{told, refused_at}
use Rattle.calls.specs.Entering.{Entry, parts_of_all, place_after, SealsInTurn, Enters}
use Rattle.calls.specs.Positions.{order, Winning, FirstMoves}
use Rattle.calls.specs.Laws.{Equal, equal_next}
use Rattle.calls.specs.Valuing.{Valuing}
use Rattle.calls.proofs.Evaluating.{valuing_stops}

-- two games that are equal in value are won alike
both : (a b : Bool) → (T a → T b) → (T b → T a) → a ≡ b
both true true f g = refl
both true false f g = absurd (f tt)
both false true f g = absurd (g tt)
both false false f g = refl

good_same : (s : Side) (g h k : Form) → g ≈ h → as_good s g k ≡ as_good s h k
good_same Left g h k e =
    both (ge g k) (ge h k) (λ t. (≥_trans e.below (record { holds = t })).holds) (λ t. (≥_trans e.above (record { holds = t })).holds)
good_same Right g h k e =
    both (ge k g) (ge k h) (λ t. (≥_trans (record { holds = t }) e.above).holds) (λ t. (≥_trans (record { holds = t }) e.below).holds)

pub same_winner : (s : Side) (g h k : Form) → g ≈ h → wins s g k ≡ wins s h k
same_winner s g h k e = wins_is s g k ∙ (ap not (good_same (other s) g h k e) ∙ sym (wins_is s h k))

-- the node that was told for a successor wins as the successor does
pub number_wins : (R : Rules) (s : Side) {rows : Rows} (ms ns : List ℕ) → Equal rows ns (each (game R) ms) → (i : ℕ) → i < length ms
    → mover_wins R s (get_or ms i 0) ≡ not (wins (other s) (node rows (get_or ns i 0)) 𝟎)
number_wins R s [] ns x i k = absurd (omega arith)
number_wins R s (m ∷ ms) [] x i k = elim x [ ]
number_wins R s {rows} (m ∷ ms) (n ∷ ns) (equal_next l e x) zero k = ap not (same_winner (other s) (game R m) (node rows n) 𝟎 (≈_sym e))
number_wins R s (m ∷ ms) (n ∷ ns) (equal_next l e x) (suc i) k = number_wins R s ms ns x i (omega arith)

module _ (R : Rules) (lawful : Lawful R) (c : ℕ) (s : Side) (code : ℕ) (legal : R.legal code ≡ true) where
  -- all successors are valued
  pub move_told : {a b : Rows} {ns : List ℕ} {es : List Entry} (w : Option ℕ) → Valuing R c a (R.moves s code) ns b es → Winning R s code w → FirstMoves R c a s code (told w) b es
  move_told w v x = FirstMoves.valued legal v.turn x

  -- a refusal in a successor
  pub move_stops : (ms rest : List ℕ) (m : ℕ) {a b d : Rows} {ns : List ℕ} {k at : ℕ} {es fs : List Entry} → R.moves s code ≡ ms ++ m ∷ rest
      → Valuing R c a ms ns b es → Enters c b (game R m) (order R m) (refused_at k at) d fs → FirstMoves R c a s code (refused_at k at) d (fs ++ es)
  move_stops ms rest m {a = a} {d = d} {k = k} {at = at} {es = es} {fs = fs} e v x =
      let (t, p) = valuing_stops R lawful c ms rest m v x in
      let u : SealsInTurn c a (parts_of_all (each (game R) (R.moves s code))) (Some k) d (fs ++ es) = rw e t in
      let q : at ≡ place_after (fs ++ es) (flat_map (order R) (R.moves s code)) = rw e p in
      subst (λ i. FirstMoves R c a s code (refused_at k i) d (fs ++ es)) (sym q) (FirstMoves.ended legal u)
