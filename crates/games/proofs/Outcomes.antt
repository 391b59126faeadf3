-- The comparison and the outcome of games, told by who can win when starting.
-- Assumes nothing.
use Rattle.std.proofs.Common.{◌≡◌, Bool, not, sym, refl, ap, ◌∙◌, ap₂}
use mathlib.Core.Bool.{not-not}
use Rattle.games.specs.Form.{Form, 𝟎}
use Rattle.games.specs.Sides.{Left, Right}
use Rattle.games.specs.Order.{ge}
use Rattle.games.specs.Play.{wins}
use Rattle.games.specs.Outcomes.{comparison, compare, against_zero, outcome}
use Rattle.games.specs.declared.outcome.Comparison.{Comparison}
use Rattle.games.specs.declared.outcome.Outcome.{Outcome}
use Rattle.games.specs.Laws.{PlayTellsTheOrder}
use Rattle.games.proofs.Order.{≥_make, ≥_right, ≥_left, ≥_refl, ≥_trans, ≥_dec, left_never, right_never}
use Rattle.games.proofs.Play.{wins_is, wins_law, ≥_by_play, ≤_by_play, ≈_by_play}

pub compare_by_play : (a b : Bool) (x : Comparison) → x ≡ comparison (not b) (not a) → (g h : Form) → wins Left g h ≡ a → wins Right g h ≡ b → x ≡ compare g h
compare_by_play a b x e g h p q =
    e ∙ ap₂ comparison (ap not (sym q ∙ wins_is Right g h) ∙ not-not (ge g h)) (ap not (sym p ∙ wins_is Left g h) ∙ not-not (ge h g))

pub outcome_by_play : (a b : Bool) (x : Outcome) → x ≡ against_zero (comparison (not b) (not a)) → (g : Form) → wins Left g 𝟎 ≡ a → wins Right g 𝟎 ≡ b → x ≡ outcome g
outcome_by_play a b x e g p q = e ∙ ap against_zero (compare_by_play a b (comparison (not b) (not a)) refl g 𝟎 p q)

pub play_tells_the_order : PlayTellsTheOrder
play_tells_the_order = record {
  order_reads = λ g h. ((λ p. ((λ r m. ≥_right p m), λ l m. ≥_left p m)), λ f. ≥_make f.0 f.1);
  order_is_one = (≥_refl, λ g h k p q. ≥_trans p q, ≥_dec);
  options_never = (λ g l m. left_never m, λ g r m. right_never m);
  play_reads = wins_law;
  order_by_play = λ g h. (≥_by_play g h, ≤_by_play g h);
  equal_by_play = ≈_by_play;
}
