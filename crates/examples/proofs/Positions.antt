-- The worked positions, by computation.
-- Assumes nothing.
use mathlib.Core.Path.{◌≡◌, refl}
use mathlib.Core.List.{List}
use Prim.Native.Nat.{ℕ}
use lib.Dec.{T}
use Rattle.games.specs.declared.outcome.Outcome.{Outcome}
use Rattle.games.specs.Form.{Form, form, ∅, ◌&◌, 𝟎, 𝟏, _𝟏, ⋆}
use Rattle.games.specs.Order.{ge}
use Rattle.games.specs.Outcomes.{outcome}
use Rattle.games.specs.Tests.{is_canonical}
use Rattle.games.specs.Text.{bytes}
use Rattle.games.proofs.Tests.{canonical_is}
use Rattle.rulesets.specs.Rules.{game}
use Rattle.bits.specs.Bits.{bit, places}
use Rattle.bits.specs.Digits.{digit}
use Rattle.hackenbush.specs.Joined.{joined}
use Rattle.hackenbush.specs.Hackenbush.{painted, fall, legal}
use Rattle.examples.specs.Worked.{Worked, WorkedPositions}

by_tests : (g c : Form) (text : List ℕ) (o : Outcome) → T (is_canonical c) → T (ge g c) → T (ge c g) → bytes c ≡ text → outcome g ≡ o → Worked g text o
by_tests g c text o canonical above below its_text its_outcome = record {
  canonical_form = c;
  is_canonical = canonical_is c canonical;
  same_value = record { above = record { holds = above }; below = record { holds = below } };
  its_text = its_text;
  its_outcome = its_outcome;
}

pub worked_positions : WorkedPositions
unfolding ge game bit places digit joined painted fall legal
worked_positions = record {
  one_cell = by_tests _ 𝟎 _ _ tt tt tt refl refl;
  corner = by_tests _ ⋆ _ _ tt tt tt refl refl;
  square = by_tests _ (form (𝟏 & ∅) (_𝟏 & ∅)) _ _ tt tt tt refl refl;
  strip = by_tests _ 𝟎 _ _ tt tt tt refl refl;
  half = by_tests _ (form (𝟎 & ∅) (𝟏 & ∅)) _ _ tt tt tt refl refl;
  flower = by_tests _ (form (𝟏 & ∅) (𝟏 & ∅)) _ _ tt tt tt refl refl;
  two = by_tests _ (form (𝟏 & ∅) ∅) _ _ tt tt tt refl refl;
  minus_half = by_tests _ (form (_𝟏 & ∅) (𝟎 & ∅)) _ _ tt tt tt refl refl;
}
