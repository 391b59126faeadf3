-- Each call has exactly one outcome, as statements: so no definition of a call is empty, and none leaves a choice but the index of a first move.
-- Assumes nothing.
use Rattle.std.specs.Prelude.{◌≡◌, ℕ, ◌⊎◌, List, Option}
use Rattle.games.specs.declared.outcome.Comparison.{Comparison}
use Rattle.games.specs.declared.outcome.Outcome.{Outcome}
use Rattle.games.specs.declared.side.Side.{Side}
use Rattle.games.specs.Form.{Form}
use Rattle.games.specs.Numbered.{Lists}
use Rattle.rulesets.specs.Rules.{Rules}
use Rattle.calls.specs.Rows.{Rows}
use Rattle.calls.specs.Answers.{Answer}
use Rattle.calls.specs.Sealing.{SealsNumbers}
use Rattle.calls.specs.Entering.{Entry}
use Rattle.calls.specs.Positions.{Values, FirstMoves}
use Rattle.calls.specs.Texts.{Written, Fault}
use Rattle.calls.specs.Reading.{Reads, LooksUp}
use Rattle.calls.specs.Asking.{Prints, Compares, TellsOutcome}
use Rattle.calls.specs.Drafts.{Puts}
use Rattle.calls.specs.Sound.{Sound}

-- exactly one thing has the property
pub record ExactlyOne {A : Type 0} (P : A → Type 0) : Type 0 where
  pub it : A
  pub has : P it
  pub only : (x : A) → P x → x ≡ it

-- what a call that seals comes to: the answer, the rows after, and the entries made
pub record Effect : Type 0 where
  pub answer : Answer ℕ
  pub after : Rows
  pub entries : List Entry

abbrev pub SealingHasOneOutcome : Type 0
SealingHasOneOutcome = (c : ℕ) (rows : Rows) (l : Lists) → Sound rows
    → ExactlyOne (λ (o : Answer ℕ × Rows). SealsNumbers c rows l o.0 o.1)

abbrev pub ValuingHasOneOutcome : Type 0
ValuingHasOneOutcome = (R : Rules) (c : ℕ) (rows : Rows) (code : ℕ) → Sound rows
    → ExactlyOne (λ (o : Effect). Values R c rows code o.answer o.after o.entries)

abbrev pub ReadingHasOneOutcome : Type 0
ReadingHasOneOutcome = (c : ℕ) (rows : Rows) (t : List ℕ) → Sound rows
    → ExactlyOne (λ (o : Effect). Reads c rows t o.answer o.after o.entries)

-- a text is a form's, nested at most 96 deep, or it has exactly one fault; and not both
abbrev pub TextsHaveOneVerdict : Type 0
TextsHaveOneVerdict = (t : List ℕ)
    → (((g : Form) × Written t g) ⊎ ExactlyOne (λ (f : ℕ × ℕ). Fault t f.0 f.1))
    × ((g : Form) (f place : ℕ) → Written t g → ¬ Fault t f place)

abbrev pub LookingUpHasOneOutcome : Type 0
LookingUpHasOneOutcome = (rows : Rows) (t : List ℕ) → Sound rows
    → ExactlyOne (λ (a : Answer ℕ). LooksUp rows t a)

abbrev pub PrintingHasOneOutcome : Type 0
PrintingHasOneOutcome = (rows : Rows) (n room : ℕ)
    → ExactlyOne (λ (o : Answer ℕ × List ℕ). Prints rows n room o.0 o.1)

abbrev pub PuttingHasOneOutcome : Type 0
PuttingHasOneOutcome = (s : Side) (n : ℕ) (d : Lists)
    → ExactlyOne (λ (o : Answer (Unit {0}) × Lists). Puts s n d o.0 o.1)

abbrev pub ComparingHasOneOutcome : Type 0
ComparingHasOneOutcome = (rows : Rows) (m n : ℕ) → ExactlyOne (λ (a : Answer Comparison). Compares rows m n a)

abbrev pub TellingHasOneOutcome : Type 0
TellingHasOneOutcome = (rows : Rows) (n : ℕ) → ExactlyOne (λ (a : Answer Outcome). TellsOutcome rows n a)

-- a first move has an outcome, and all of it but the index is settled
abbrev pub FirstMoveHasAnOutcome : Type 0
FirstMoveHasAnOutcome = (R : Rules) (c : ℕ) (rows : Rows) (s : Side) (code : ℕ) → Sound rows
    → ExactlyOne (λ (o : Rows × List Entry). (a : Answer (Option ℕ)) × FirstMoves R c rows s code a o.0 o.1)
