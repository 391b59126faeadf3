-- A memory stays right: while it holds nothing, while rows are added, and while what is noted is what was told.
-- Assumes nothing.
use Rattle.std.proofs.Common.{ℕ, ◌<◌, sym, subst, inl, inr}
use Rattle.rulesets.specs.Rules.{Rules, game}
use Rattle.memory.specs.Holds.{More}
use Rattle.games.specs.Numbered.{Lists}
use Rattle.calls.specs.Answers.{Answer, told}
use Rattle.calls.specs.Memory.{Remembered}
use Rattle.calls.specs.Positions.{order}
use Rattle.calls.specs.Rows.{Rows}
use Rattle.calls.specs.Sealing.{SealsNumbers}
use Rattle.calls.proofs.Calls.{rows_stay_sound}
use Rattle.calls.proofs.Memory.{memory_holds}
use Rattle.valuing.specs.Sure.{Sure}
use Rattle.valuing.specs.Valued.{Entered}

pub sure_empty : (R : Rules) (rows : Rows) (holds : ℕ → ℕ → Type 0) → ((code n : ℕ) → holds code n → ⊥) → Sure R rows holds
sure_empty R rows holds none code n x = absurd (none code n x)

-- a seal adds rows behind
pub right_grows : (R : Rules) (c : ℕ) (rows after : Rows) (l : Lists) (a : Answer ℕ) (holds : ℕ → ℕ → Type 0) → SealsNumbers c rows l a after → Sure R rows holds → Sure R after holds
right_grows R c rows after l a holds s f code n x =
    let k = rows_stay_sound.1 c rows after l a s in
    let (is, small) = f code n x in
    (subst (λ z. Remembered z (game R code) n) (sym k.behind) (memory_holds.1 rows k.more (game R code) n is), small)

-- what was told is noted
pub right_noted : (R : Rules) (c : ℕ) (rows after : Rows) (holds holds' : ℕ → ℕ → Type 0) (code n : ℕ) → Entered R c rows code (told n) after → n < 384 → Sure R after holds → More holds code n holds'
    → Sure R after holds'
right_noted R c rows after holds holds' code n x small f more k i y = elim (more k i y) [
  | inl z ↦ f k i z
  | inr e ↦ (
    subst (λ j. Remembered after (game R k) j) (sym e.1)
        (subst (λ j. Remembered after (game R j) n) (sym e.0) (memory_holds.0 c rows after (game R code) n (order R code) x.entries x.holds)),
    subst (λ j. j < 384) (sym e.1) small,
  )
]

-- what is remembered is told, and no row is added
pub told_again : (R : Rules) (c : ℕ) (rows : Rows) (holds : ℕ → ℕ → Type 0) (code n : ℕ) → Sure R rows holds → holds code n → Entered R c rows code (told n) rows
told_again R c rows holds code n r x = let (es, e) = memory_holds.2 c rows (game R code) n (order R code) (r code n x).0 in record { entries = es; holds = e }
