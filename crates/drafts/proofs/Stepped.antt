-- What the calls on a draft do makes them calls of a run.
-- Assumes nothing.
use Rattle.std.proofs.Common.{◌≡◌, ℕ, suc, ◌<◌, Bool, true, false, cond, eqb, sym, refl, ap, subst, eq-eqb}
use Rattle.std.proofs.lemmas.Bool.{eqb-true}
use Rattle.games.specs.declared.side.Side.{Side}
use Rattle.games.specs.Numbered.{Lists}
use Rattle.calls.specs.Rows.{Rows, no_numbers}
use Rattle.calls.specs.Answers.{Answer}
use Rattle.calls.specs.Sealing.{SealsNumbers}
use Rattle.calls.specs.Positions.{FirstMoves, Values}
use Rattle.calls.specs.Reading.{Reads}
use Rattle.calls.specs.Drafts.{Puts}
use Rattle.calls.specs.Runs.{Past, Call, holding}
use Rattle.drafts.specs.declared.draft.Draft.{Draft}
use Rattle.drafts.specs.Holding.{Holds, PutsInto}
use Rattle.drafts.specs.Steps.{OpenSteps, PutSteps, AbandonSteps, SealSteps, SealingCallsStep}

-- draft i has what was given to it
given : (d : Draft) (p : Past) (i : ℕ) (l : Lists) (slips : ℕ) → Holds d l → Holds d ((holding p i l slips).drafts i)
given d p i l slips h = subst (λ b. Holds d (cond b l (p.drafts i))) (sym (eq-eqb i i refl)) h

pub open_steps : (after : Draft) → Holds after no_numbers → OpenSteps after
open_steps after h c p i = record { call = Call.open_draft i; rows = refl; draft = given after p i no_numbers (suc p.slips) h }

-- a draft that has what it had is as it was
same_draft : (p : Past) (i : ℕ) → holding p i (p.drafts i) p.slips ≡ p
same_draft p i = λ k. record { rows = p.rows; entries = p.entries; drafts = λ j. by (eqb j i) j (λ t. ap p.drafts (sym (eqb-true j i t))) k; slips = p.slips; printed = p.printed }
  where
    by : (b : Bool) (j : ℕ) → (b ≡ true → p.drafts i ≡ p.drafts j) → cond b (p.drafts i) (p.drafts j) ≡ p.drafts j
    by true j e = e refl
    by false j e = refl

put_call : {s : Side} {n : ℕ} {a : Answer (Unit {0})} {d : Lists} (c : ℕ) (p : Past) (i : ℕ) → 0 < p.slips → Puts s n (p.drafts i) a d → Call c p (holding p i d p.slips)
put_call {s} {n} c p i slip (Puts.taken h) = Call.put_number i s n slip h
put_call {s} {n} c p i slip (Puts.too_large h) = subst (λ q. Call c p q) (sym (same_draft p i)) (Call.put_refused i s n slip h)

pub put_steps : (before after : Draft) (s : Side) (n : ℕ) (a : Answer (Unit {0})) → PutsInto before s n a after → PutSteps before s n a after
put_steps before after s n a puts c p i slip held = let (d, x, h) = puts (p.drafts i) held in (d, x, record { call = put_call c p i slip x; rows = refl; draft = given after p i d p.slips h })

pub abandon_steps : (after : Draft) → Holds after no_numbers → AbandonSteps after
abandon_steps after h c p i slips e = record { call = Call.abandon i slips e; rows = refl; draft = given after p i no_numbers slips h }

pub seal_steps : (capacity : ℕ) (rows later : Rows) (before after : Draft) (a : Answer ℕ) → ((l : Lists) → Holds before l → SealsNumbers capacity rows l a later) → Holds after no_numbers
    → SealSteps capacity rows before a later after
seal_steps capacity rows later before after a seals h p i slips e slip held = record {
  call = Call.seal i slips slip (subst (λ r. SealsNumbers capacity r (p.drafts i) a later) (sym e) (seals (p.drafts i) held));
  rows = refl;
  draft = given after p i no_numbers slips h;
}

pub sealing_calls_step : SealingCallsStep
sealing_calls_step = record {
  value = λ R lawful c rows after code a v p e. Call.value R lawful code (subst (λ r. Values R c r code a after v.entries) (sym e) v.holds);
  first_move = λ R lawful c rows after s code a m p e. Call.first_move R lawful s code (subst (λ r. FirstMoves R c r s code a after m.entries) (sym e) m.holds);
  read = λ c rows after t a r p e. Call.read t (subst (λ z. Reads c z t a after r.entries) (sym e) r.holds);
}
