-- The reader on a walk, between its start and the cursor.
-- Assumes nothing.
use Rattle.std.proofs.Common.{◌≡◌, ℕ, ◌+◌, ◌<◌, ◌≤◌, true, false, List, [], ◌∷◌, ◌++◌, length, get_or, take, drop, is_some, Ok, ControlFlow, Continue, Break, sym, refl, ap, ◌∙◌, subst, append_assoc, arith}
use mathlib.Core.Option.{none, some}
use Rattle.std.specs.ControlFlow.{continue_value}
use Rattle.std.proofs.lemmas.List.{take_at, length-append, length-drop}
use Rattle.calls.specs.declared.fault.TextFault.{TextFault}
use Rattle.calls.specs.declared.fault.TextFault.TheVariants.{WrongByte, EarlyEnd, TooDeep}
use Rattle.lines.specs.Machine.{Symbol, next, run, step, depth}
use Rattle.lines.specs.Reading.{Passed, Failed, Walked}
use Rattle.lines.specs.Walks.{Refused, Stepped, Ongoing}
use Rattle.lines.specs.Questions.{DescribesPart}
use Rattle.lines.specs.declared.question.Part.{Part}
use Rattle.lines.specs.declared.reader.Reader.{Reader}
use Rattle.lines.proofs.Machine.{run_++}
use Rattle.lines.proofs.Passing.{passed_nil, passed_++, passed_one, failed_after, failed_wrong, failed_deep, failed_early}

pub record Underway (b m : Reader) (s s' : List Symbol) : Type 0 where
  pub passed : List ℕ
  pub went : Passed b m s s' passed
  pub ran : run (some s) passed ≡ some s'

pub underway_start : (r : Reader) (s : List Symbol) → Underway r r s s
underway_start r s = record { passed = []; went = passed_nil r s; ran = refl }

-- the next byte, from the state m to the state a
module _ {b m : Reader} {s s' : List Symbol} (u : Underway b m s s') (a : Reader) (same : a.line.now ≡ m.line.now) where
  pub underway_early : (f : TextFault) → Ongoing s' → length m.line.now ≤ m.at → f ≡ EarlyEnd m.at → Failed b a s f
  underway_early f o l e = failed_after u.went (subst (λ z. Failed m a z f) (sym o.is) (failed_early m a o.first o.under f same l e))

  module _ (byte : ℕ) (within : m.at < length m.line.now) (here : byte ≡ get_or m.line.now m.at 0) where
    pub underway_refused : (f : TextFault) → Ongoing s' → Refused s' byte m.at f → Failed b a s f
    underway_refused (WrongByte i) o (e, n) =
        let k : next (o.first ∷ o.under) byte ≡ none = ap (λ z. next z byte) (sym o.is) ∙ n in
        subst (λ z. Failed b a s (WrongByte z)) (sym e) (failed_after u.went (subst (λ z. Failed m a z (WrongByte m.at)) (sym o.is) (failed_wrong m a byte within here o.first o.under same k)))
    underway_refused (EarlyEnd i) o e = absurd e
    underway_refused (TooDeep i) o (e, (s'', n, d)) =
        subst (λ z. Failed b a s (TooDeep z)) (sym e) (failed_after u.went (failed_deep m a byte within here s' s'' same n d))

    abbrev on_to : (s'' : List Symbol) → a.at ≡ m.at + 1 → next s' byte ≡ some s'' → depth s'' ≤ 96 → Underway b a s s''
    on_to s'' on e d = record {
      passed = u.passed ++ (byte ∷ []);
      went = passed_++ u.went (passed_one m a byte within here s' s'' same on e d);
      ran = run_++ (some s) u.passed (byte ∷ []) ∙ (ap (λ q. step q byte) u.ran ∙ e);
    }

    module _ (last : ℕ) (s'' : List Symbol) (on : a.at ≡ m.at + 1) where
      pub underway_more : (f : ControlFlow (Unit {0}) (Unit {0})) → Stepped last s' s'' byte m.at (Ok f) → true ≡ is_some (continue_value f) → depth s'' ≤ 96 → Underway b a s s''
      underway_more (Continue v) e w d = on_to s'' on e d
      underway_more (Break v) e w d = let z : ◌≡◌ {A = ℕ} 0 1 = cc in absurd (omega arith)

      pub underway_end : (f : ControlFlow (Unit {0}) (Unit {0})) → Stepped last s' s'' byte m.at (Ok f) → false ≡ is_some (continue_value f) → (w : List ℕ) × Passed b a s [] w × Walked s last w
      underway_end (Continue v) e w = let z : ◌≡◌ {A = ℕ} 0 1 = cc in absurd (omega arith)
      underway_end (Break v) (e, closes) w =
          let r = on_to [] on e (omega arith) in
          (r.passed, r.went, (u.passed, ap (λ z. u.passed ++ (z ∷ [])) closes, r.ran))

-- what has been passed, as a part of the line
module _ {b a : Reader} {s s' : List Symbol} (w : List ℕ) (p : Passed b a s s' w) where
  pub passed_order : a.at ≡ b.at + length w
  passed_order = p.goes.spans.ends

  pub passed_within : 1 ≤ length w → a.at ≤ length b.line.now
  passed_within l =
      let e = ap length p.goes.spans.bytes in
      let f = length-append w (drop a.at b.line.now) in
      let g = length-drop b.at b.line.now in
      let h = p.goes.spans.ends in
      omega arith

  -- all of it, or its front u
  pub passed_front : (u v : List ℕ) → w ≡ u ++ v → (n : ℕ) → length u ≡ n → take n (drop b.at b.line.now) ≡ u
  passed_front u v e n l = ap (take n) (p.goes.spans.bytes ∙ (ap (λ z. z ++ drop a.at b.line.now) e ∙ append_assoc u v (drop a.at b.line.now))) ∙ take_at u (v ++ drop a.at b.line.now) n l

pub part_described : {b a : Reader} {s s' : List Symbol} {w : List ℕ} (p : Passed b a s s' w) (u v : List ℕ) → w ≡ u ++ v
    → (part : Part) (n : ℕ) → part.place ≡ b.at → part.bytes.now ≡ take n (drop b.at a.line.now) → length u ≡ n → DescribesPart b.at part u
part_described {b} {a} {s} {s'} {w} p u v e part n q r l =
    record { begins = q; holds = r ∙ (ap (λ t. take n (drop b.at t)) p.same ∙ passed_front w p u v e n l) }
