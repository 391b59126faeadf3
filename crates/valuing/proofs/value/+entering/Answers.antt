-- Each turn values one more successor; the numbers told are sealed, and what is told is noted.
use Rattle.std.proofs.Common.{◌≡◌, ℕ, ◌+◌, ◌<◌, false, Ok, Err, IfOk, sym, subst, refl, ap, ◌∙◌, rules}
use Rattle.games.specs.declared.side.Side.TheVariants.{Left, Right}
use Rattle.nodesets.specs.Pairs.{by}
use Rattle.rulesets.specs.Remaining.{moves_left}
use Rattle.rulesets.proofs.Positions.{left_none, left_some, successor_falls}
use Rattle.games.specs.Numbered.{Lists}
use Rattle.calls.specs.Sealing.{SealsNumbers}
use Rattle.dictionary.specs.Faults.{answer_of}
use Rattle.dictionary.specs.Kept.{ListsOf}
use Rattle.dictionary.specs.declared.fault.DictionaryFault.{DictionaryFault}
use Rattle.valuing.specs.declared.fault.ValueFault.TheVariants.{Position}
use Rattle.valuing.specs.Answers.{answer_at}
use Rattle.valuing.specs.Sides.{SoFar, Turned}
use Rattle.valuing.specs.Sure.{Sure}
use Rattle.valuing.specs.Valued.{Entered}
use Rattle.valuing.proofs.Noted.{told_again}
use Rattle.valuing.proofs.Steps.{again, begins, broke, ends_noted, ends_sure, ends_refused, ends_told, left_all, left_stops, right_all, right_stops, whole}
use Rattle.valuing.proofs.value.+entering.Goals as goal

pub enter-returns-in-Some-clause-entered : goal.enter-returns-in-Some-clause-entered
enter-returns-in-Some-clause-entered g t c h =
    let R = g.R.Ruleset.rules c.args.board.now in
    told_again R c.args.dictionary.now.room c.args.dictionary.now.rows (g.M.Notes.holds c.args.memory.now) c.args.code c.in-Some.known h c.in-Some.ensures

pub enter_anew-returns-in_err-enter_side-clause-entered : goal.enter_anew-returns-in_err-enter_side-clause-entered
enter_anew-returns-in_err-enter_side-clause-entered g t c h =
    let R = g.R.Ruleset.rules c.args.board.now in
    let l = g.met.R.Ruleset.lawful c.args.board.now in
    let d₀ = c.args.dictionary.now in
    let e : c.from_residual.result ≡ Err c.in_err-enter_side.field-0.0 = search rules in
    subst (λ y. Entered R d₀.room d₀.rows c.args.code (answer_at y) c.enter_side.new.dictionary.rows) (sym e) (left_stops R l d₀.room c.args.code (c.in_err-enter_side.ensures.turned h (c.default-moves.ensures Left)))

pub enter_anew-returns-in_err-enter_side-2-clause-entered : goal.enter_anew-returns-in_err-enter_side-2-clause-entered
enter_anew-returns-in_err-enter_side-2-clause-entered g t c h =
    let R = g.R.Ruleset.rules c.args.board.now in
    let l = g.met.R.Ruleset.lawful c.args.board.now in
    let d₀ = c.args.dictionary.now in
    let d₁ = c.enter_side.new.dictionary in
    let d₂ = c.enter_side-2.new.dictionary in
    let o = by c.enter_side-2.new.moves in
    let room₁ : d₁.room ≡ d₀.room = c.enter_side.ensures.room in
    let room₂ : d₂.room ≡ d₀.room = c.enter_side-2.ensures.room ∙ room₁ in
    let sure = c.enter_side.ensures.sure h in
    let none : (k : ℕ) → by c.enter_side.new.moves Right k ≡ false = λ k. c.enter_side.ensures.theirs k ∙ c.default-moves.ensures Right k in
    let lefts : SoFar R d₀.room d₀.rows (R.moves Left c.args.code) (by c.enter_side.new.moves Left) d₁.rows = left_all R l d₀.room c.args.code (c.in_ok-enter_side.ensures.turned h (c.default-moves.ensures Left)) in
    let e : c.from_residual-in_err-enter_side-2.result ≡ Err c.in_err-enter_side-2.field-0.0 = search rules in
    subst (λ y. Entered R d₀.room d₀.rows c.args.code (answer_at y) d₂.rows) (sym e)
    (right_stops R l d₀.room c.args.code lefts (subst (λ z. Turned R z d₁.rows Right c.args.code (o Right) d₂.rows (Err c.in_err-enter_side-2.field-0.0)) room₁ (c.in_err-enter_side-2.ensures.turned sure none)))

pub enter_anew-returns-in_err-enter_side-2-clause-sure : goal.enter_anew-returns-in_err-enter_side-2-clause-sure
enter_anew-returns-in_err-enter_side-2-clause-sure g t c h = c.enter_side-2.ensures.sure (c.enter_side.ensures.sure h)

pub enter_anew-returns-in_err-node-clause-entered : goal.enter_anew-returns-in_err-node-clause-entered
enter_anew-returns-in_err-node-clause-entered g t c h =
    let R = g.R.Ruleset.rules c.args.board.now in
    let l = g.met.R.Ruleset.lawful c.args.board.now in
    let d₀ = c.args.dictionary.now in
    let d₁ = c.enter_side.new.dictionary in
    let d₂ = c.enter_side-2.new.dictionary in
    let o = by c.enter_side-2.new.moves in
    let room₁ : d₁.room ≡ d₀.room = c.enter_side.ensures.room in
    let room₂ : d₂.room ≡ d₀.room = c.enter_side-2.ensures.room ∙ room₁ in
    let sure = c.enter_side.ensures.sure h in
    let none : (k : ℕ) → by c.enter_side.new.moves Right k ≡ false = λ k. c.enter_side.ensures.theirs k ∙ c.default-moves.ensures Right k in
    let lefts : SoFar R d₀.room d₀.rows (R.moves Left c.args.code) (by c.enter_side.new.moves Left) d₁.rows = left_all R l d₀.room c.args.code (c.in_ok-enter_side.ensures.turned h (c.default-moves.ensures Left)) in
    let rights : SoFar R d₀.room d₁.rows (R.moves Right c.args.code) (o Right) d₂.rows = right_all R l d₀.room c.args.code (subst (λ z. Turned R z d₁.rows Right c.args.code (o Right) d₂.rows (Ok tt)) room₁ (c.in_ok-enter_side-2.ensures.turned sure none)) in
    let after = c.seal.new.self in
    let seals : (n : Lists) → ListsOf o n → SealsNumbers d₀.room d₂.rows n (answer_of c.seal.result) after.rows = λ n lists. subst (λ z. SealsNumbers z d₂.rows n (answer_of c.seal.result) after.rows) room₂ (c.seal.ensures.seals n lists) in
    let (fault, was, is) : (f : DictionaryFault) × (c.seal.result ≡ Err f) × (c.in_err-node.field-0.0 ≡ Position c.args.code f) = search rules in
    let e : c.from_residual-in_err-node.result ≡ Err (Position c.args.code fault) = search rules in
    subst (λ y. Entered R d₀.room d₀.rows c.args.code (answer_at y) after.rows) (sym e)
    (ends_refused R l d₀.room c.args.code (by c.enter_side.new.moves Left) (o Right) d₀.rows d₁.rows d₂.rows after.rows lefts rights o (λ k. c.enter_side-2.ensures.theirs k) (λ k. refl) c.seal.result seals fault was)

pub enter_anew-returns-in_err-node-clause-sure : goal.enter_anew-returns-in_err-node-clause-sure
enter_anew-returns-in_err-node-clause-sure g t c h =
    let R = g.R.Ruleset.rules c.args.board.now in
    let l = g.met.R.Ruleset.lawful c.args.board.now in
    let d₀ = c.args.dictionary.now in
    let d₁ = c.enter_side.new.dictionary in
    let d₂ = c.enter_side-2.new.dictionary in
    let o = by c.enter_side-2.new.moves in
    let room₁ : d₁.room ≡ d₀.room = c.enter_side.ensures.room in
    let room₂ : d₂.room ≡ d₀.room = c.enter_side-2.ensures.room ∙ room₁ in
    let sure = c.enter_side.ensures.sure h in
    let none : (k : ℕ) → by c.enter_side.new.moves Right k ≡ false = λ k. c.enter_side.ensures.theirs k ∙ c.default-moves.ensures Right k in
    let lefts : SoFar R d₀.room d₀.rows (R.moves Left c.args.code) (by c.enter_side.new.moves Left) d₁.rows = left_all R l d₀.room c.args.code (c.in_ok-enter_side.ensures.turned h (c.default-moves.ensures Left)) in
    let rights : SoFar R d₀.room d₁.rows (R.moves Right c.args.code) (o Right) d₂.rows = right_all R l d₀.room c.args.code (subst (λ z. Turned R z d₁.rows Right c.args.code (o Right) d₂.rows (Ok tt)) room₁ (c.in_ok-enter_side-2.ensures.turned sure none)) in
    let after = c.seal.new.self in
    let seals : (n : Lists) → ListsOf o n → SealsNumbers d₀.room d₂.rows n (answer_of c.seal.result) after.rows = λ n lists. subst (λ z. SealsNumbers z d₂.rows n (answer_of c.seal.result) after.rows) room₂ (c.seal.ensures.seals n lists) in
    ends_sure R l d₀.room c.args.code (by c.enter_side.new.moves Left) (o Right) d₀.rows d₁.rows d₂.rows after.rows lefts rights o (λ k. c.enter_side-2.ensures.theirs k) (λ k. refl) c.seal.result seals
    (g.M.Notes.holds c.enter_side-2.new.memory) (c.enter_side-2.ensures.sure sure)

pub enter_anew-returns-clause-entered : goal.enter_anew-returns-clause-entered
enter_anew-returns-clause-entered g t c h =
    let R = g.R.Ruleset.rules c.args.board.now in
    let l = g.met.R.Ruleset.lawful c.args.board.now in
    let d₀ = c.args.dictionary.now in
    let d₁ = c.enter_side.new.dictionary in
    let d₂ = c.enter_side-2.new.dictionary in
    let o = by c.enter_side-2.new.moves in
    let room₁ : d₁.room ≡ d₀.room = c.enter_side.ensures.room in
    let room₂ : d₂.room ≡ d₀.room = c.enter_side-2.ensures.room ∙ room₁ in
    let sure = c.enter_side.ensures.sure h in
    let none : (k : ℕ) → by c.enter_side.new.moves Right k ≡ false = λ k. c.enter_side.ensures.theirs k ∙ c.default-moves.ensures Right k in
    let lefts : SoFar R d₀.room d₀.rows (R.moves Left c.args.code) (by c.enter_side.new.moves Left) d₁.rows = left_all R l d₀.room c.args.code (c.in_ok-enter_side.ensures.turned h (c.default-moves.ensures Left)) in
    let rights : SoFar R d₀.room d₁.rows (R.moves Right c.args.code) (o Right) d₂.rows = right_all R l d₀.room c.args.code (subst (λ z. Turned R z d₁.rows Right c.args.code (o Right) d₂.rows (Ok tt)) room₁ (c.in_ok-enter_side-2.ensures.turned sure none)) in
    let after = c.seal.new.self in
    let seals : (n : Lists) → ListsOf o n → SealsNumbers d₀.room d₂.rows n (answer_of c.seal.result) after.rows = λ n lists. subst (λ z. SealsNumbers z d₂.rows n (answer_of c.seal.result) after.rows) room₂ (c.seal.ensures.seals n lists) in
    let e : c.seal.result ≡ Ok c.in_ok-node.node = search rules in
    ends_told R l d₀.room c.args.code (by c.enter_side.new.moves Left) (o Right) d₀.rows d₁.rows d₂.rows after.rows lefts rights o (λ k. c.enter_side-2.ensures.theirs k) (λ k. refl) c.seal.result seals c.in_ok-node.node e

pub enter_anew-returns-clause-sure : goal.enter_anew-returns-clause-sure
enter_anew-returns-clause-sure g t c h =
    let R = g.R.Ruleset.rules c.args.board.now in
    let l = g.met.R.Ruleset.lawful c.args.board.now in
    let d₀ = c.args.dictionary.now in
    let d₁ = c.enter_side.new.dictionary in
    let d₂ = c.enter_side-2.new.dictionary in
    let o = by c.enter_side-2.new.moves in
    let room₁ : d₁.room ≡ d₀.room = c.enter_side.ensures.room in
    let room₂ : d₂.room ≡ d₀.room = c.enter_side-2.ensures.room ∙ room₁ in
    let sure = c.enter_side.ensures.sure h in
    let none : (k : ℕ) → by c.enter_side.new.moves Right k ≡ false = λ k. c.enter_side.ensures.theirs k ∙ c.default-moves.ensures Right k in
    let lefts : SoFar R d₀.room d₀.rows (R.moves Left c.args.code) (by c.enter_side.new.moves Left) d₁.rows = left_all R l d₀.room c.args.code (c.in_ok-enter_side.ensures.turned h (c.default-moves.ensures Left)) in
    let rights : SoFar R d₀.room d₁.rows (R.moves Right c.args.code) (o Right) d₂.rows = right_all R l d₀.room c.args.code (subst (λ z. Turned R z d₁.rows Right c.args.code (o Right) d₂.rows (Ok tt)) room₁ (c.in_ok-enter_side-2.ensures.turned sure none)) in
    let after = c.seal.new.self in
    let seals : (n : Lists) → ListsOf o n → SealsNumbers d₀.room d₂.rows n (answer_of c.seal.result) after.rows = λ n lists. subst (λ z. SealsNumbers z d₂.rows n (answer_of c.seal.result) after.rows) room₂ (c.seal.ensures.seals n lists) in
    let e : c.seal.result ≡ Ok c.in_ok-node.node = search rules in
    let small : c.in_ok-node.node < 384 = subst (λ a. IfOk a (λ node. node < 384)) e c.seal.ensures.small in
    ends_noted R l d₀.room c.args.code (by c.enter_side.new.moves Left) (o Right) d₀.rows d₁.rows d₂.rows after.rows lefts rights o (λ k. c.enter_side-2.ensures.theirs k) (λ k. refl) c.seal.result seals
    (g.M.Notes.holds c.enter_side-2.new.memory) (g.M.Notes.holds c.note.new.self) (c.enter_side-2.ensures.sure sure) c.in_ok-node.node e small c.note.ensures

pub enter_side-loop-next-init : goal.enter_side-loop-next-init
enter_side-loop-next-init g t c =
    let R = g.R.Ruleset.rules c.args.board.now in
    let l = g.met.R.Ruleset.lawful c.args.board.now in
    let d₀ = c.args.dictionary.now in
    record {
      valued = 0;
      left = ap (moves_left g.R.Ruleset.rules) c.into_iter-next-iterator.ensures.into_iter_gives ∙ c.successors_of-next-items.ensures;
      turn = begins R l (R.moves c.args.side c.args.code) (by c.args.moves.now c.args.side) d₀.room d₀.rows (Sure R d₀.rows (g.M.Notes.holds c.args.memory.now));
      theirs = λ k. refl;
    }

pub enter_side-enter-requires : goal.enter_side-enter-requires
enter_side-enter-requires g t c κs within =
    let R = g.R.Ruleset.rules c.args.board.now in
    let l = g.met.R.Ruleset.lawful c.args.board.now in
    let i = c.loop-next.invariant.valued in
    let at = (left_some (R.moves c.args.side c.args.code) i c.in-Some.next _ (sym c.loop-next.invariant.left ∙ c.in-Some.ensures.steps)).0 in
    let falls : R.rank c.in-Some.next < R.rank c.args.code = (successor_falls R l c.args.side c.args.code i c.in-Some.next at).1 in
    search rules

pub enter_side-returns-in_err-node-clause-turned : goal.enter_side-returns-in_err-node-clause-turned
enter_side-returns-in_err-node-clause-turned g t c h none =
    let R = g.R.Ruleset.rules c.args.board.now in
    let l = g.met.R.Ruleset.lawful c.args.board.now in
    let d₀ = c.args.dictionary.now in
    let d = c.loop-next.dictionary in
    let i = c.loop-next.invariant.valued in
    let at = (left_some (R.moves c.args.side c.args.code) i c.in-Some.next _ (sym c.loop-next.invariant.left ∙ c.in-Some.ensures.steps)).0 in
    let e : c.from_residual.result ≡ Err c.in_err-node.field-0.0 = search rules in
    broke R l c.args.side c.args.code i c.in-Some.next (by c.args.moves.now c.args.side) (by c.loop-next.moves c.args.side) (by c.loop-next.moves c.args.side) d₀.room d.room d₀.rows d.rows c.enter.new.dictionary.rows
    (Sure R d₀.rows (g.M.Notes.holds c.args.memory.now)) (Sure R d.rows (g.M.Notes.holds c.loop-next.memory)) c.from_residual.result c.in_err-node.field-0.0 e c.loop-next.invariant.turn at c.in_err-node.ensures.entered h none

pub enter_side-returns-in_err-node-clause-sure : goal.enter_side-returns-in_err-node-clause-sure
enter_side-returns-in_err-node-clause-sure g t c h = c.in_err-node.ensures.sure (c.loop-next.invariant.turn.kept h)

pub enter_side-loop-next-preserved : goal.enter_side-loop-next-preserved
enter_side-loop-next-preserved g t c =
    let R = g.R.Ruleset.rules c.args.board.now in
    let l = g.met.R.Ruleset.lawful c.args.board.now in
    let ms = R.moves c.args.side c.args.code in
    let s = c.args.side in
    let d₀ = c.args.dictionary.now in
    let d = c.loop-next.dictionary in
    let after = c.enter.new.dictionary in
    let i = c.loop-next.invariant.valued in
    let (at, others) = left_some ms i c.in-Some.next _ (sym c.loop-next.invariant.left ∙ c.in-Some.ensures.steps) in
    record {
      valued = i + 1;
      left = others;
      turn =
          again R l ms i c.in-Some.next c.in_ok-node.node (by c.args.moves.now s) (by c.loop-next.moves s) (by c.insert.new.self s) d₀.room d.room after.room d₀.rows d.rows after.rows
          (Sure R d₀.rows (g.M.Notes.holds c.args.memory.now)) (Sure R d.rows (g.M.Notes.holds c.loop-next.memory)) (Sure R after.rows (g.M.Notes.holds c.enter.new.memory))
          c.loop-next.invariant.turn at c.in_ok-node.ensures.room c.in_ok-node.ensures.sure c.in_ok-node.ensures.entered c.in_ok-node.ensures.small (simp c.from.ensures at c.insert.ensures.own);
      theirs = λ k. c.insert.ensures.theirs k ∙ c.loop-next.invariant.theirs k;
    }

pub enter_side-returns-clause-turned : goal.enter_side-returns-clause-turned
enter_side-returns-clause-turned g t c h none =
    let R = g.R.Ruleset.rules c.args.board.now in
    let l = g.met.R.Ruleset.lawful c.args.board.now in
    let d₀ = c.args.dictionary.now in
    let d = c.loop-next.dictionary in
    let i = c.loop-next.invariant.valued in
    let all = left_none (R.moves c.args.side c.args.code) i (sym c.loop-next.invariant.left ∙ c.in-None.ensures.steps.0) in
    whole R l c.args.side c.args.code i (by c.args.moves.now c.args.side) (by c.loop-next.moves c.args.side) d₀.room d.room d₀.rows d.rows
    (Sure R d₀.rows (g.M.Notes.holds c.args.memory.now)) (Sure R d.rows (g.M.Notes.holds c.loop-next.memory)) all c.loop-next.invariant.turn h none
