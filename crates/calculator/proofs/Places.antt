-- The places of refusals in a text, and the code of a sum, are small.
-- Assumes nothing.
use Rattle.std.proofs.Common.{◌≡◌, ℕ, zero, suc, ◌+◌, ◌*◌, ◌^◌, ◌<◌, ◌≤◌, Bool, true, false, cond, eqb, leb, List, [], ◌∷◌, length, get_or, suc-mul, arith}
use Rattle.std.proofs.lemmas.Nat.{mul-le}
use Rattle.std.proofs.lemmas.Bool.{and_parts, leb-true}
use Rattle.calls.specs.Rows.{Rows}
use Rattle.calls.specs.Answers.{refused_at}
use Rattle.calls.specs.Entering.{Entry, Enters, ended}
use Rattle.calls.specs.Reading.{Reads}
use Rattle.calls.specs.Texts.{Fault, wrong_byte, early_end, too_deep, closings}
use Rattle.games.specs.Form.{Form}
use Rattle.boards.specs.AnyBoards.{any_rules}
use Rattle.boards.specs.declared.board.AnyBoard.{AnyBoard}
use Rattle.boards.specs.Fitting.{any_lawful, boards_fit}

closings_bound : (i : ℕ) (t : List ℕ) (n : ℕ) → get_or (closings i t) n 0 ≤ i + length t
closings_bound i [] n = omega arith
closings_bound i (b ∷ t) n = go (eqb 125 b) n (λ m. closings_bound (suc i) t m)
  where
    go : (y : Bool) (n : ℕ) → ((m : ℕ) → get_or (closings (suc i) t) m 0 ≤ suc i + length t) → get_or (cond y (i ∷ closings (suc i) t) (closings (suc i) t)) n 0 ≤ i + suc (length t)
    go true zero h = omega arith
    go true (suc n) h = omega (arith, h n)
    go false n h = omega (arith, h n)

fault_bound : {t : List ℕ} {k p : ℕ} → Fault t k p → p ≤ length t
fault_bound (wrong_byte i l a b d) = omega arith
fault_bound (early_end a b d) = omega arith
fault_bound (too_deep i l a b d) = omega arith

enters_bound : (t : List ℕ) {c k p : ℕ} {rows after : Rows} {g : Form} {es : List Entry} → Enters c rows g (closings 0 t) (refused_at k p) after es → p ≤ length t
enters_bound t (ended {es = es} x) = omega (arith, closings_bound 0 t (length es))

-- a refusal in a text is not past its end
pub reads_bound : (t : List ℕ) {c k p : ℕ} {rows after : Rows} {es : List Entry} → Reads c rows t (refused_at k p) after es → p ≤ length t
reads_bound t (Reads.faulty f) = fault_bound f
reads_bound t (Reads.well g w x) = enters_bound t x

-- the code of a sum of two boards
pub sum_code : (a b : AnyBoard) (m n : ℕ) → (any_rules a).legal m ≡ true → (any_rules b).legal n ≡ true → m * (any_rules b).limit + n < 2 ^ 60
sum_code a b m n l k =
    let A = any_rules a in
    let B = any_rules b in
    let p = (any_lawful a).below m l in
    let q = (any_lawful b).below n k in
    let most : A.limit * B.limit ≤ 2 ^ 60 = leb-true _ _ (and_parts (leb (A.limit * B.limit) (2 ^ 60)) _ (boards_fit a b)).0 in
    let more : suc m * B.limit ≤ A.limit * B.limit = mul-le (suc m) B.limit A.limit B.limit (omega arith) (omega arith) in
    let e = suc-mul m B.limit in
    omega arith
