-- A node's text goes into what remains of the answer behind the head, or does not fit.
-- Assumes nothing.
use Rattle.std.proofs.Common.{◌≡◌, ℕ, ◌+◌, ◌-◌, ◌<◌, ◌≤◌, List, [], ◌++◌, length, take, drop, Ok, Err, Result, sym, refl, ap, ◌∙◌, subst, ap₂, inl, inr, arith}
use borrow.Rule.Slice.PartMut.{mid_of, post_of, put_mid, mid_len, put_same}
use Rattle.std.proofs.lemmas.List.{append_assoc, drop-append-le, drop_at, drop-drop, length-append, length-take-le, take-append-drop}
use Rattle.games.specs.declared.outcome.Outcome.{Outcome}
use Rattle.games.specs.Outcomes.{outcome}
use Rattle.games.specs.Text.{bytes}
use Rattle.lines.specs.Syntax.{numeral}
use Rattle.calls.specs.Rows.{Rows, node}
use Rattle.calls.specs.Answers.{told, refused}
use Rattle.calls.specs.Asking.{Prints, TellsOutcome, text_length}
use Rattle.dictionary.specs.Printing.{Printed, over}
use Rattle.calculator.specs.declared.fault.CalculatorFault.{CalculatorFault}
use Rattle.calculator.specs.Faults.{number_of, place_of}
use Rattle.calculator.specs.Replies.{head_text, value_text}
use Rattle.calculator.specs.Written.{WroteValue}

pub outcome_told : {rows : Rows} {n : ℕ} {o : Outcome} → TellsOutcome rows n (told o) → o ≡ outcome (node rows n)
outcome_told (TellsOutcome.known h) = refl

pub outcome_known : {rows : Rows} {n k : ℕ} → TellsOutcome rows n (refused k) → n < length rows → ⊥
outcome_known (TellsOutcome.unknown l) h = omega arith

pub head_length : (n : ℕ) (o : Outcome) → length (head_text n o) ≡ length (numeral n) + 3
head_length n o = length-append (numeral n) _

pub printed_bound : {rows : Rows} {n room l : ℕ} {text : List ℕ} → Prints rows n room (told l) text → l ≤ 65535
printed_bound (Prints.written k a b) = b

-- what was printed into the middle is written there, and the head before it
over_front : (xs head text : List ℕ) → length head + length text ≤ length xs → over (over xs (length head) text) 0 head ≡ (head ++ text) ++ drop (length (head ++ text)) xs
over_front xs head text h =
    let ys = text ++ drop (length head + length text) xs in
    let t : length (take (length head) xs) ≡ length head = length-take-le (length head) xs (omega arith) in
    let z : 0 + length head ≡ length head = omega arith in
    let d : drop (0 + length head) (take (length head) xs ++ ys) ≡ ys = ap (λ k. drop k (take (length head) xs ++ ys)) z ∙ drop_at (take (length head) xs) ys (length head) t in
    ap (λ w. head ++ w) d ∙ sym (append_assoc head text (drop (length head + length text) xs)) ∙ ap (λ k. (head ++ text) ++ drop k xs) (sym (length-append head text))

module _ (rows : Rows) (n : ℕ) (known : n < length rows) (xs : List ℕ) (big : 4096 ≤ length xs) (start : ℕ) (small : start ≤ 4096) where
  room : length (mid_of start (4096 - start) xs) ≡ 4096 - start
  room = mid_len start 4096 xs big

  not_printed : {k : ℕ} {text : List ℕ} → Prints rows n (length (mid_of start (4096 - start) xs)) (refused k) text → (k ≡ 5) × (4096 < start + text_length rows n) × (text ≡ [])
  not_printed (Prints.unknown l) = absurd (omega arith)
  not_printed (Prints.too_long l (inl h)) = let e = room in (refl, omega arith, refl)
  not_printed (Prints.too_long l (inr h)) = (refl, omega arith, refl)

  printed : {l : ℕ} {text : List ℕ} → Prints rows n (length (mid_of start (4096 - start) xs)) (told l) text → (l ≡ text_length rows n) × (start + l ≤ 4096) × (text ≡ bytes (node rows n))
  printed (Prints.written k a b) = let e = room in (refl, omega arith, refl)

  -- the text does not fit, and the buffer is as it was
  pub long_value : (k : ℕ) (part : List ℕ) → Printed rows n (mid_of start (4096 - start) xs) (refused k) part → (k ≡ 5) × (4096 < start + text_length rows n) × (put_mid start (4096 - start) xs part ≡ xs)
  long_value k part p =
      let (a, b, e) = not_printed p.prints in
      let same : part ≡ mid_of start (4096 - start) xs = p.front ∙ ap (λ t. t ++ drop (length t) (mid_of start (4096 - start) xs)) e in
      (a, b, ap (put_mid start (4096 - start) xs) same ∙ put_same start (4096 - start) xs)

  -- it fits, and is written behind the place
  pub short_value : (l : ℕ) (part : List ℕ) → Printed rows n (mid_of start (4096 - start) xs) (told l) part → (l ≡ text_length rows n) × (start + l ≤ 4096) × (put_mid start (4096 - start) xs part ≡ over xs start (bytes (node rows n)))
  short_value l part p =
      let (a, b, e) = printed p.prints in
      let text = bytes (node rows n) in
      let mid = mid_of start (4096 - start) xs in
      let post = post_of start (4096 - start) xs in
      let is : part ≡ text ++ drop (length text) mid = p.front ∙ ap (λ t. t ++ drop (length t) mid) e in
      let r = room in
      let rest : drop (length text) mid ++ post ≡ drop (start + length text) xs =
      sym (drop-append-le (length text) mid post (omega arith)) ∙ ap (drop (length text)) (take-append-drop (4096 - start) (drop start xs)) ∙ drop-drop (length text) start xs in
      (a, b, ap (λ w. take start xs ++ w) (ap (λ w. w ++ post) is ∙ append_assoc text (drop (length text) mid) post ∙ ap (λ w. text ++ w) rest))

  module _ (o : Outcome) (is : o ≡ outcome (node rows n)) (begins : start ≡ length (numeral n) + 3) where
    text_is : length (value_text rows n) ≡ start + text_length rows n
    text_is =
        let h = head_length n (outcome (node rows n)) in
        let l = length-append (head_text n (outcome (node rows n))) (bytes (node rows n)) in
        omega arith

    pub value_refused : (f : CalculatorFault) (part : List ℕ) (r : Result ℕ CalculatorFault) → r ≡ Err f → place_of f ≡ 0 → Printed rows n (mid_of start (4096 - start) xs) (refused (number_of f)) part
        → WroteValue rows n xs (put_mid start (4096 - start) xs part) r
    value_refused f part r e z p = let (a, b, d) = long_value (number_of f) part p in let t = text_is in subst (WroteValue rows n xs (put_mid start (4096 - start) xs part)) (sym e) (a, z, omega arith, d)

    pub value_written : (l : ℕ) (part out : List ℕ) → Printed rows n (mid_of start (4096 - start) xs) (told l) part → out ≡ over (put_mid start (4096 - start) xs part) 0 (head_text n o) → WroteValue rows n xs out (Ok (start + l))
    value_written l part out p w =
        let (a, b, d) = short_value l part p in
        let t = text_is in
        let head = head_text n (outcome (node rows n)) in
        let h = head_length n (outcome (node rows n)) in
        let s : start ≡ length head = begins ∙ sym h in
        let e : over (put_mid start (4096 - start) xs part) 0 (head_text n o) ≡ over (over xs (length head) (bytes (node rows n))) 0 head = ap₂ (λ y z. over y 0 (head_text n z)) (d ∙ ap (λ k. over xs k (bytes (node rows n))) s) is in
        (ap (λ k. start + k) a ∙ sym t, b, w ∙ e ∙ over_front xs head (bytes (node rows n)) (omega arith))
