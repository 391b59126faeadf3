-- The three answers of print, and what each leaves in the buffer.
-- Assumes nothing.
use Rattle.std.proofs.Common.{◌≡◌, ℕ, ◌+◌, ◌<◌, ◌≤◌, min, ◌⊎◌, List, [], ◌++◌, length, take, drop, sym, refl, ap, ◌∙◌, subst, inl, inr, ⊎_elim, zero-add, arith}
use Rattle.std.proofs.lemmas.List.{take_at}
use Rattle.std.proofs.lemmas.Bool.{cases_lt}
use Rattle.games.specs.Text.{bytes}
use Rattle.calls.specs.Rows.{Rows, node}
use Rattle.calls.specs.Answers.{Answer, told, refused}
use Rattle.calls.specs.Asking.{Prints, text_length, too_long, written}
use Rattle.calls.specs.Runs.{Call, printing}
use Rattle.dictionary.specs.Printing.{Printed, PrintSteps, over}

module _ (rows : Rows) (n : ℕ) (before : List ℕ) where
  pub printed_unknown : length rows ≤ n → Printed rows n before (refused 1) before
  printed_unknown h = record { text = []; prints = Prints.unknown h; front = refl }

  pub printed_long : n < length rows → ¬ (text_length rows n ≤ min (length before) 65535) → Printed rows n before (refused 5) before
  printed_long h f = record { text = []; prints = too_long h long; front = refl }
    where
      long : (length before < text_length rows n) ⊎ (65535 < text_length rows n)
      long = ⊎_elim inl (λ k. inr (⊎_elim (λ l. l) (λ l. absurd (f (omega arith))) (cases_lt 65535 (text_length rows n)))) (cases_lt (length before) (text_length rows n))

  pub printed_told : n < length rows → text_length rows n ≤ min (length before) 65535 → (size : ℕ) (after : List ℕ) → size ≡ 0 + text_length rows n → after ≡ over before 0 (bytes (node rows n)) → Printed rows n before (told size) after
  printed_told h k size after e w = record {
    text = bytes (node rows n);
    prints = subst (λ m. Prints rows n (length before) (told m) (bytes (node rows n))) (sym (e ∙ zero-add (text_length rows n))) (written h (omega arith) (omega arith));
    front = w ∙ ap (λ m. bytes (node rows n) ++ drop m before) (zero-add (text_length rows n));
  }

  -- so it is a call of a run
  steps : {a : Answer ℕ} {t : List ℕ} (after : List ℕ) → Prints rows n (length before) a t → after ≡ t ++ drop (length t) before → PrintSteps rows n a after
  steps after (Prints.unknown h) e = λ c p r. Call.print_refused n (length before) (subst (λ z. Prints z n (length before) (refused 1) []) (sym r) (Prints.unknown h))
  steps after (Prints.too_long h l) e = λ c p r. Call.print_refused n (length before) (subst (λ z. Prints z n (length before) (refused 5) []) (sym r) (Prints.too_long h l))
  steps after (Prints.written h l m) e = λ c p r.
      let t = bytes (node rows n) in
      let front : take (length t) after ≡ t = ap (take (length t)) e ∙ take_at t (drop (length t) before) (length t) refl in
      subst (λ u. Call c p (printing p n u)) (sym front) (Call.print n (length before) (subst (λ z. Prints z n (length before) (told (length t)) t) (sym r) (Prints.written h l m)))

  pub print_steps : (a : Answer ℕ) (after : List ℕ) → Printed rows n before a after → PrintSteps rows n a after
  print_steps a after w = steps after w.prints w.front
