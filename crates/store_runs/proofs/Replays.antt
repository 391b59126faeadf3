-- The steps of a run of calls.
-- Assumes nothing.
use Rattle.std.proofs.Common.{◌≡◌, ℕ, ◌+◌, ◌<◌, ◌≤◌, List, [], ◌∷◌, ◌++◌, length, get_or, drop, sym, refl, ap, ◌∙◌}
use Rattle.std.proofs.lemmas.List.{at_drop_more, at_drop_all, append_assoc, append-nil}
use Rattle.stores.specs.Rows.{Rows}
use Rattle.store_runs.specs.declared.call.StoreCall.{StoreCall}
use Rattle.store_runs.specs.declared.call.StoreAnswer.{StoreAnswer}
use Rattle.store_runs.specs.Runs.{answer_to, rows_after, answers_to, rows_at_end}

-- after i of the calls: the answers so far with those to come are all the answers, and so with the rows
pub record Run (rows : Rows) (room : ℕ) (calls : List StoreCall) (before : List StoreAnswer) (i : ℕ) (rows' : Rows) (room' : ℕ) (so_far : List StoreAnswer) : Type 0 where
  pub same_room : room' ≡ room
  pub all_answers : so_far ++ answers_to rows' room (drop i calls) ≡ before ++ answers_to rows room calls
  pub all_rows : rows_at_end rows' room (drop i calls) ≡ rows_at_end rows room calls

module _ (rows : Rows) (room : ℕ) (calls : List StoreCall) (before : List StoreAnswer) where
  pub run_start : Run rows room calls before 0 rows room before
  run_start = record { same_room = refl; all_answers = refl; all_rows = refl }

  module _ (i : ℕ) (rows' : Rows) (room' : ℕ) (so_far : List StoreAnswer) (w : Run rows room calls before i rows' room' so_far) where
    pub run_more : (call : StoreCall) (rows'' : Rows) (room'' : ℕ) (now_answers : List StoreAnswer) (x : StoreAnswer) → i < length calls → call ≡ get_or calls i call →
        x ≡ answer_to rows' room' call → rows'' ≡ rows_after rows' room' call → room'' ≡ room' → now_answers ≡ so_far ++ x ∷ [] →
        Run rows room calls before (i + 1) rows'' room'' now_answers
    run_more call rows'' room'' now_answers x h read told after same pushed = record {
      same_room = same ∙ w.same_room;
      all_answers =
          ap (λ r. now_answers ++ answers_to r room (drop (i + 1) calls)) (after ∙ ap (λ m. rows_after rows' m call) w.same_room)
          ∙ ap (λ s. s ++ rest) (pushed ∙ ap (λ y. so_far ++ y ∷ []) (told ∙ ap (λ m. answer_to rows' m call) w.same_room))
          ∙ append_assoc so_far (answer_to rows' room call ∷ []) rest
          ∙ ap (λ a. so_far ++ a) (sym answers_next)
          ∙ w.all_answers;
      all_rows =
          ap (λ r. rows_at_end r room (drop (i + 1) calls)) (after ∙ ap (λ m. rows_after rows' m call) w.same_room)
          ∙ sym rows_next ∙ w.all_rows;
    }
      where
        rest : List StoreAnswer
        rest = answers_to (rows_after rows' room call) room (drop (i + 1) calls)

        answers_next : answers_to rows' room (drop i calls) ≡ answer_to rows' room call ∷ answers_to (rows_after rows' room call) room (drop (i + 1) calls)
        answers_next = at_drop_more (answers_to rows' room) calls i call h ∙ ap (λ c. answers_to rows' room (c ∷ drop (i + 1) calls)) (sym read)

        rows_next : rows_at_end rows' room (drop i calls) ≡ rows_at_end (rows_after rows' room call) room (drop (i + 1) calls)
        rows_next = at_drop_more (rows_at_end rows' room) calls i call h ∙ ap (λ c. rows_at_end rows' room (c ∷ drop (i + 1) calls)) (sym read)

    pub run_ends : length calls ≤ i → (so_far ≡ before ++ answers_to rows room calls) × (rows' ≡ rows_at_end rows room calls)
    run_ends h = (
      sym (append-nil so_far) ∙ ap (λ a. so_far ++ a) (sym (at_drop_all (answers_to rows' room) calls i h)) ∙ w.all_answers,
      sym (at_drop_all (rows_at_end rows' room) calls i h) ∙ w.all_rows,
    )
