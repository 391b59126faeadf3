-- A list of calls worked through: a position valued, a first move told, a text read, a draft abandoned and then sealed, a node printed, and two refusals between;
-- and a shorter list, with no first move and no draft abandoned.
-- Assumes nothing.
use Rattle.std.proofs.Common.{◌≡◌, ℕ, zero, suc, ◌<◌, ◌≤◌, Bool, true, false, cond, eqb, List, [], ◌∷◌, length, take, Some, refl, arith}
use Rattle.std.specs.List.{AllByRecursion}
use Rattle.games.specs.declared.side.Side.{Side}
use Rattle.games.specs.declared.side.Side.TheVariants.{Left, Right}
use Rattle.games.specs.Form.{Form, form, ∅, ◌&◌, 𝟎, 𝟏}
use Rattle.games.specs.Order.{ge}
use Rattle.games.specs.Play.{wins}
use Rattle.games.specs.Text.{bytes}
use Rattle.games.proofs.Tests.{canonical_is}
use Rattle.rulesets.specs.Rules.{Lawful, game}
use Rattle.calls.specs.Rows.{Rows, no_numbers, node}
use Rattle.calls.specs.Answers.{told, refused}
use Rattle.calls.specs.Sealing.{New, Seals, found, added, SealsNumbers, known}
use Rattle.calls.specs.Entering.{entry, done, next, accepted}
use Rattle.calls.specs.Positions.{FirstMoves, Values, Winning}
use Rattle.calls.specs.Texts.{times, Shallow}
use Rattle.calls.specs.Reading.{Reads}
use Rattle.calls.specs.Asking.{Prints}
use Rattle.calls.specs.Runs.{Past, new, grown, holding, printing, put, draft_game, Call, none_yet, one_more, Reached}
use Rattle.calls.specs.WorkedRun.{counter, row_of_1, row_of_2, ShorterRun, WorkedRun}

-- the rows, as they grow
abbrev upto_0 : Rows
upto_0 = no_numbers ∷ []

abbrev upto_1 : Rows
upto_1 = no_numbers ∷ row_of_1 ∷ []

abbrev upto_2 : Rows
upto_2 = no_numbers ∷ row_of_1 ∷ row_of_2 ∷ []

-- {0,1|}, which is 2
abbrev wide : Form
wide = form (𝟎 & (𝟏 & ∅)) ∅

seal_0 : Seals 3 [] 𝟎 (told 0) upto_0
unfolding node ge
seal_0 = added (λ n k e. omega arith) no_numbers (record { on_left = tt; on_right = tt })
    (record { is_canonical = canonical_is 𝟎 tt; same_value = record { above = record { holds = tt }; below = record { holds = tt } } }) (record { on_left = omega arith; on_right = omega arith }) (omega arith)

new_1 : New upto_0 𝟏
unfolding node ge
new_1 zero k e = e.above.holds
new_1 (suc n) k e = omega arith

seal_1 : Seals 3 upto_0 𝟏 (told 1) upto_1
unfolding node ge
seal_1 = added new_1 row_of_1 (record { on_left = (omega arith, tt); on_right = tt })
    (record { is_canonical = canonical_is 𝟏 tt; same_value = record { above = record { holds = tt }; below = record { holds = tt } } }) (record { on_left = omega arith; on_right = omega arith }) (omega arith)

again_0 : Seals 3 upto_1 𝟎 (told 0) upto_1
unfolding node ge
again_0 = found 0 (omega arith) (record { above = record { holds = tt }; below = record { holds = tt } })

again_1 : Seals 3 upto_1 𝟏 (told 1) upto_1
unfolding node ge
again_1 = found 1 (omega arith) (record { above = record { holds = tt }; below = record { holds = tt } })

new_2 : New upto_1 wide
unfolding node ge
new_2 zero k e = e.above.holds
new_2 (suc zero) k e = e.above.holds
new_2 (suc (suc n)) k e = omega arith

seal_2 : Seals 3 upto_1 wide (told 2) upto_2
unfolding node ge
seal_2 = added new_2 row_of_2 (record { on_left = (omega arith, tt); on_right = tt })
    (record { is_canonical = canonical_is (form (𝟏 & ∅) ∅) tt; same_value = record { above = record { holds = tt }; below = record { holds = tt } } })
    (record { on_left = omega arith; on_right = omega arith }) (omega arith)

-- the ruleset
counter_lawful : Lawful counter
counter_lawful = record {
  limit_low = omega arith;
  limit_high = omega arith;
  width_high = omega arith;
  depth_high = omega arith;
  below = below;
  narrow = narrow;
  shallow = shallow;
  falls = falls;
  no_moves = no_moves;
  no_rank = no_rank;
}
  where
    below : (n : ℕ) → counter.legal n ≡ true → n < 2
    below zero e = omega arith
    below (suc zero) e = omega arith
    below (suc (suc n)) e = let z : ◌≡◌ {A = ℕ} 0 1 = cc in absurd (omega arith)

    narrow : (s : Side) (n : ℕ) → length (counter.moves s n) ≤ 1
    narrow Left zero = omega arith
    narrow Left (suc zero) = omega arith
    narrow Left (suc (suc n)) = omega arith
    narrow Right n = omega arith

    shallow : (n : ℕ) → counter.rank n ≤ 1
    shallow zero = omega arith
    shallow (suc zero) = omega arith
    shallow (suc (suc n)) = omega arith

    falls : (s : Side) (n : ℕ) → AllByRecursion (λ m. (counter.legal m ≡ true) × (counter.rank m < counter.rank n)) (counter.moves s n)
    falls Left zero = tt
    falls Left (suc zero) = ((refl, omega arith), tt)
    falls Left (suc (suc n)) = tt
    falls Right n = tt

    no_moves : (s : Side) (n : ℕ) → counter.legal n ≡ false → counter.moves s n ≡ []
    no_moves Left zero e = refl
    no_moves Left (suc zero) e = let z : ◌≡◌ {A = ℕ} 0 1 = cc in absurd (omega arith)
    no_moves Left (suc (suc n)) e = refl
    no_moves Right n e = refl

    no_rank : (n : ℕ) → counter.legal n ≡ false → counter.rank n ≡ 0
    no_rank zero e = refl
    no_rank (suc zero) e = let z : ◌≡◌ {A = ℕ} 0 1 = cc in absurd (omega arith)
    no_rank (suc (suc n)) e = refl

valued : Values counter 3 [] 1 (told 1) upto_1 (entry 1 𝟏 ∷ entry 0 𝟎 ∷ [])
unfolding game
valued = Values.legal refl (accepted (next seal_0 (next seal_1 done)))

refused_value : Values counter 3 upto_1 7 (refused 4) upto_1 []
refused_value = Values.illegal refl

moved : FirstMoves counter 3 upto_1 Left 1 (told (Some 0)) upto_1 (entry 0 𝟎 ∷ [])
unfolding game wins
moved = FirstMoves.valued refl (next again_0 done) (Winning.index 0 (omega arith) refl)

-- a text of at most 96 bytes is nested at most 96 deep
times_length : (x : ℕ) (t : List ℕ) → times x t ≤ length t
times_length x [] = omega arith
times_length x (y ∷ t) = go (eqb x y) (times_length x t)
  where
    go : (b : Bool) → times x t ≤ length t → cond b (suc (times x t)) (times x t) ≤ suc (length t)
    go true h = omega arith
    go false h = omega arith

take_short : (i : ℕ) (t : List ℕ) → length (take i t) ≤ length t
take_short zero t = omega arith
take_short (suc i) [] = omega arith
take_short (suc i) (x ∷ t) = let h = take_short i t in omega arith

short : (t : List ℕ) → length t ≤ 96 → Shallow t
short t l i = let a = times_length 123 (take i t) in let b = take_short i t in omega arith

text_read : Reads 3 upto_1 (bytes wide) (told 2) upto_2 (entry 2 wide ∷ entry 1 𝟏 ∷ entry 0 𝟎 ∷ entry 0 𝟎 ∷ [])
text_read = Reads.well wide (record { by_form = refl; shallow = short (bytes wide) (omega arith) }) (accepted (next again_0 (next again_0 (next again_1 (next seal_2 done)))))

-- what each call leaves
abbrev after_value : Past
after_value = grown new upto_1 (entry 1 𝟏 ∷ entry 0 𝟎 ∷ [])

abbrev after_refusal : Past
after_refusal = grown after_value upto_1 []

abbrev after_move : Past
after_move = grown after_refusal upto_1 (entry 0 𝟎 ∷ [])

abbrev after_read : Past
after_read = grown after_move upto_2 (entry 2 wide ∷ entry 1 𝟏 ∷ entry 0 𝟎 ∷ entry 0 𝟎 ∷ [])

abbrev after_zero : Past
after_zero = holding (holding after_read 0 no_numbers 1) 0 (put Left 0 no_numbers) 1

abbrev after_abandon : Past
after_abandon = holding after_zero 0 no_numbers 0

abbrev after_open : Past
after_open = holding after_abandon 0 no_numbers 1

abbrev after_put : Past
after_put = holding after_open 0 (put Left 1 no_numbers) 1

sealed : SealsNumbers 3 upto_2 (put Left 1 no_numbers) (told 2) upto_2
unfolding node ge
sealed = known (record { on_left = (omega arith, tt); on_right = tt }) (found 2 (omega arith) (record { above = record { holds = tt }; below = record { holds = tt } }))

abbrev after_seal : Past
after_seal = holding (grown after_put upto_2 (entry 2 (draft_game after_put 0) ∷ [])) 0 no_numbers 0

abbrev after_print : Past
after_print = printing after_seal 2 (bytes (form (𝟏 & ∅) ∅))

print_2 : Prints upto_2 2 16 (told 9) (bytes (form (𝟏 & ∅) ∅))
unfolding node
print_2 = Prints.written (omega arith) (omega arith) (omega arith)

reached : Reached 3 after_print
reached = one_more (one_more (one_more (one_more (one_more (one_more (one_more (one_more (one_more (one_more (one_more (one_more none_yet
    (Call.value counter counter_lawful 1 valued))
    (Call.value counter counter_lawful 7 refused_value))
    (Call.first_move counter counter_lawful Left 1 moved))
    (Call.read (bytes wide) text_read))
    (Call.open_draft 0))
    (Call.put_number 0 Left 0 (omega arith) (omega arith)))
    (Call.abandon 0 0 refl))
    (Call.open_draft 0))
    (Call.put_number 0 Left 1 (omega arith) (omega arith)))
    (Call.put_refused 0 Left 384 (omega arith) (omega arith)))
    (Call.seal 0 0 refl sealed))
    (Call.print 2 16 print_2)

pub worked_run : WorkedRun
worked_run = (after_print, reached, refl, refl, refl)

-- what each call of the shorter list leaves, from the text on: what is before it is the same
abbrev shorter_read : Past
shorter_read = grown after_refusal upto_2 (entry 2 wide ∷ entry 1 𝟏 ∷ entry 0 𝟎 ∷ entry 0 𝟎 ∷ [])

abbrev shorter_open : Past
shorter_open = holding shorter_read 0 no_numbers 1

abbrev shorter_put : Past
shorter_put = holding shorter_open 0 (put Left 1 no_numbers) 1

abbrev shorter_seal : Past
shorter_seal = holding (grown shorter_put upto_2 (entry 2 (draft_game shorter_put 0) ∷ [])) 0 no_numbers 0

abbrev shorter_print : Past
shorter_print = printing shorter_seal 2 (bytes (form (𝟏 & ∅) ∅))

shorter_reached : Reached 3 shorter_print
shorter_reached = one_more (one_more (one_more (one_more (one_more (one_more (one_more (one_more none_yet
    (Call.value counter counter_lawful 1 valued))
    (Call.value counter counter_lawful 7 refused_value))
    (Call.read (bytes wide) text_read))
    (Call.open_draft 0))
    (Call.put_number 0 Left 1 (omega arith) (omega arith)))
    (Call.put_refused 0 Left 384 (omega arith) (omega arith)))
    (Call.seal 0 0 refl sealed))
    (Call.print 2 16 print_2)

pub shorter_run : ShorterRun
shorter_run = (shorter_print, shorter_reached, refl, refl, refl)
