-- What a row that was read says of the tables.
-- Assumes nothing.
use Rattle.std.proofs.Common.{◌≡◌, ℕ, ◌<◌, Bool, List, length, get_or, sym, ap, ◌∙◌}
use Rattle.std.proofs.lemmas.List.{get_or-map, length-map}
use Rattle.games.specs.declared.side.Side.{Side}
use Rattle.sealing.specs.declared.row.Row.{Row}
use Rattle.nodesets.specs.Pairs.{Sets, by}
use Rattle.nodesets.specs.Sets.{Meet}
use Rattle.sealing.specs.Forms.{none}
use Rattle.sealing.specs.Rows.{options_of, worse_of}

pub worse_at : (rows : List Row) (i : ℕ) (r : Row) → i < length rows → r ≡ get_or rows i r → (s : Side) (k : ℕ) → get_or (worse_of rows) i none s k ≡ by r.worse s k
worse_at rows i r h e s k = ap (λ (o : Sets). o s k) (get_or-map (λ r. by r.worse) rows i r none h ∙ ap (λ (x : Row). by x.worse) (sym e))

pub options_at : (rows : List Row) (i : ℕ) (r : Row) → i < length rows → r ≡ get_or rows i r → (s : Side) (k : ℕ) → get_or (options_of rows) i none s k ≡ by r.options s k
options_at rows i r h e s k = ap (λ (o : Sets). o s k) (get_or-map (λ r. by r.options) rows i r none h ∙ ap (λ (x : Row). by x.options) (sym e))

pub same_length : (rows : List Row) → length (worse_of rows) ≡ length (options_of rows)
same_length rows = length-map rows (λ r. by r.worse) ∙ sym (length-map rows (λ r. by r.options))

pub meet_same : (p q p' q' : ℕ → Bool) → ((k : ℕ) → p k ≡ p' k) → ((k : ℕ) → q k ≡ q' k) → Meet p q → Meet p' q'
meet_same p q p' q' e f (k, a, b) = (k, sym (e k) ∙ a, sym (f k) ∙ b)
