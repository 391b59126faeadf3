-- The rows of a dictionary are sound.
-- Assumes nothing.
use Rattle.std.proofs.Common.{ℕ, ◌≤◌, length, get_or, sym, subst, subst₂}
use Rattle.games.specs.declared.side.Side.{Side}
use Rattle.games.specs.Canon.{Canonical}
use Rattle.games.specs.Numbered.{list_of}
use Rattle.games.specs.Order.{◌≈◌}
use Rattle.sealing.specs.declared.tables.Tables.{Tables}
use Rattle.sealing.specs.Seals.{row_at, rows_of}
use Rattle.sealing.proofs.Sealing.{sound}
use Rattle.stores.specs.Rows.{Lawful}
use Rattle.calls.specs.Rows.{Rows, no_numbers, node}
use Rattle.calls.specs.Sealing.{Narrow}
use Rattle.calls.specs.Sound.{Sound}
use Rattle.calls.proofs.Rows.{node_law}
use Rattle.dictionary.specs.Kept.{Kept}
use Rattle.dictionary.proofs.Sealed.{narrow_form}
use Rattle.dictionary.proofs.Tied.{agree, lower}

tables_sound : (t : Tables) → ((s : Side) (n : ℕ) → length (list_of s (get_or (rows_of t) n no_numbers)) ≤ 16) → Sound (rows_of t)
tables_sound t few = record {
  lower = λ n h. lower t n h;
  canonical = λ n h. subst Canonical (agree t n h) ((sound t).canonical n h);
  narrow = λ n h. subst Narrow (sym (node_law (rows_of t) n h (lower t n h))) (narrow_form (node (rows_of t)) (row_at t n) (λ s. few s n));
  unlike = λ m n h k e. (sound t).apart m n h k (subst₂ ◌≈◌ (sym (agree t m h)) (sym (agree t n k)) e);
}

pub kept_sound : (rows : Rows) (t : Tables) (room : ℕ) → Kept rows t → Lawful rows room → Sound rows
kept_sound rows t room e law =
    subst Sound (sym e) (tables_sound t (subst (λ r. (s : Side) (n : ℕ) → length (list_of s (get_or r n no_numbers)) ≤ 16) e law.few))
