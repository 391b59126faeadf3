-- The lemmas on sets of nodes, at the tables of the code.
-- Assumes nothing.
use Rattle.std.proofs.Common.{◌≡◌, ℕ, ◌<◌, length, get_or, vec_items, vec_len, sym, subst, rules}
use Rattle.std.proofs.lemmas.List.{length-map}
use Rattle.games.specs.declared.side.Side.{Side}
use Rattle.sealing.specs.declared.row.Row.{Row}
use Rattle.nodesets.specs.declared.pair.Pair.{Pair}
use Rattle.sealing.specs.declared.nodes.Nodes.{Nodes}
use Rattle.nodesets.specs.Pairs.{Sets, Within, by}
use Rattle.sealing.specs.Forms.{none}
use Rattle.sealing.specs.Steps.{Compared}
use Rattle.sealing.specs.Views.{links, ranks}
use Rattle.sealing.proofs.Reading.{worse_at, options_at}

pub count_rows : (t : Nodes) → vec_len t.rows ≡ length (links t)
count_rows t = simp length-map (search rules)

pub there_links : (t : Nodes) (a : ℕ) → a < vec_len t.rows → a < length (links t)
there_links t a h = rw (count_rows t) at h

pub within_links : (t : Nodes) (o : Sets) → Within (vec_len t.rows) o → Within (length (links t)) o
within_links t o h = rw (count_rows t) at h

pub compared_links : (t : Nodes) (o w : Sets) → Compared (links t) o (vec_len t.rows) w → Compared (links t) o (length (links t)) w
compared_links t o w h = subst (λ n. Compared (links t) o n w) (count_rows t) h

pub in_rows : (t : Nodes) (a : ℕ) → a < vec_len t.rows → a < length (vec_items t.rows)
in_rows t a h = search rules

pub option_bit : (t : Nodes) (a : ℕ) → a < vec_len t.rows → (r : Row) → r ≡ get_or (vec_items t.rows) a r → (s : Side) (k : ℕ) → get_or (links t) a none s k ≡ by r.options s k
option_bit t a h r e s k = options_at (vec_items t.rows) a r (in_rows t a h) e s k

pub worse_bit : (t : Nodes) (a : ℕ) → a < vec_len t.rows → (r : Row) → r ≡ get_or (vec_items t.rows) a r → (s : Side) (k : ℕ) → get_or (ranks t) a none s k ≡ by r.worse s k
worse_bit t a h r e s k = worse_at (vec_items t.rows) a r (in_rows t a h) e s k

pub compared_rows : (t : Nodes) (o w : Sets) → Compared (links t) o (length (links t)) w → Compared (links t) o (vec_len t.rows) w
compared_rows t o w h = subst (λ n. Compared (links t) o n w) (sym (count_rows t)) h

pub within_rows : (t : Nodes) (o : Sets) → Within (length (links t)) o → Within (vec_len t.rows) o
within_rows t o h = subst (λ n. Within n o) (sym (count_rows t)) h

-- what holds of nodes and a pair holds of those that equal them
pub along : (P : Nodes → Pair → Type 0) (t u : Nodes) (m n : Pair) → t ≡ u → m ≡ n → P t m → P u n
along P t u m n e f h = subst (λ (x : Nodes). P x n) e (subst (λ (p : Pair). P t p) f h)
