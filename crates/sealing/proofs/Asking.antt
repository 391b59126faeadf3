-- How two nodes compare, by the rows.
-- Assumes nothing.
use Rattle.std.proofs.Common.{◌≡◌, ℕ, ◌<◌, ◌≤◌, Bool, false, ◌&&◌, ltb, length, get_or, vec_items, vec_len, sym, ◌∙◌, arith}
use Rattle.std.proofs.lemmas.Bool.{le-ltb}
use Rattle.games.specs.declared.side.Side.{Side}
use Rattle.games.specs.Tests.{as_good}
use Rattle.nodesets.specs.Pairs.{by}
use Rattle.sealing.specs.Forms.{node}
use Rattle.sealing.specs.Views.{links}
use Rattle.sealing.specs.declared.nodes.Nodes.{Nodes}
use Rattle.sealing.specs.declared.row.Row.{Row}
use Rattle.sealing.proofs.Whole.{count_rows, worse_bit}

-- a and b are nodes, and a is as good as b for the side
abbrev pub asked : Nodes → Side → ℕ → ℕ → Bool
asked t s a b = (ltb a (length (links t)) && ltb b (length (links t))) && as_good s (node (links t) a) (node (links t) b)

pub asked_past : (t : Nodes) (s : Side) (a b : ℕ) → vec_len t.rows ≤ a → false ≡ asked t s a b
asked_past t s a b h = rw (le-ltb a (length (links t)) (let e = count_rows t in omega arith))

pub asked_row : (t : Nodes) (s : Side) (a b : ℕ) → a < vec_len t.rows → (r : Row) → r ≡ get_or (vec_items t.rows) a r → by r.worse s b ≡ asked t s a b
asked_row t s a b h r e = sym (worse_bit t a h r e s b) ∙ t.ranked a s b
