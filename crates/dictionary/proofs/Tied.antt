-- The nodes of the tables are the nodes of their rows.
-- Assumes nothing.
use Rattle.std.proofs.Common.{◌≡◌, ℕ, zero, suc, ◌<◌, sym, ap, ◌∙◌, arith}
use Rattle.games.specs.declared.side.Side.TheVariants.{Left, Right}
use Rattle.games.specs.Numbered.{Lists, form_by}
use Rattle.sealing.specs.declared.tables.Tables.{Tables}
use Rattle.sealing.specs.Seals.{count, node_of, row_at, rows_of}
use Rattle.sealing.proofs.Sealing.{count_is, sound}
use Rattle.calls.specs.Rows.{Below, Rows, node}
use Rattle.calls.proofs.Rows.{form_by_same, node_law}
use Rattle.dictionary.specs.Holding.{Holding}
use Rattle.dictionary.specs.Kept.{Kept}

-- there are at most 384 nodes
pub few : (t : Tables) → count t < 385
few t = let a = count_is t in let b = t.nodes.few in omega arith

module _ (t : Tables) where
  pub lower : (k : ℕ) → k < count t → Below k (row_at t k)
  lower k h = record { on_left = (sound t).lower k h Left; on_right = (sound t).lower k h Right }

  agree_below : (m k : ℕ) → k < m → k < count t → node_of t k ≡ node (rows_of t) k
  agree_below zero k h l = absurd (omega arith)
  agree_below (suc m) k h l =
      (sound t).reads k l
      ∙ form_by_same k (node_of t) (node (rows_of t)) (λ n i. agree_below m n (omega arith) (omega arith)) (row_at t k) (lower k l)
      ∙ sym (node_law (rows_of t) k l (lower k l))

  pub agree : (k : ℕ) → k < count t → node_of t k ≡ node (rows_of t) k
  agree k l = agree_below (suc k) k (omega arith) l

  -- so the forms of lists of nodes are the same too
  pub agree_form : (l : Lists) → Below (count t) l → form_by (node_of t) l ≡ form_by (node (rows_of t)) l
  agree_form l b = form_by_same (count t) (node_of t) (node (rows_of t)) agree l b

-- a dictionary's rows are those of the store inside it
pub rows_inside : (rows : Rows) (room : ℕ) (h : Holding) → record { rows = rows; room = room } ≡ h → rows ≡ h.rows
rows_inside rows room h e = ap (λ (x : Holding). x.rows) e

-- so they are the rows that its tables describe
pub kept_inside : (rows : Rows) (room : ℕ) (h : Holding) (t : Tables) → record { rows = rows; room = room } ≡ h → Kept rows t → Kept h.rows t
kept_inside rows room h t e kept = sym (rows_inside rows room h e) ∙ kept

pub room_inside : (rows : Rows) (room : ℕ) (h : Holding) → record { rows = rows; room = room } ≡ h → room ≡ h.room
room_inside rows room h e = ap (λ (x : Holding). x.room) e
