-- What the tables say, and what a pair of sets of nodes seals to.
-- Assumes nothing.
use Rattle.std.specs.Prelude.{◌≡◌, ℕ, ◌<◌, ◌≤◌, Bool, ◌⊎◌, List, [], ◌∷◌, ◌++◌, map, length, vec_items, filter, Option, MatchOption, Result, Ok, Err, slice_index_or}
use Rattle.std.specs.List.{AllByRecursion}
use Rattle.games.specs.declared.side.Side.{Side}
use Rattle.games.specs.declared.side.Side.TheVariants.{Left, Right}
use Rattle.games.specs.Form.{Form}
use Rattle.games.specs.Numbered.{Lists, list_of, form_by}
use Rattle.games.specs.Order.{◌≈◌}
use Rattle.games.specs.Canon.{Canonical}
use Rattle.nodesets.specs.Pairs.{Sets, Within, by}
use Rattle.sealing.specs.Forms.{node}
use Rattle.sealing.specs.Views.{links}
use Rattle.sealing.specs.declared.seal.Sealed.{Sealed}
use Rattle.sealing.specs.declared.seal.Sealed.TheVariants.{Node, New}
use Rattle.sealing.specs.declared.seal.SealFault.{SealFault}
use Rattle.sealing.specs.declared.seal.SealFault.TheVariants.{Unknown, Wide}
use Rattle.sealing.specs.declared.tables.Tables.{Tables}

-- two sets of numbers as two lists, each in the order of ks
abbrev pub in_order : List ℕ → Sets → Lists
in_order ks o = record { left = filter (o Left) ks; right = filter (o Right) ks }

-- the nodes of a set, in listing order
abbrev pub listed : Tables → (ℕ → Bool) → List ℕ
listed t p = filter p (vec_items t.listing)

-- the two lists of a pair of sets, each in listing order
abbrev pub row_of : Tables → Sets → Lists
row_of t o = in_order (vec_items t.listing) o

-- the rows of all nodes, by number
abbrev pub rows_of : Tables → List Lists
rows_of t = map (in_order (vec_items t.listing)) (links t.nodes)

abbrev pub count : Tables → ℕ
count t = length (rows_of t)

-- the row of the node k
abbrev pub row_at : Tables → ℕ → Lists
row_at t k = slice_index_or (rows_of t) k (record { left = []; right = [] })

-- the form of the node k
abbrev pub node_of : Tables → ℕ → Form
node_of t k = node (links t.nodes) k

-- the form whose options are the forms of the nodes of two sets
abbrev pub form_of : Tables → Sets → Form
form_of t o = form_by (node_of t) (row_of t o)

-- What holds in every state.
pub record Sound (t : Tables) : Type 0 where
  -- a node's form has as options the forms of the nodes that its row names
  pub reads : (k : ℕ) → k < count t → node_of t k ≡ form_by (node_of t) (row_at t k)
  -- a row names lower numbers only
  pub lower : (k : ℕ) → k < count t → (s : Side) → AllByRecursion (λ j. j < k) (list_of s (row_at t k))
  -- each node is canonical: so each list of its row is in rising listing order
  pub canonical : (k : ℕ) → k < count t → Canonical (node_of t k)
  -- no two nodes are equal in value
  pub apart : (j k : ℕ) → j < count t → k < count t → node_of t j ≈ node_of t k → j ≡ k

-- no node equals the form of the two sets
abbrev pub Fresh : Tables → Sets → Type 0
Fresh t o = (k : ℕ) → k < count t → ¬ (form_of t o ≈ node_of t k)

-- the row l names nodes, and its form is the canonical form of the two sets
pub record CanonicalRow (t : Tables) (o : Sets) (l : Lists) : Type 0 where
  pub names : (s : Side) → AllByRecursion (λ j. j < count t) (list_of s l)
  pub value : form_of t o ≈ form_by (node_of t) l
  pub canonical : Canonical (form_by (node_of t) l)

-- at most 16 options on a side
abbrev pub Narrow : Lists → Type 0
Narrow l = (s : Side) → length (list_of s l) ≤ 16

-- sealing the two sets wants a new row, and l is that row
pub record NewRow (t : Tables) (o : Sets) (l : Lists) : Type 0 where
  pub within : Within (count t) o
  pub fresh : Fresh t o
  pub row : CanonicalRow t o l
  pub narrow : Narrow l

-- What two sets seal to: a number put is not a node; the node that equals their form; the canonical form is too wide; the new row.
abbrev pub SealsTo : Result Sealed SealFault → Tables → Sets → Type 0
SealsTo (Err Unknown) t o = Within (count t) o → ⊥
SealsTo (Ok (Node k)) t o = Within (count t) o × (k < count t) × (form_of t o ≈ node_of t k)
SealsTo (Err Wide) t o = Within (count t) o × Fresh t o × ((l : Lists) × CanonicalRow t o l × (Narrow l → ⊥))
SealsTo (Ok (New p)) t o = Within (count t) (by p) × NewRow t o (row_of t (by p))

-- no new row is wanted, or all 384 numbers are taken
abbrev pub NoRow : Tables → Sets → Type 0
NoRow t o = ((l : Lists) → NewRow t o l → ⊥) ⊎ (384 ≤ count t)

-- the tables after an extension: the new row has become the last, and its number is answered; or nothing has changed
abbrev pub Extended : Option ℕ → Tables → Tables → Sets → Type 0
Extended r t after o = MatchOption r ((rows_of after ≡ rows_of t) × NoRow t o) (λ k. (k ≡ count t) × ((l : Lists) × NewRow t o l × (rows_of after ≡ rows_of t ++ (l ∷ []))))
