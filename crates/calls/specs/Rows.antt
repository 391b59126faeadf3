-- A dictionary's rows, and the forms of its nodes.
-- Assumes nothing.
use Rattle.std.specs.Prelude.{ℕ, ◌<◌, List, [], ◌∷◌, ◌++◌, get_or, slice_index_or}
use Rattle.std.specs.List.{AllByRecursion}
use Rattle.games.specs.Form.{Form, 𝟎}
use Rattle.games.specs.Numbered.{Lists, form_by}

infix 40 ◌among◌
-- the rows of a store: the row at place n, counted from 0, is node n's
abbrev pub Rows : Type 0
Rows = List Lists

-- a row without options, and a draft with nothing put
abbrev pub no_numbers : Lists
no_numbers = record { left = []; right = [] }

-- the forms of the nodes, made in turn: the numbers of a row stand for forms made before it
abbrev pub made_after : List Form → Rows → List Form
made_after before [] = before
made_after before (r ∷ rows) = made_after (before ++ form_by (λ n. get_or before n 𝟎) r ∷ []) rows

-- the form of a node (its options are the forms of the nodes that its row names: `NodeReads` in Laws)
unfoldable pub node : Rows → ℕ → Form
node rows n = slice_index_or (made_after [] rows) n 𝟎

-- both lists name only numbers below n
pub record Below (n : ℕ) (l : Lists) : Type 0 where
  pub on_left : AllByRecursion (λ m. m < n) l.left
  pub on_right : AllByRecursion (λ m. m < n) l.right

-- x stands in the list
pub data ◌among◌ {A : Type 0} (x : A) : List A → Type 0 where
  first : {xs : List A} → x among (x ∷ xs)
  later : {y : A} {xs : List A} → x among xs → x among (y ∷ xs)
